-- A choice by the Bool that it goes by.
use mathlib.Core.Path.{◌≡◌}
use mathlib.Core.Bool.{Bool, true, false, cond}

pub on-true : {A : Type 0} (a : Bool) (x y : A) → a ≡ true → cond a x y ≡ x
on-true a x y e = rw e

pub on-false : {A : Type 0} (a : Bool) (x y : A) → a ≡ false → cond a x y ≡ y
on-false a x y e = rw e
