-- Bools taken apart.
use mathlib.Core.Path.{◌≡◌, refl}
use mathlib.Core.Bool.{Bool, true, false, not, ◌&&◌, ◌||◌, true≢false, false≢true}
use mathlib.Core.Logic.{◌⊎◌, inl, inr}

pub both : (a b : Bool) → (a && b) ≡ true → (a ≡ true) × (b ≡ true)
both true b e = (refl, e)
both false b e = absurd (false≢true e)

pub neither : (a b : Bool) → (a || b) ≡ false → (a ≡ false) × (b ≡ false)
neither true b e = absurd (true≢false e)
neither false b e = (refl, e)

pub either : (a b : Bool) → (a || b) ≡ true → (a ≡ true) ⊎ (b ≡ true)
either true b e = inl refl
either false b e = inr e

-- a test `a and not b` that fails: where a holds so does b
pub unless : (a b : Bool) → (a && not b) ≡ false → a ≡ true → b ≡ true
unless true true e h = refl
unless true false e h = absurd (true≢false e)
unless false b e h = absurd (false≢true h)

-- and where b fails so does a
pub only_if : (a b : Bool) → (a && not b) ≡ false → b ≡ false → a ≡ false
only_if true true e h = absurd (true≢false h)
only_if true false e h = absurd (true≢false e)
only_if false b e h = refl
