-- When two texts are the same, as the library compares them.
use mathlib.Core.Path.{◌≡◌, refl, ap, ◌∙◌}
use mathlib.Core.Bool.{Bool, ◌&&◌}
use mathlib.Core.List.{List, [], ◌∷◌}
use Prim.Native.Nat.{ℕ}
use lib.Dec.{eqb}
use lib.Pointwise.{pointwise}
use Rattle.words.specs.Words.{same_text}

same-is : (xs ys : List ℕ) → pointwise eqb xs ys ≡ same_text xs ys
same-is [] [] = refl
same-is [] (y ∷ ys) = refl
same-is (x ∷ xs) [] = refl
same-is (x ∷ xs) (y ∷ ys) = ap (λ (b : Bool). eqb x y && b) (same-is xs ys)

pub same-told : (word other this : List ℕ) {r : Bool} → r ≡ pointwise eqb word other → other ≡ this → r ≡ same_text word this
same-told word other this e h = e ∙ ap (pointwise eqb word) h ∙ same-is word this
