-- A test that antt computes over a whole table, and what it says of each row.
use mathlib.Core.Path.{◌≡◌, sym, subst, ◌∙◌}
use mathlib.Core.Bool.{Bool, true, false, ◌&&◌, cond}
use mathlib.Core.List.{List, [], ◌∷◌}
use Prim.Native.Nat.{ℕ, zero, suc, ◌+◌, ◌<◌}
use native.Mathlib.Nat.{add-zero, zero-add, add-suc, suc-add, le_of_suc-le-suc, not-suc-le-zero}
use lib.Dec.{eqb}
use lib.ListN.{length, get_or}
use Rattle.models.specs.Models.{Part, find}
use Rattle.units.proofs.Bools.{both}

-- the test passes at each entry of the list and its place, counted from i
abbrev pub every : {A : Type 0} → (ℕ → A → Bool) → ℕ → List A → Bool
every f i [] = true
every f i (x ∷ xs) = f i x && every f (suc i) xs

from : {A : Type 0} (f : ℕ → A → Bool) (xs : List A) (d : A) (i : ℕ) → every f i xs ≡ true → (k : ℕ) → k < length xs → f (i + k) (get_or xs k d) ≡ true
from f [] d i t k h = absurd (not-suc-le-zero h)
from f (x ∷ xs) d i t zero h = subst (λ (m : ℕ). f m x ≡ true) (sym (add-zero i)) (both (f i x) (every f (suc i) xs) t).0
from f (x ∷ xs) d i t (suc k) h =
    subst (λ (m : ℕ). f m (get_or xs k d) ≡ true) (suc-add i k ∙ sym (add-suc i k))
    (from f xs d (suc i) (both (f i x) (every f (suc i) xs) t).1 k (le_of_suc-le-suc h))

pub at : {A : Type 0} (f : ℕ → A → Bool) (xs : List A) (d : A) → every f 0 xs ≡ true → (k : ℕ) → k < length xs → f k (get_or xs k d) ≡ true
at f xs d t k h = subst (λ (m : ℕ). f m (get_or xs k d) ≡ true) (zero-add k) (from f xs d 0 t k h)

-- a test that passes at every part, and at the one that stands in for the others, passes at the one that is found
pub found : (test : Part → Bool) (n : ℕ) (other : Part) (ps : List Part) → test other ≡ true → every (λ (i : ℕ) (p : Part). test p) 0 ps ≡ true → test (find n other ps) ≡ true
found test n other ps o t = go ps 0 t
  where
    go : (ps : List Part) (i : ℕ) → every (λ (i : ℕ) (p : Part). test p) i ps ≡ true → test (find n other ps) ≡ true
    go [] i t = o
    go (p ∷ ps) i t = pick (eqb n p.number) (go ps (suc i) (both (test p) (every (λ (i : ℕ) (p : Part). test p) (suc i) ps) t).1)
      where
        pick : (b : Bool) → test (find n other ps) ≡ true → test (cond b p (find n other ps)) ≡ true
        pick true r = (both (test p) (every (λ (i : ℕ) (p : Part). test p) (suc i) ps) t).0
        pick false r = r
