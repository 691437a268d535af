-- A loop that stores, at its turn i, f i x in the place of the element x at i.
use mathlib.Core.Path.{◌≡◌, refl, sym, ap, ◌∙◌}
use mathlib.Core.Bool.{Bool, true, false}
use mathlib.Core.List.{List, [], ◌∷◌}
use Prim.Native.Nat.{ℕ, zero, suc, ◌+◌, ◌≤◌, ◌<◌}
use native.Mathlib.Nat.{le_refl, not-suc-le-zero, le_of_suc-le-suc, add-zero, add-suc, suc-add}
use native.Mathlib.Omega.{arith}
use lib.Dec.{eqb}
use lib.ListN.{length, get_or, set, length-set}
use lib.Seq.{get_or-set_same, get_or-set_other, ext_get_or}
use borrow.Author.Tests.{eqb-true, eqb-false}
use Rattle.parts.specs.Parts.{map_from, by_index}

length-map_from : (f : ℕ → ℕ → ℕ) (at : ℕ) (d : List ℕ) → length (map_from f at d) ≡ length d
length-map_from f at [] = refl
length-map_from f at (x ∷ d) = ap suc (length-map_from f (suc at) d)

map_from-at : (f : ℕ → ℕ → ℕ) (at : ℕ) (d : List ℕ) (k : ℕ) → k < length d → get_or (map_from f at d) k 0 ≡ f (at + k) (get_or d k 0)
map_from-at f at [] k l = absurd (not-suc-le-zero l)
map_from-at f at (x ∷ d) zero l = ap (λ (n : ℕ). f n x) (sym (add-zero at))
map_from-at f at (x ∷ d) (suc k) l =
    map_from-at f (suc at) d k (le_of_suc-le-suc l) ∙ ap (λ (n : ℕ). f n (get_or d k 0)) (suc-add at k ∙ sym (add-suc at k))

pub length-by_index : (f : ℕ → ℕ → ℕ) (d : List ℕ) → length (by_index f d) ≡ length d
length-by_index f d = length-map_from f 0 d

pub by_index-at : (f : ℕ → ℕ → ℕ) (d : List ℕ) (k : ℕ) → k < length d → get_or (by_index f d) k 0 ≡ f k (get_or d k 0)
by_index-at f d k l = map_from-at f 0 d k l ∙ ap (λ (n : ℕ). f n (get_or d k 0)) (omega arith)

-- the elements of xs below i are done, and the others are as they were in d
pub record Done (f : ℕ → ℕ → ℕ) (i : ℕ) (d xs : List ℕ) : Type 0 where
  pub same : length xs ≡ length d
  pub passed : (k : ℕ) → k < i → get_or xs k 0 ≡ f k (get_or d k 0)
  pub ahead : (k : ℕ) → i ≤ k → get_or xs k 0 ≡ get_or d k 0

module _ (f : ℕ → ℕ → ℕ) where
  pub done_none : (d : List ℕ) → Done f 0 d d
  done_none d = record { same = refl; passed = λ k l. absurd (not-suc-le-zero l); ahead = λ k l. refl }

  pub done_more : (i v : ℕ) (d xs : List ℕ) → Done f i d xs → i < length d → v ≡ f i (get_or d i 0) → Done f (i + 1) d (set xs i v)
  done_more i v d xs h l e =
      record {
        same = simp length-set h.same;
        passed = λ k m. at (eqb k i) k refl m;
        ahead = λ k m. get_or-set_other xs i k v 0 (λ (p : k ≡ i). omega arith) ∙ h.ahead k (omega arith);
      }
    where
      at : (t : Bool) (k : ℕ) → eqb k i ≡ t → k < i + 1 → get_or (set xs i v) k 0 ≡ f k (get_or d k 0)
      at true k p m = rw (eqb-true k i p) (get_or-set_same xs i v 0 (omega (arith, h.same)) ∙ e)
      at false k p m =
          let ne : k ≡ i → ⊥ = eqb-false k i p in
          get_or-set_other xs i k v 0 ne ∙ h.passed k (omega arith)

  -- the same, of what the turn reads in xs itself
  pub done-step : (i v : ℕ) (d xs : List ℕ) → Done f i d xs → i < length d → v ≡ f i (get_or xs i 0) → Done f (i + 1) d (set xs i v)
  done-step i v d xs h l e = done_more i v d xs h l (e ∙ ap (f i) (h.ahead i (le_refl i)))

  pub done_all : (i : ℕ) (d xs : List ℕ) → Done f i d xs → length d ≤ i → xs ≡ by_index f d
  done_all i d xs h l =
      ext_get_or 0 xs (by_index f d) (h.same ∙ sym (length-map_from f 0 d))
      (λ k m. let n : k < length d = omega (arith, h.same) in h.passed k (omega arith) ∙ sym (by_index-at f d k n))

-- all of src is copied
pub copied : (src : List ℕ) (i : ℕ) (d xs : List ℕ) → Done (λ (k old : ℕ). get_or src k 0) i d xs → length d ≤ i → length d ≡ length src → xs ≡ src
copied src i d xs h l e = ext_get_or 0 xs src (h.same ∙ e) (λ k m. h.passed k (omega (arith, h.same)))
