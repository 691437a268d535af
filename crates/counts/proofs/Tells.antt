-- The figures of a report are what they are called.
use mathlib.Core.Path.{◌≡◌, refl, sym, ap, ◌∙◌}
use mathlib.Core.Bool.{Bool, true, false, cond}
use mathlib.Core.List.{List, [], ◌∷◌}
use mathlib.Core.Logic.{◌⊎◌, inl, inr, ⊎_elim}
use Prim.Native.Nat.{ℕ, zero, suc, ◌+◌, ◌*◌, ◌/◌, ◌%◌, ◌≤◌, ◌<◌, min, max}
use native.Mathlib.Nat.{mod-lt, div-add-mod, mul_comm}
use native.Mathlib.Omega.{arith}
use lib.Dec.{eqb, leb}
use lib.ListN.{length, get_or}
use borrow.Author.Tests.{eqb-true, eqb-false, eq-eqb, leb-true, leb-false}
use Rattle.counts.specs.Counts.{least_from, most_from, smallest_of, largest_of, first_with, total_of, report_of}
use Rattle.counts.specs.Tells.{Has, ReportTells}
use Rattle.counts.proofs.Laws.{sectors-range}

-- ---- the smallest
least-le : (m : ℕ) (xs : List ℕ) → least_from m xs ≤ m
least-le m [] = omega arith
least-le m (x ∷ xs) = omega (arith, least-le (min m x) xs)

least-all : (m : ℕ) (xs : List ℕ) (k : ℕ) → k < length xs → least_from m xs ≤ get_or xs k 0
least-all m [] k l = absurd (omega arith)
least-all m (x ∷ xs) zero l = omega (arith, least-le (min m x) xs)
least-all m (x ∷ xs) (suc k) l = least-all (min m x) xs k (omega arith)

either-low : (m x : ℕ) → (min m x ≡ m) ⊎ (min m x ≡ x)
either-low m x = go (leb m x) refl
  where
    go : (b : Bool) → leb m x ≡ b → (min m x ≡ m) ⊎ (min m x ≡ x)
    go true e = inl (omega (arith, leb-true m x e))
    go false e = inr (omega (arith, leb-false m x e))

next : (x : ℕ) (xs : List ℕ) (v : ℕ) → Has xs v → Has (x ∷ xs) v
next x xs v h = (suc h.0, (omega (arith, h.1.0), h.1.1))

least-has : (m : ℕ) (xs : List ℕ) → (least_from m xs ≡ m) ⊎ Has xs (least_from m xs)
least-has m [] = inl refl
least-has m (x ∷ xs) =
    ⊎_elim (λ e. ⊎_elim (λ d. inl (e ∙ d)) (λ d. inr (0, (omega arith, sym (e ∙ d)))) (either-low m x)) (λ h. inr (next x xs (least_from (min m x) xs) h)) (least-has (min m x) xs)

-- ---- the largest
most-ge : (m : ℕ) (xs : List ℕ) → m ≤ most_from m xs
most-ge m [] = omega arith
most-ge m (x ∷ xs) = omega (arith, most-ge (max m x) xs)

most-all : (m : ℕ) (xs : List ℕ) (k : ℕ) → k < length xs → get_or xs k 0 ≤ most_from m xs
most-all m [] k l = absurd (omega arith)
most-all m (x ∷ xs) zero l = omega (arith, most-ge (max m x) xs)
most-all m (x ∷ xs) (suc k) l = most-all (max m x) xs k (omega arith)

either-high : (m x : ℕ) → (max m x ≡ m) ⊎ (max m x ≡ x)
either-high m x = go (leb m x) refl
  where
    go : (b : Bool) → leb m x ≡ b → (max m x ≡ m) ⊎ (max m x ≡ x)
    go true e = inr (omega (arith, leb-true m x e))
    go false e = inl (omega (arith, leb-false m x e))

most-has : (m : ℕ) (xs : List ℕ) → (most_from m xs ≡ m) ⊎ Has xs (most_from m xs)
most-has m [] = inl refl
most-has m (x ∷ xs) =
    ⊎_elim (λ e. ⊎_elim (λ d. inl (e ∙ d)) (λ d. inr (0, (omega arith, sym (e ∙ d)))) (either-high m x)) (λ h. inr (next x xs (most_from (max m x) xs) h)) (most-has (max m x) xs)

-- ---- of a table that has a first count
smallest-has : (wear : List ℕ) → 0 < length wear → Has wear (smallest_of wear)
smallest-has [] l = absurd (omega arith)
smallest-has (x ∷ xs) l = ⊎_elim (λ e. (0, (omega arith, sym e))) (λ h. next x xs (least_from x xs) h) (least-has x xs)

smallest-all : (wear : List ℕ) (k : ℕ) → k < length wear → smallest_of wear ≤ get_or wear k 0
smallest-all [] k l = absurd (omega arith)
smallest-all (x ∷ xs) zero l = least-le x xs
smallest-all (x ∷ xs) (suc k) l = least-all x xs k (omega arith)

largest-has : (wear : List ℕ) → 0 < length wear → Has wear (largest_of wear)
largest-has [] l = absurd (omega arith)
largest-has (x ∷ xs) l = ⊎_elim (λ e. (0, (omega arith, sym e))) (λ h. next x xs (most_from x xs) h) (most-has x xs)

largest-all : (wear : List ℕ) (k : ℕ) → k < length wear → get_or wear k 0 ≤ largest_of wear
largest-all [] k l = absurd (omega arith)
largest-all (x ∷ xs) zero l = most-ge x xs
largest-all (x ∷ xs) (suc k) l = most-all x xs k (omega arith)

-- ---- the first sector with a count that some sector has
abbrev First : ℕ → List ℕ → ℕ → Type 0
First v xs s = (s < length xs) × ((get_or xs s 0 ≡ v) × ((i : ℕ) → i < s → get_or xs i 0 ≡ v → ⊥))

later : (v x : ℕ) (xs : List ℕ) (s : ℕ) → eqb x v ≡ false → First v xs s → First v (x ∷ xs) (suc s)
later v x xs s d h = (omega (arith, h.0), (h.1.0, before))
  where
    before : (i : ℕ) → i < suc s → get_or (x ∷ xs) i 0 ≡ v → ⊥
    before zero m z = eqb-false x v d z
    before (suc i) m z = h.1.1 i (omega arith) z

first-has : (v : ℕ) (xs : List ℕ) (k : ℕ) → k < length xs → get_or xs k 0 ≡ v → First v xs (first_with v xs)
first-has v [] k l e = absurd (omega arith)
first-has v (x ∷ xs) zero l e = rw (eq-eqb x v e) (omega arith, (e, λ i m z. omega arith))
first-has v (x ∷ xs) (suc k) l e = go (eqb x v) refl (first-has v xs k (omega arith) e)
  where
    go : (b : Bool) → eqb x v ≡ b → First v xs (first_with v xs) → First v (x ∷ xs) (cond b 0 (suc (first_with v xs)))
    go true d h = (omega arith, (eqb-true x v d, λ i m z. omega arith))
    go false d h = later v x xs (first_with v xs) d h

pub report-tells : ReportTells
unfolding report_of
report-tells wear e =
    let some : 0 < length wear = omega (arith, sectors-range (length wear) e) in
    let top = largest-has wear some in
    let f = first-has (largest_of wear) wear top.0 top.1.0 top.1.1 in (
      rw e,
      record {
        total = refl;
        mean = whole (total_of wear) (length wear);
        remainder = mod-lt (total_of wear) some;
        smallest = smallest-has wear some;
        none-smaller = smallest-all wear;
        largest = f.1.0;
        none-larger = largest-all wear;
        within = f.0;
        first = λ k m. below k (f.1.1 k m) (largest-all wear k (omega (arith, f.0)));
      },
    )
  where
    whole : (t n : ℕ) → t / n * n + t % n ≡ t
    whole t n = ap (λ (a : ℕ). a + t % n) (mul_comm (t / n) n) ∙ div-add-mod t n

    below : (k : ℕ) → (get_or wear k 0 ≡ largest_of wear → ⊥) → get_or wear k 0 ≤ largest_of wear → get_or wear k 0 < largest_of wear
    below k ne le = omega (arith, ne, le)
