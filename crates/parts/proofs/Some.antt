-- Whether some element of a list passes a test that knows its index.
use mathlib.Core.Path.{◌≡◌, refl, sym, ap, ◌∙◌}
use mathlib.Core.Bool.{Bool, true, false, ◌||◌, true≢false, false≢true, or-true, or-false, or_assoc}
use mathlib.Core.List.{List, [], ◌∷◌}
use Prim.Native.Nat.{ℕ, zero, suc, suc-le-suc, ◌+◌, ◌≤◌, ◌<◌}
use native.Mathlib.Nat.{not-suc-le-zero, le_of_suc-le-suc}
use native.Mathlib.Omega.{arith}
use lib.ListN.{length, drop, get_or, drop_of_length-le}
use lib.Seq.{drop-cons}
use Rattle.parts.specs.Parts.{some_from, some_by_index}

module _ (f : ℕ → ℕ → Bool) where
  -- one index, written in two ways
  same : (m n x : ℕ) {t : Bool} → m ≡ n → f n x ≡ t → f m x ≡ t
  same m n x e p = ap (λ (i : ℕ). f i x) e ∙ p

  from_at : (at : ℕ) (xs : List ℕ) (k : ℕ) → k < length xs → f (at + k) (get_or xs k 0) ≡ true → some_from f at xs ≡ true
  from_at at [] k l e = absurd (not-suc-le-zero l)
  from_at at (x ∷ xs) zero l e = ap (λ (t : Bool). t || some_from f (suc at) xs) (same at (at + 0) x (omega arith) e)
  from_at at (x ∷ xs) (suc k) l e =
      ap (λ (t : Bool). f at x || t) (from_at (suc at) xs k (le_of_suc-le-suc l) (same (suc at + k) (at + suc k) (get_or xs k 0) (omega arith) e)) ∙ or-true (f at x)

  from_found : (at : ℕ) (xs : List ℕ) → some_from f at xs ≡ true → (k : ℕ) × (k < length xs) × (f (at + k) (get_or xs k 0) ≡ true)
  from_found at [] e = absurd (false≢true e)
  from_found at (x ∷ xs) e = go (f at x) refl (from_found (suc at) xs)
    where
      go : (t : Bool) → f at x ≡ t → (some_from f (suc at) xs ≡ true → (k : ℕ) × (k < length xs) × (f (suc at + k) (get_or xs k 0) ≡ true))
          → (k : ℕ) × (k < length (x ∷ xs)) × (f (at + k) (get_or (x ∷ xs) k 0) ≡ true)
      go true p later = (0, omega arith, same (at + 0) at x (omega arith) p)
      go false p later =
          let r = later (sym (ap (λ (t : Bool). t || some_from f (suc at) xs) p) ∙ e) in
          (suc r.0, suc-le-suc r.1, same (at + suc r.0) (suc at + r.0) (get_or xs r.0 0) (omega arith) r.2)

  -- an element that passes
  pub some_at : (xs : List ℕ) (k : ℕ) → k < length xs → f k (get_or xs k 0) ≡ true → some_by_index f xs ≡ true
  some_at xs k l e = from_at 0 xs k l (same (0 + k) k (get_or xs k 0) (omega arith) e)

  -- where some element passes, one can be named
  pub some-found : (xs : List ℕ) → some_by_index f xs ≡ true → (k : ℕ) × (k < length xs) × (f k (get_or xs k 0) ≡ true)
  some-found xs e =
      let r = from_found 0 xs e in
      (r.0, r.1, same r.0 (0 + r.0) (get_or xs r.0 0) (omega arith) r.2)

  -- where none passes
  pub none_passes : (xs : List ℕ) → ((k : ℕ) → k < length xs → f k (get_or xs k 0) ≡ false) → some_by_index f xs ≡ false
  none_passes xs h = go (some_by_index f xs) refl
    where
      go : (t : Bool) → some_by_index f xs ≡ t → t ≡ false
      go true e = let r = some-found xs e in absurd (false≢true (sym (h r.0 r.1) ∙ r.2))
      go false e = refl

  pub none-at : (xs : List ℕ) (k : ℕ) → some_by_index f xs ≡ false → k < length xs → f k (get_or xs k 0) ≡ false
  none-at xs k e l = go (f k (get_or xs k 0)) refl
    where
      go : (t : Bool) → f k (get_or xs k 0) ≡ t → t ≡ false
      go true p = absurd (false≢true (sym e ∙ some_at xs k l p))
      go false p = refl

  -- ---- a loop that looks at one element a turn: what was found, and what those still to come say
  pub some_more : (xs : List ℕ) (i : ℕ) (found : Bool) {whole : Bool} → i < length xs → (found || some_from f i (drop i xs)) ≡ whole
      → ((found || f i (get_or xs i 0)) || some_from f (i + 1) (drop (i + 1) xs)) ≡ whole
  some_more xs i found l e =
      let next : i + 1 ≡ suc i = omega arith in
      rw next
      (or_assoc found (f i (get_or xs i 0)) (some_from f (suc i) (drop (suc i) xs)) ∙ sym (ap (λ d. found || some_from f i d) (drop-cons xs i 0 l)) ∙ e)

  pub some-all : (xs : List ℕ) (i : ℕ) (found : Bool) {whole : Bool} → length xs ≤ i → (found || some_from f i (drop i xs)) ≡ whole → found ≡ whole
  some-all xs i found l e = sym (or-false found) ∙ sym (ap (λ d. found || some_from f i d) (drop_of_length-le xs {i = i} l)) ∙ e

-- two tests that agree on every element
pub some_same : (f g : ℕ → ℕ → Bool) (xs : List ℕ) → ((k : ℕ) → k < length xs → f k (get_or xs k 0) ≡ g k (get_or xs k 0)) → some_by_index f xs ≡ some_by_index g xs
some_same f g xs h = go (some_by_index f xs) refl (some_by_index g xs) refl
  where
    go : (t : Bool) → some_by_index f xs ≡ t → (u : Bool) → some_by_index g xs ≡ u → t ≡ u
    go true p true q = refl
    go true p false q = let r = some-found f xs p in absurd (true≢false (sym (sym (h r.0 r.1) ∙ r.2) ∙ none-at g xs r.0 q r.1))
    go false p true q = let r = some-found g xs q in absurd (true≢false (sym (h r.0 r.1 ∙ r.2) ∙ none-at f xs r.0 p r.1))
    go false p false q = refl
