-- The sectors' lines, one after the other.
use mathlib.Core.Path.{◌≡◌, refl, sym, ap, ◌∙◌}
use mathlib.Core.List.{List, [], ◌∷◌, ◌++◌, append_assoc, append-nil}
use Prim.Native.Nat.{ℕ, zero, suc, ◌+◌, ◌*◌, ◌≤◌, ◌<◌, max}
use native.Mathlib.Omega.{arith}
use lib.ListN.{length, get_or, drop, drop_of_length-le}
use lib.Seq.{drop-cons}
use Rattle.text.specs.Put.{Put}
use Rattle.text.proofs.PutLaws.{put-none, put_as, put_then}
use Rattle.counts.specs.Counts.{sector_at, most_from, largest_of}
use Rattle.wear_rows.specs.WearSheet.{sector_text, sectors_text, longest_line_of}

-- ---- no count is larger than the largest
most-from : (m : ℕ) (xs : List ℕ) → m ≤ most_from m xs
most-from m [] = omega arith
most-from m (x ∷ xs) = let h : max m x ≤ most_from (max m x) xs = most-from (max m x) xs in omega arith

most-in : (m : ℕ) (xs : List ℕ) (k : ℕ) → k < length xs → get_or xs k 0 ≤ most_from m xs
most-in m [] k l = absurd (omega arith)
most-in m (x ∷ xs) zero l = let h : max m x ≤ most_from (max m x) xs = most-from (max m x) xs in omega arith
most-in m (x ∷ xs) (suc k) l = most-in (max m x) xs k (omega arith)

pub at_most : (wear : List ℕ) (k : ℕ) → k < length wear → get_or wear k 0 ≤ largest_of wear
at_most [] k l = absurd (omega arith)
at_most (x ∷ xs) zero l = most-from x xs
at_most (x ∷ xs) (suc k) l = most-in x xs k (omega arith)

-- ---- the lines of the first k sectors are put, and those of the others are still to come
pub record Listed (largest : ℕ) (wear d : List ℕ) (at k : ℕ) (e : List ℕ) (to : ℕ) : Type 0 where
  pub text : List ℕ
  pub put : Put text d at e to
  pub rest : sectors_text largest 0 wear ≡ text ++ sectors_text largest k (drop k wear)
  pub most : to ≤ at + longest_line_of * k

pub listed-none : (largest : ℕ) (wear d : List ℕ) (at : ℕ) → at ≤ length d → Listed largest wear d at 0 d at
listed-none largest wear d at l = record { text = []; put = put-none d at l; rest = refl; most = omega arith }

pub listed_more : {largest : ℕ} {wear d : List ℕ} {at k : ℕ} {e : List ℕ} {to : ℕ} {f : List ℕ} {r : ℕ} → Listed largest wear d at k e to → k < length wear
    → Put (sector_text largest (sector_at k) (get_or wear k 0)) e to f r → r ≤ to + longest_line_of → Listed largest wear d at (k + 1) f r
listed_more {largest} {wear} {d} {at} {k} {f = f} {r = r} h l p m =
    let n : k + 1 ≡ suc k = omega arith in
    rw n
    (record {
      text = h.text ++ sector_text largest (sector_at k) (get_or wear k 0);
      put = put_then h.put p;
      rest = h.rest ∙ ap (λ (z : List ℕ). h.text ++ sectors_text largest k z) (drop-cons wear k 0 l)
          ∙ sym (append_assoc h.text (sector_text largest (sector_at k) (get_or wear k 0)) (sectors_text largest (suc k) (drop (suc k) wear)));
      most = omega (arith, h.most);
    })

pub listed-all : {largest : ℕ} {wear d : List ℕ} {at k : ℕ} {e : List ℕ} {to : ℕ} → Listed largest wear d at k e to → length wear ≤ k → Put (sectors_text largest 0 wear) d at e to
listed-all {largest} {wear} {k = k} h l =
    let none : drop k wear ≡ [] = drop_of_length-le wear {i = k} l in
    put_as h.put (sym (h.rest ∙ ap (λ (z : List ℕ). h.text ++ sectors_text largest k z) none ∙ append-nil h.text))
