-- The strict setting (02, Req 08): a page program is refused exactly if some addressed cell would not end up holding the byte that counts for it after
-- folding. The test, and what follows from it: each statement is proved in `proofs/Strict.antt`, under the same name in small letters.
use Rattle.std.specs.Prelude.{◌≡◌, Bool, true, false, cond, not, ◌&&◌, ◌||◌, List, ℕ, zero, suc, ◌+◌, ◌%◌, ◌<◌, eqb, length, get_or}
use Rattle.cells.specs.Cell.{bit, erased}
use Rattle.parts.specs.Parts.{Bytes, some_by_index}
use Rattle.fold.specs.Fold.{counts, cell_after, page_after}

-- whether one of n bytes from offset a on goes to offset k
unfoldable pub reached : ℕ → ℕ → ℕ → Bool
reached a zero k = false
reached a (suc i) k = eqb ((a + i) % 256) k || reached a i k

-- whether offset k is reached, and the cell there, that held old, would not end up holding the byte that counts for it
unfoldable pub lost : ℕ → List ℕ → ℕ → ℕ → Bool
lost a sent k old = reached a (length sent) k && not (eqb (cell_after a sent k old) (counts a sent (length sent) k))

-- whether that is so at some offset of the page
unfoldable pub over_old : ℕ → List ℕ → List ℕ → Bool
over_old a sent page = some_by_index (lost a sent) page

-- ---- which offsets are reached: exactly those that some byte i of the n has
abbrev pub ReachedWhen : Type 0
ReachedWhen = (a n i k : ℕ) → i < n → (a + i) % 256 ≡ k → reached a n k ≡ true

abbrev pub ReachedOnlyWhen : Type 0
ReachedOnlyWhen = (a n k : ℕ) → reached a n k ≡ true → (i : ℕ) × (i < n) × ((a + i) % 256 ≡ k)

-- ---- which programs are refused: exactly those for which a bit would have to rise
-- bit b at offset k would have to: the offset is reached, and the bit is 0 in the cell and 1 in the byte that counts
pub record MustRise (a : ℕ) (sent page : List ℕ) (k b : ℕ) : Type 0 where
  pub inside : k < length page
  pub hit : reached a (length sent) k ≡ true
  pub low : bit b (get_or page k 0) ≡ 0
  pub high : bit b (counts a sent (length sent) k) ≡ 1

abbrev pub OverOldWhen : Type 0
OverOldWhen = (a : ℕ) (sent page : List ℕ) (k b : ℕ) → MustRise a sent page k b → over_old a sent page ≡ true

abbrev pub OverOldOnlyWhen : Type 0
OverOldOnlyWhen = (a : ℕ) (sent page : List ℕ) → Bytes sent → over_old a sent page ≡ true → (k : ℕ) × (b : ℕ) × (b < 8) × MustRise a sent page k b

-- ---- what an accepted program leaves
-- at each offset that is reached the byte that counts, and every other cell as it was
abbrev pub ReadsBack : Type 0
ReadsBack =
    (a : ℕ) (sent page : List ℕ) (k : ℕ)
    → Bytes page → over_old a sent page ≡ false → k < length page
    → get_or (page_after a sent page) k 0 ≡ cond (reached a (length sent) k) (counts a sent (length sent) k) (get_or page k 0)

-- and no other is refused: one that leaves the byte that counts at each offset that is reached is accepted
abbrev pub AcceptedWhen : Type 0
AcceptedWhen =
    (a : ℕ) (sent page : List ℕ)
    → ((k : ℕ) → k < length page → reached a (length sent) k ≡ true → get_or (page_after a sent page) k 0 ≡ counts a sent (length sent) k)
    → over_old a sent page ≡ false

-- on an erased page no program is refused
abbrev pub ErasedAccepts : Type 0
ErasedAccepts = (a : ℕ) (sent : List ℕ) → Bytes sent → over_old a sent (erased 256) ≡ false
