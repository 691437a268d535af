-- The sheet's sentences on a page program, as statements about the fold. Each is proved in `proofs/Counts.antt`, under the same name in small letters.
use Rattle.std.specs.Prelude.{◌≡◌, true, false, List, ℕ, ◌+◌, ◌%◌, ◌≤◌, ◌<◌, length, get_or}
use Rattle.cells.specs.Cell.{bit}
use Rattle.fold.specs.Fold.{counts, cell_after, folds}

-- "the data of the last 256-byte is programmed at the request page and previous data will be disregarded" (000 L343):
-- of n bytes sent from offset a on, byte i counts at its offset if no later byte has that offset
abbrev pub LastCounts : Type 0
LastCounts =
    (a : ℕ) (sent : List ℕ) (n i k : ℕ)
    → i < n → (a + i) % 256 ≡ k → ((j : ℕ) → i < j → j < n → (a + j) % 256 ≡ k → ⊥)
    → counts a sent n k ≡ get_or sent i 0

-- "without effect on other address of the same page" (000 L343): the cell at an offset that no byte has stays
abbrev pub UnreachedStays : Type 0
UnreachedStays =
    (a : ℕ) (sent : List ℕ) (k old : ℕ)
    → old < 256 → ((j : ℕ) → j < length sent → (a + j) % 256 ≡ k → ⊥)
    → cell_after a sent k old ≡ old

-- "for programming the memory to be "0"" (000 L343): a bit that is 0 stays 0
abbrev pub OnlyFalls : Type 0
OnlyFalls = (b a : ℕ) (sent : List ℕ) (k old : ℕ) → bit b (cell_after a sent k old) ≤ bit b old

-- "data which goes beyond the end of the current page" (000 L343): n bytes fold exactly when some byte i of them has a + i ≥ 256
abbrev pub FoldsWhen : Type 0
FoldsWhen = (a n i : ℕ) → i < n → 256 ≤ a + i → folds a n ≡ true

abbrev pub FoldsOnlyWhen : Type 0
FoldsOnlyWhen = (a n : ℕ) → a < 256 → folds a n ≡ true → (i : ℕ) × (i < n) × (256 ≤ a + i)

-- without a fold byte i stands, and counts, at offset a + i
abbrev pub StraightOn : Type 0
StraightOn =
    (a : ℕ) (sent : List ℕ) (i : ℕ)
    → folds a (length sent) ≡ false → i < length sent
    → ((a + i) % 256 ≡ a + i) × (counts a sent (length sent) (a + i) ≡ get_or sent i 0)
