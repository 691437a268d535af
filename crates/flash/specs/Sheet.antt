-- The sheet's sentences on cells, as statements about the definitions. Each is proved in `proofs/`, under the same name in small letters.
use Rattle.std.specs.Prelude.{◌≡◌, List, ℕ, ◌+◌, ◌/◌, ◌≤◌, ◌<◌, length, get_or}
use Rattle.units.specs.declared.Address.{Address}
use Rattle.units.specs.declared.Sector.{Sector}
use Rattle.units.specs.declared.HalfBlock.{HalfBlock}
use Rattle.units.specs.declared.Block.{Block}
use Rattle.units.specs.Kinds.{sector_start, half_block_start, block_start, page_start, page_offset}
use Rattle.cells.specs.Cell.{FF}
use Rattle.fold.specs.Fold.{cell_after}
use Rattle.flash.specs.Arrays.{sector_erased, half_block_erased, block_erased, all_erased, programmed}

-- "all transmitted data which goes beyond the end of the current page are programmed from the start address" of the same page (000 L343):
-- the cells of the page are as the fold says, and a cell of another page stays
abbrev pub PageFolds : Type 0
PageFolds =
    (xs : List ℕ) (a : Address) (sent : List ℕ) (k : ℕ)
    → page_start a + 256 ≤ length xs → k < 256
    → get_or (programmed xs a sent) (page_start a + k) 0 ≡ cell_after (page_offset a) sent k (get_or xs (page_start a + k) 0)

abbrev pub OutsideStays : Type 0
OutsideStays =
    (xs : List ℕ) (a : Address) (sent : List ℕ) (k : ℕ)
    → page_start a + 256 ≤ length xs → (k / 256 ≡ a.0 / 256 → ⊥)
    → get_or (programmed xs a sent) k 0 ≡ get_or xs k 0

-- from xs to ys the cells from start on, size of them, became FF, and every other cell stayed
pub record ErasesOnly (start size : ℕ) (xs ys : List ℕ) : Type 0 where
  pub unit : (k : ℕ) → start ≤ k → k < start + size → get_or ys k 0 ≡ FF
  pub before : (k : ℕ) → k < start → get_or ys k 0 ≡ get_or xs k 0
  pub behind : (k : ℕ) → start + size ≤ k → get_or ys k 0 ≡ get_or xs k 0

-- "for erasing the data of the chosen sector to be "1"" (000 L315), of the chosen half block (003 L1233) or block (000 L327), of the whole chip (000 L335)
abbrev pub SectorErase : Type 0
SectorErase = (xs : List ℕ) (s : Sector) → sector_start s + 4096 ≤ length xs → ErasesOnly (sector_start s) 4096 xs (sector_erased xs s)

abbrev pub HalfBlockErase : Type 0
HalfBlockErase =
    (xs : List ℕ) (b : HalfBlock) → half_block_start b + 32768 ≤ length xs → ErasesOnly (half_block_start b) 32768 xs (half_block_erased xs b)

abbrev pub BlockErase : Type 0
BlockErase = (xs : List ℕ) (b : Block) → block_start b + 65536 ≤ length xs → ErasesOnly (block_start b) 65536 xs (block_erased xs b)

abbrev pub ChipErase : Type 0
ChipErase = (xs : List ℕ) → ErasesOnly 0 (length xs) xs (all_erased xs)
