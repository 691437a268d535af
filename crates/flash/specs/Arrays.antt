-- What each operation leaves of the lent array.
use Rattle.std.specs.Prelude.{cond, List, [], ℕ, ◌%◌, length}
use Rattle.units.specs.declared.Address.{Address}
use Rattle.units.specs.declared.Sector.{Sector}
use Rattle.units.specs.declared.HalfBlock.{HalfBlock}
use Rattle.units.specs.declared.Block.{Block}
use Rattle.units.specs.Kinds.{sector_start, half_block_start, block_start, page_start, page_offset}
use Rattle.models.specs.Models.{is_length}
use Rattle.cells.specs.Cell.{erased, torn_cells}
use Rattle.fold.specs.Fold.{page_after}
use Rattle.parts.specs.Parts.{part, lay}

-- the 4,096 cells of the sector are FF, and every other cell is as it was (000 L315)
unfoldable pub sector_erased : List ℕ → Sector → List ℕ
sector_erased xs s = lay xs (sector_start s) (erased 4096)

-- the same of the 32,768 cells of a half block (003 L1233), and of the 65,536 of a block (000 L327)
unfoldable pub half_block_erased : List ℕ → HalfBlock → List ℕ
half_block_erased xs b = lay xs (half_block_start b) (erased 32768)

unfoldable pub block_erased : List ℕ → Block → List ℕ
block_erased xs b = lay xs (block_start b) (erased 65536)

-- every cell is FF (000 L335)
unfoldable pub all_erased : List ℕ → List ℕ
all_erased xs = erased (length xs)

-- the page that holds the address is programmed from the address's offset on, and every other cell is as it was (000 L343)
unfoldable pub programmed : List ℕ → Address → List ℕ → List ℕ
programmed xs a sent = lay xs (page_start a) (page_after (page_offset a) sent (part xs (page_start a) 256))

-- a program of the page's data bytes that was cut: each bit of the page's cells that was to change has its pattern bit, and every other cell is as it was
unfoldable pub page_torn : List ℕ → Address → List ℕ → List ℕ → List ℕ
page_torn xs a bytes pattern = lay xs (page_start a) (torn_cells bytes pattern (part xs (page_start a) 256))

-- the 256 cells of the page that the address, modulo the array's length, falls in; none where no model's array is so long (01, "Commands", page view)
unfoldable pub page_of : List ℕ → Address → List ℕ
page_of xs a = cond (is_length (length xs)) (part xs (page_start (record { 0 = a.0 % length xs })) 256) []
