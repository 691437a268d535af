-- What an operation does once its time has run out, and what a cut of the power leaves of it: 01, "Commands", and Req 05.
use Rattle.std.specs.Prelude.{Bool, false, ◌&&◌, ◌||◌, cond, List, ℕ, ◌+◌, ◌*◌, ◌/◌, ◌%◌, eqb, leb, get_or, Option, Some, None}
use Rattle.parts.specs.Parts.{lay}
use Rattle.cells.specs.Cell.{torn}
use Rattle.units.specs.declared.Address.{Address}
use Rattle.units.specs.Kinds.{sector_of, half_block_of, block_of, page_start, sector_start, half_block_start, block_start}
use Rattle.models.specs.Models.{model_of}
use Rattle.flash.specs.Arrays.{sector_erased, half_block_erased, block_erased, all_erased, programmed, page_torn}
use Rattle.commands.specs.Commands.{started_by}
use Rattle.commands.specs.declared.Operation.{Operation}
use Rattle.commands.specs.declared.Operation.TheVariants.{WritesStatus, Programs, ErasesSector, ErasesHalf, ErasesBlock, ErasesChip}
use Rattle.states.specs.States.{flag, blank_page, no_command, no_address, Chip, chip_of}
use Rattle.states.specs.declared.State.{State}

-- ---- the unit of an operation: where its cells start, and how many there are; n is the array's length
pub record Extent : Type 0 where
  pub start : ℕ
  pub size : ℕ

abbrev pub extent : ℕ → ℕ → Extent
extent start size = record { start = start; size = size }

abbrev pub unit_of : Option Operation → Address → ℕ → Extent
unit_of None at n = extent 0 0
unit_of (Some WritesStatus) at n = extent 0 0
unit_of (Some Programs) at n = extent (page_start at) 256
unit_of (Some ErasesSector) at n = extent (sector_start (sector_of at)) 4096
unit_of (Some ErasesHalf) at n = extent (half_block_start (half_block_of at)) 32768
unit_of (Some ErasesBlock) at n = extent (block_start (block_of at)) 65536
unit_of (Some ErasesChip) at n = extent 0 n

-- ---- it has finished
-- its cells: the page data are programmed into the page, offset by offset (000 L343); an erased unit is FF (000 L315, L327, L335, 003 L1233)
abbrev pub page_address : Address → Address
page_address at = record { 0 = page_start at }

abbrev pub finished_cells : Option Operation → Address → List ℕ → List ℕ → List ℕ
finished_cells None at page cells = cells
finished_cells (Some WritesStatus) at page cells = cells
finished_cells (Some Programs) at page cells = programmed cells (page_address at) page
finished_cells (Some ErasesSector) at page cells = sector_erased cells (sector_of at)
finished_cells (Some ErasesHalf) at page cells = half_block_erased cells (half_block_of at)
finished_cells (Some ErasesBlock) at page cells = block_erased cells (block_of at)
finished_cells (Some ErasesChip) at page cells = all_erased cells

-- a second data byte: bits 7, 6, 4, 1 and 0 are replaced, TB (bit 3) can only become 1, bits 5 and 2 are reserved and 0 (003 L840-843, L828-864)
unfoldable pub config_written : ℕ → ℕ → ℕ
config_written old b =
    b / 64 * 64 + (flag (eqb (b / 16 % 2) 1) 16 + (flag (eqb (old / 8 % 2) 1 || eqb (b / 8 % 2) 1) 8 + b % 4))

-- without a second data byte the register stays (003 L899, silent), as where there is none
unfoldable pub config_after : ℕ → State → List ℕ → ℕ
config_after n s page = cond ((model_of n).register && eqb s.address 2) (config_written s.config (get_or page 1 0)) s.config

-- SRWD, BP and the register become others, and the rest stays
abbrev pub keeping : State → Bool → ℕ → ℕ → State
keeping s srwd bp config =
    record { srwd = srwd; bp = bp; config = config; wel = s.wel; asleep = s.asleep; busy = s.busy; settle = s.settle; command = s.command; address = s.address }

-- a status write: SRWD from bit 7 of the first data byte, BP from bit 2 on: two bits, four where BP goes to 15; the rest is ignored (000 L264-268, 004 M289,
-- 003 L813-816)
unfoldable pub written : ℕ → State → List ℕ → State
written n s page = keeping s (leb 128 (get_or page 0 0)) (get_or page 0 0 / 4 % ((model_of n).highest_bp + 1)) (config_after n s page)

abbrev pub finished_bits : ℕ → Option Operation → State → List ℕ → State
finished_bits n None s page = s
finished_bits n (Some WritesStatus) s page = written n s page
finished_bits n (Some Programs) s page = s
finished_bits n (Some ErasesSector) s page = s
finished_bits n (Some ErasesHalf) s page = s
finished_bits n (Some ErasesBlock) s page = s
finished_bits n (Some ErasesChip) s page = s

-- the operation that a state runs, and its address
abbrev pub runs : ℕ → State → Option Operation
runs n s = started_by n s.command

abbrev pub runs_at : State → Address
runs_at s = record { 0 = s.address }

-- the operation is forgotten, and WEL clears (000 L110-117)
unfoldable pub forgotten : State → State
forgotten s =
    record { srwd = s.srwd; bp = s.bp; config = s.config; wel = false; asleep = s.asleep; busy = 0; settle = s.settle; command = no_command; address = no_address }

-- the chip after an operation
unfoldable pub finished : ℕ → Chip → Chip
finished n x =
    let s : State = x.state in
    chip_of (forgotten (finished_bits n (runs n s) s x.page)) blank_page (finished_cells (runs n s) (runs_at s) x.page x.cells)

-- ---- the power was cut
-- how many pattern bytes there have to be: one a cell of the unit, one a data byte of a status write
abbrev pub pattern_length : Option Operation → ℕ → ℕ → ℕ
pattern_length None count n = 0
pattern_length (Some WritesStatus) count n = count
pattern_length (Some Programs) count n = 256
pattern_length (Some ErasesSector) count n = 4096
pattern_length (Some ErasesHalf) count n = 32768
pattern_length (Some ErasesBlock) count n = 65536
pattern_length (Some ErasesChip) count n = n

-- the cells: of a program each bit that was to change has its pattern bit, an erased unit holds the pattern
abbrev pub cut_cells : Option Operation → Address → List ℕ → List ℕ → List ℕ → List ℕ
cut_cells None at page pattern cells = cells
cut_cells (Some WritesStatus) at page pattern cells = cells
cut_cells (Some Programs) at page pattern cells = page_torn cells at page pattern
cut_cells (Some ErasesSector) at page pattern cells = lay cells (sector_start (sector_of at)) pattern
cut_cells (Some ErasesHalf) at page pattern cells = lay cells (half_block_start (half_block_of at)) pattern
cut_cells (Some ErasesBlock) at page pattern cells = lay cells (block_start (block_of at)) pattern
cut_cells (Some ErasesChip) at page pattern cells = lay cells 0 pattern

-- SRWD and BP at their places in the status byte
abbrev pub bits_of : State → ℕ
bits_of s = flag s.srwd 128 + 4 * s.bp

-- a status write: each kept bit that was to change has its pattern bit, at its place in the status byte or in the register
unfoldable pub torn_bits : ℕ → State → List ℕ → List ℕ → State
torn_bits n s page pattern =
    let new : State = written n s page in
    let b : ℕ = torn (bits_of s) (bits_of new) (get_or pattern 0 0) in
    keeping s (leb 128 b) (b / 4 % ((model_of n).highest_bp + 1)) (torn s.config new.config (get_or pattern 1 0))

abbrev pub cut_bits : ℕ → Option Operation → State → List ℕ → List ℕ → State
cut_bits n None s page pattern = s
cut_bits n (Some WritesStatus) s page pattern = torn_bits n s page pattern
cut_bits n (Some Programs) s page pattern = s
cut_bits n (Some ErasesSector) s page pattern = s
cut_bits n (Some ErasesHalf) s page pattern = s
cut_bits n (Some ErasesBlock) s page pattern = s
cut_bits n (Some ErasesChip) s page pattern = s

-- the chip that it leaves, before it is powered again
unfoldable pub torn_chip : ℕ → Chip → List ℕ → Chip
torn_chip n x pattern =
    let s : State = x.state in
    chip_of (cut_bits n (runs n s) s x.page pattern) blank_page (cut_cells (runs n s) (runs_at s) x.page pattern x.cells)
