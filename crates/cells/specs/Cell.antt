-- One cell of a flash array. It holds a byte; erased it is FF, all bits 1 (000 L315, L548); a program can only make bits 0 (000 L343).
-- Nothing here knows how a chip is spoken to.
use Rattle.std.specs.Prelude.{Bool, not, List, ℕ, ◌/◌, ◌%◌, ◌^◌, eqb, get_or, replicate}
use Rattle.std.specs.Int.Bits.{bit_and, bit_or, bit_xor}
use Rattle.parts.specs.Parts.{by_index, some_by_index}

-- what an erased cell holds
abbrev pub FF : ℕ
FF = 255

-- n erased cells
abbrev pub erased : ℕ → List ℕ
erased n = replicate n FF

-- a cell that held old, after byte was programmed into it
abbrev pub programmed_cell : ℕ → ℕ → ℕ
programmed_cell old byte = bit_and old byte

-- cells after each had the byte at its index programmed into it
unfoldable pub anded : List ℕ → List ℕ → List ℕ
anded bytes cells = by_index (λ (k old : ℕ). programmed_cell old (get_or bytes k 0)) cells

-- whether a cell that held old would not hold byte after it was programmed into it
abbrev pub misses : ℕ → ℕ → Bool
misses old byte = not (eqb (programmed_cell old byte) byte)

-- whether each cell, with the byte at its index programmed into it, holds that byte
unfoldable pub all_hold : List ℕ → List ℕ → Bool
all_hold bytes cells = not (some_by_index (λ (k old : ℕ). misses old (get_or bytes k 0)) cells)

-- a byte on its way from old to new when the power was cut: each bit that was to change has its pattern bit, and every other bit is as it was
abbrev pub torn : ℕ → ℕ → ℕ → ℕ
torn old new pattern = bit_or (bit_and pattern (bit_xor old new)) (bit_and old new)

-- cells after a cut, while each had the byte at its index programmed into it
unfoldable pub torn_cells : List ℕ → List ℕ → List ℕ → List ℕ
torn_cells bytes pattern cells = by_index (λ (k old : ℕ). torn old (programmed_cell old (get_or bytes k 0)) (get_or pattern k 0)) cells

-- bit b of x, 0 or 1
abbrev pub bit : ℕ → ℕ → ℕ
bit b x = x / 2 ^ b % 2
