-- A page program by offset (01, "Commands", 02; 000 L343): byte i of those sent goes to offset (a + i) mod 256 of one page.
use Rattle.std.specs.Prelude.{Bool, cond, List, ℕ, zero, suc, ◌+◌, ◌%◌, eqb, ltb, length, get_or}
use Rattle.cells.specs.Cell.{FF, programmed_cell}
use Rattle.parts.specs.Parts.{by_index}

-- of the first n bytes sent, from offset a on, the one that counts at offset k: the last whose offset (a + i) mod 256 is k; FF where none is
unfoldable pub counts : ℕ → List ℕ → ℕ → ℕ → ℕ
counts a sent zero k = FF
counts a sent (suc i) k = cond (eqb ((a + i) % 256) k) (get_or sent i 0) (counts a sent i k)

-- the cell at offset k after the program: what it held AND the byte that counts there
unfoldable pub cell_after : ℕ → List ℕ → ℕ → ℕ → ℕ
cell_after a sent k old = programmed_cell old (counts a sent (length sent) k)

-- the page after the program, offset by offset
unfoldable pub page_after : ℕ → List ℕ → List ℕ → List ℕ
page_after a sent page = by_index (cell_after a sent) page

-- whether n bytes from offset a on go past the page's end, so that some go on at its start (000 L343; Req 02)
unfoldable pub folds : ℕ → ℕ → Bool
folds a n = ltb 256 (a + n)
