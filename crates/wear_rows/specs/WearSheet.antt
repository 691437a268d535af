-- The wear sheet of a table: a heading, a line a sector, and the figures of the report (Req 06).
use Rattle.std.specs.Prelude.{◌≡◌, cond, List, [], ◌∷◌, ◌++◌, ℕ, suc, ◌+◌, ◌-◌, ◌*◌, ◌/◌, ◌≤◌, ◌<◌, max, eqb, leb, length, replicate}
use Prim.Native.Char.{code}
use Rattle.text.specs.Text.{ascii, newline, decimal_text}
use Rattle.units.specs.declared.Sector.{Sector}
use Rattle.models.specs.Models.{is_sectors}
use Rattle.counts.specs.declared.Figures.{Figures}
use Rattle.counts.specs.Counts.{sector_at, largest_of, figures_of}

-- ---- bars
-- the most marks that a bar has
abbrev pub longest_bar : ℕ
longest_bar = 50

-- one mark an erase while the largest count is at most 50; beyond that the largest count has 50 marks and the others as many as they are to it,
-- rounded down, but one at least where there was an erase
unfoldable pub marks_of : ℕ → ℕ → ℕ
marks_of largest count = cond (leb largest longest_bar) count (cond (eqb count 0) 0 (max 1 (count * longest_bar / largest)))

-- two blanks and the marks; nothing where there is no mark
abbrev pub bar_text : ℕ → List ℕ
bar_text marks = cond (eqb marks 0) [] (ascii "  " ++ replicate marks (code "#"))

-- ---- lines
-- a number at the right end of so many columns
abbrev pub right_text : ℕ → ℕ → List ℕ
right_text width n = replicate (width - length (decimal_text n)) (code " ") ++ decimal_text n

unfoldable pub heading_text : List ℕ
heading_text = ascii "Wear sheet: erases of each sector\nsector      erases\n"

-- a sector's line: its number, its count and its bar
unfoldable pub sector_text : ℕ → Sector → ℕ → List ℕ
sector_text largest sector count = right_text 6 sector.0 ++ right_text 12 count ++ bar_text (marks_of largest count) ++ (newline ∷ [])

-- those of a table's counts, of which the first is sector k's
abbrev pub sectors_text : ℕ → ℕ → List ℕ → List ℕ
sectors_text largest k [] = []
sectors_text largest k (count ∷ counts) = sector_text largest (sector_at k) count ++ sectors_text largest (suc k) counts

-- the figures of the report
unfoldable pub sums_text : Figures → List ℕ
sums_text f =
    ascii "total " ++ decimal_text f.total ++ ascii "\nsmallest " ++ decimal_text f.smallest
    ++ ascii "\nlargest " ++ decimal_text f.largest ++ ascii ", first in sector " ++ decimal_text f.sector.0

-- the mean of n counts: its remainder is so many n-ths
unfoldable pub mean_text : Figures → ℕ → List ℕ
mean_text f n = ascii "\nmean " ++ decimal_text f.mean ++ ascii " and " ++ decimal_text f.remainder ++ ascii "/" ++ decimal_text n ++ (newline ∷ [])

-- the sheet; nothing where the report refuses the table
unfoldable pub sheet_text : List ℕ → List ℕ
sheet_text wear =
    cond (is_sectors (length wear))
    (heading_text ++ sectors_text (largest_of wear) 0 wear ++ sums_text (figures_of wear) ++ mean_text (figures_of wear) (length wear))
    []

-- the most bytes that a sector's line takes, and the sheet of n sectors
abbrev pub longest_line_of : ℕ
longest_line_of = 112

abbrev pub sheet_room : ℕ → ℕ
sheet_room n = longest_line_of * n + 250

-- ---- what holds of a bar: no longer than 50 marks, none only where there was no erase, the largest one whole, and below 50 an erase a mark
pub record Bar (largest count : ℕ) : Type 0 where
  pub short : marks_of largest count ≤ longest_bar
  pub some : 0 < count → 0 < marks_of largest count
  pub none : count ≡ 0 → marks_of largest count ≡ 0
  pub whole : longest_bar < largest → marks_of largest largest ≡ longest_bar
  pub each : largest ≤ longest_bar → marks_of largest count ≡ count

abbrev pub Bars : Type 0
Bars = (largest count : ℕ) → count ≤ largest → Bar largest count
