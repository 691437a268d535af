-- What the figures of a report are, in the words of the one who reads the sheet (Req 06).
use Rattle.std.specs.Prelude.{Ok, ◌≡◌, true, List, ℕ, ◌+◌, ◌*◌, ◌≤◌, ◌<◌, length, get_or}
use Rattle.models.specs.Models.{is_sectors}
use Rattle.counts.specs.declared.Figures.{Figures}
use Rattle.counts.specs.Counts.{count_of, total_of, figures_of, report_of}

-- some sector has that count
abbrev pub Has : List ℕ → ℕ → Type 0
Has wear v = (k : ℕ) × ((k < length wear) × (get_or wear k 0 ≡ v))

pub record Tells (wear : List ℕ) (r : Figures) : Type 0 where
  pub total : r.total ≡ total_of wear
  -- the mean times the sectors, and the remainder, are the total
  pub mean : r.mean * length wear + r.remainder ≡ r.total
  pub remainder : r.remainder < length wear
  -- the smallest and the largest are counts of the table, and bound all of them
  pub smallest : Has wear r.smallest
  pub none-smaller : (k : ℕ) → k < length wear → r.smallest ≤ get_or wear k 0
  pub largest : count_of wear r.sector ≡ r.largest
  pub none-larger : (k : ℕ) → k < length wear → get_or wear k 0 ≤ r.largest
  -- the sector is the first that has the largest
  pub within : r.sector.0 < length wear
  pub first : (k : ℕ) → k < r.sector.0 → get_or wear k 0 < r.largest

-- of a table that some chip has there is a report, and its figures are these
abbrev pub ReportTells : Type 0
ReportTells = (wear : List ℕ) → is_sectors (length wear) ≡ true → (report_of wear ≡ Ok (figures_of wear)) × Tells wear (figures_of wear)
