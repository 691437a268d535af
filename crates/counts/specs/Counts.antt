-- Erase counts, one 32-bit number a sector: which of them an erase raises, and what the report says of a table (Req 06).
use Rattle.std.specs.Prelude.{Result, Ok, Err, Bool, false, ◌||◌, cond, List, [], ◌∷◌, ◌≡◌, ℕ, suc, ◌+◌, ◌/◌, ◌%◌, ◌≤◌, min, max, eqb, leb, ltb, length, get_or, Option, Some, None}
use Rattle.units.specs.declared.Address.{Address}
use Rattle.units.specs.declared.Sector.{Sector}
use Rattle.units.specs.Kinds.{sector_of, half_block_of, block_of, first_of_half, first_of_block}
use Rattle.models.specs.Models.{is_sectors}
use Rattle.parts.specs.Parts.{part, lay, by_index}
use Rattle.commands.specs.declared.Operation.{Operation}
use Rattle.commands.specs.declared.Operation.TheVariants.{WritesStatus, Programs, ErasesSector, ErasesHalf, ErasesBlock, ErasesChip}
use Rattle.answers.specs.declared.Refusal.{Refusal}
use Rattle.answers.specs.declared.Refusal.TheVariants.{BadTable}
use Rattle.counts.specs.declared.Sectors.{Sectors}
use Rattle.counts.specs.declared.Figures.{Figures}
use Rattle.counts.specs.declared.Sums.{Sums}

-- ---- a table: the count of sector k stands at place k
abbrev pub sector_at : ℕ → Sector
sector_at k = record { 0 = k }

abbrev pub count_of : List ℕ → Sector → ℕ
count_of wear sector = get_or wear sector.0 0

-- ---- the sectors that an operation at that address covers, of n: the first, and how many. Only an erase covers any
abbrev pub sectors : Sector → ℕ → Sectors
sectors first count = record { first = first; count = count }

unfoldable pub covered : Option Operation → Address → ℕ → Sectors
covered None at n = sectors (sector_at 0) 0
covered (Some WritesStatus) at n = sectors (sector_at 0) 0
covered (Some Programs) at n = sectors (sector_at 0) 0
covered (Some ErasesSector) at n = sectors (sector_of at) 1
covered (Some ErasesHalf) at n = sectors (first_of_half (half_block_of at)) 8
covered (Some ErasesBlock) at n = sectors (first_of_block (block_of at)) 16
covered (Some ErasesChip) at n = sectors (sector_at 0) n

-- their counts in a table
abbrev pub covered_counts : Option Operation → Address → List ℕ → List ℕ
covered_counts op at wear = part wear (covered op at (length wear)).first.0 (covered op at (length wear)).count

-- ---- an erase
-- the highest count
abbrev pub top_count : ℕ
top_count = 4294967295

-- some count would pass it
abbrev pub at_top : List ℕ → Bool
at_top [] = false
at_top (x ∷ xs) = leb top_count x || at_top xs

unfoldable pub worn_out : Option Operation → Address → List ℕ → Bool
worn_out op at wear = at_top (covered_counts op at wear)

-- each count of a run is one more
abbrev pub raised : List ℕ → List ℕ
raised counts = by_index (λ (k old : ℕ). old + 1) counts

-- the table after: the counts of the covered sectors are raised, the others are as they were
unfoldable pub counted : Option Operation → Address → List ℕ → List ℕ
counted op at wear = lay wear (covered op at (length wear)).first.0 (raised (covered_counts op at wear))

-- the covered sectors lie in the table
abbrev pub InTable : Option Operation → Address → List ℕ → Type 0
InTable op at wear = (covered op at (length wear)).first.0 + (covered op at (length wear)).count ≤ length wear

-- a table after it, where the count of one sector is one more and no other has moved
pub record OneMore (sector : Sector) (before after : List ℕ) : Type 0 where
  pub same : length after ≡ length before
  pub one : count_of after sector ≡ count_of before sector + 1
  pub others : (k : Sector) → (k ≡ sector → ⊥) → count_of after k ≡ count_of before k

-- ---- the report
abbrev pub total_of : List ℕ → ℕ
total_of [] = 0
total_of (x ∷ xs) = x + total_of xs

-- the smallest of a number and those of a list, and the largest
abbrev pub least_from : ℕ → List ℕ → ℕ
least_from m [] = m
least_from m (x ∷ xs) = least_from (min m x) xs

abbrev pub most_from : ℕ → List ℕ → ℕ
most_from m [] = m
most_from m (x ∷ xs) = most_from (max m x) xs

abbrev pub smallest_of : List ℕ → ℕ
smallest_of [] = 0
smallest_of (x ∷ xs) = least_from x xs

abbrev pub largest_of : List ℕ → ℕ
largest_of [] = 0
largest_of (x ∷ xs) = most_from x xs

-- the place of the first count that is v
abbrev pub first_with : ℕ → List ℕ → ℕ
first_with v [] = 0
first_with v (x ∷ xs) = cond (eqb x v) 0 (suc (first_with v xs))

-- what is known of the counts looked at so far, and of one more, the count of sector k
abbrev pub with_one : Sums → ℕ → Sector → Sums
with_one s x k =
    record {
      total = s.total + x;
      smallest = min s.smallest x;
      largest = max s.largest x;
      sector = cond (ltb s.largest x) k s.sector;
    }

-- of all of a table
abbrev pub sums_of : List ℕ → Sums
sums_of wear =
    record {
      total = total_of wear;
      smallest = smallest_of wear;
      largest = largest_of wear;
      sector = sector_at (first_with (largest_of wear) wear);
    }

-- what the report says of a table that some chip has
abbrev pub figures_of : List ℕ → Figures
figures_of wear =
    record {
      total = total_of wear;
      smallest = smallest_of wear;
      largest = largest_of wear;
      sector = sector_at (first_with (largest_of wear) wear);
      mean = total_of wear / length wear;
      remainder = total_of wear % length wear;
    }

-- 24 where the length is no chip's, and then no figure
unfoldable pub report_of : List ℕ → Result Figures Refusal
report_of wear = cond (is_sectors (length wear)) (Ok (figures_of wear)) (Err BadTable)
