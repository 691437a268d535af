-- An operation changes at most its unit, whether it finishes or is cut.
use Rattle.std.specs.Prelude.{Option, Some, None}
use mathlib.Core.Path.{◌≡◌, refl}
use mathlib.Core.Bool.{true}
use mathlib.Core.List.{List}
use mathlib.Core.Logic.{◌⊎◌, ⊎_elim}
use Prim.Native.Nat.{ℕ, ◌+◌, ◌≤◌, ◌<◌}
use native.Mathlib.Omega.{arith}
use lib.Dec.{ltb}
use lib.ListN.{length, get_or}
use borrow.Author.Tests.{ltb-true}
use Rattle.units.specs.declared.Address.{Address}
use Rattle.units.specs.Kinds.{sector_of, half_block_of, block_of, page_start, sector_start, half_block_start, block_start}
use Rattle.models.specs.Models.{model_of}
use Rattle.parts.specs.Parts.{lay}
use Rattle.parts.proofs.Lay.{length-lay, lay-before, lay-after}
use Rattle.flash.specs.Arrays.{programmed, page_torn}
use Rattle.flash.specs.Sheet.{ErasesOnly}
use Rattle.flash.proofs.Arrays.{length-sector_erased, length-half_block_erased, length-block_erased, length-all_erased, length-programmed, sector-erase, half-block-erase, block-erase, chip-erase, outside-stays, length-page_torn, torn-before, torn-behind}
use Rattle.commands.specs.declared.Operation.{Operation}
use Rattle.commands.specs.declared.Operation.TheVariants.{WritesStatus, Programs, ErasesSector, ErasesHalf, ErasesBlock, ErasesChip}
use Rattle.states.specs.States.{place_ok}
use Rattle.operations.specs.Operations.{Extent, extent, unit_of, page_address, finished_cells, pattern_length, cut_cells}
use Rattle.operations.proofs.Fits.{page-fits, sector-fits, half-block-fits, block-fits}

-- the array is as long as it was, and nothing outside the extent differs
pub record Only (u : Extent) (xs ys : List ℕ) : Type 0 where
  pub long : length ys ≡ length xs
  pub rest : (k : ℕ) → (k < u.start) ⊎ (u.start + u.size ≤ k) → get_or ys k 0 ≡ get_or xs k 0

same-cells : {u : Extent} {xs : List ℕ} → Only u xs xs
same-cells = record { long = refl; rest = λ k o. refl }

erased-only : {start size : ℕ} {xs ys : List ℕ} → length ys ≡ length xs → ErasesOnly start size xs ys → Only (extent start size) xs ys
erased-only l e = record { long = l; rest = λ k o. ⊎_elim (λ a. e.before k a) (λ a. e.behind k a) o }

laid-only : (start size : ℕ) (xs ys : List ℕ) → length ys ≡ size → start + size ≤ length xs → Only (extent start size) xs (lay xs start ys)
laid-only start size xs ys e h =
    record {
      long = length-lay xs start ys (omega arith);
      rest = λ k o. ⊎_elim (λ a. lay-before xs start ys k (omega arith) a) (λ a. lay-after xs start ys k (omega arith) (omega arith)) o;
    }

page-only : (cells : List ℕ) (at : Address) (sent : List ℕ) → page_start at + 256 ≤ length cells → Only (extent (page_start at) 256) cells (programmed cells (page_address at) sent)
page-only cells at sent h =
    record {
      long = length-programmed cells (page_address at) sent (omega arith);
      rest = λ k o. outside-stays cells (page_address at) sent k (omega arith) (λ e. ⊎_elim (λ l. omega arith) (λ l. omega arith) o);
    }

torn-only : (cells : List ℕ) (at : Address) (bytes pattern : List ℕ) → page_start at + 256 ≤ length cells → Only (extent (page_start at) 256) cells (page_torn cells at bytes pattern)
torn-only cells at bytes pattern h =
    record {
      long = length-page_torn cells at bytes pattern h;
      rest = λ k o. ⊎_elim (λ a. torn-before cells at bytes pattern h k a) (λ a. torn-behind cells at bytes pattern h k a) o;
    }

module _ (n : ℕ) (at : Address) (page cells : List ℕ) (e : length cells ≡ (model_of n).length) where
  in_array : ltb at.0 (model_of n).length ≡ true → at.0 < length cells
  in_array p = omega (arith, ltb-true at.0 (model_of n).length p)

  pub finished-only : (op : Option Operation) → place_ok n op at.0 ≡ true → Only (unit_of op at (length cells)) cells (finished_cells op at page cells)
  finished-only None p = same-cells
  finished-only (Some WritesStatus) p = same-cells
  finished-only (Some Programs) p = page-only cells at page (page-fits n cells at (in_array p) e)
  finished-only (Some ErasesSector) p = let h = (sector-fits n cells at (in_array p) e).1 in erased-only (length-sector_erased cells (sector_of at) h) (sector-erase cells (sector_of at) h)
  finished-only (Some ErasesHalf) p = let h = (half-block-fits n cells at (in_array p) e).1 in erased-only (length-half_block_erased cells (half_block_of at) h) (half-block-erase cells (half_block_of at) h)
  finished-only (Some ErasesBlock) p = let h = (block-fits n cells at (in_array p) e).1 in erased-only (length-block_erased cells (block_of at) h) (block-erase cells (block_of at) h)
  finished-only (Some ErasesChip) p = erased-only (length-all_erased cells) (chip-erase cells)

  pub cut-only : (pattern : List ℕ) (op : Option Operation) → place_ok n op at.0 ≡ true → length pattern ≡ pattern_length op at.0 (length cells)
      → Only (unit_of op at (length cells)) cells (cut_cells op at page pattern cells)
  cut-only pattern None p l = same-cells
  cut-only pattern (Some WritesStatus) p l = same-cells
  cut-only pattern (Some Programs) p l = torn-only cells at page pattern (page-fits n cells at (in_array p) e)
  cut-only pattern (Some ErasesSector) p l = laid-only (sector_start (sector_of at)) 4096 cells pattern l (sector-fits n cells at (in_array p) e).1
  cut-only pattern (Some ErasesHalf) p l = laid-only (half_block_start (half_block_of at)) 32768 cells pattern l (half-block-fits n cells at (in_array p) e).1
  cut-only pattern (Some ErasesBlock) p l = laid-only (block_start (block_of at)) 65536 cells pattern l (block-fits n cells at (in_array p) e).1
  cut-only pattern (Some ErasesChip) p l = laid-only 0 (length cells) cells pattern l (omega arith)
