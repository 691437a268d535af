-- Cut with the pattern of the cells that were there an operation has not happened; with that of the finished one it has finished.
use Rattle.std.specs.Prelude.{Option, Some, None}
use mathlib.Core.Path.{◌≡◌, refl, sym, ap, ◌∙◌}
use mathlib.Core.Bool.{true}
use mathlib.Core.List.{List, ◌++◌, append-nil}
use Prim.Native.Nat.{ℕ, ◌+◌, ◌≤◌, ◌<◌}
use native.Mathlib.Omega.{arith}
use lib.Dec.{ltb}
use lib.ListN.{length, get_or, length-replicate, drop_of_length-le}
use lib.Seq.{ext_get_or}
use borrow.Author.Tests.{ltb-true}
use Rattle.units.specs.declared.Address.{Address}
use Rattle.units.specs.Kinds.{sector_of, half_block_of, block_of, page_start, page_offset, sector_start, half_block_start, block_start}
use Rattle.models.specs.Models.{model_of}
use Rattle.cells.specs.Cell.{FF, erased, programmed_cell, torn, torn_cells}
use Rattle.cells.proofs.Cell.{torn-old, torn-new}
use Rattle.parts.specs.Parts.{part, lay}
use Rattle.parts.proofs.Loop.{length-by_index, by_index-at}
use Rattle.parts.proofs.Lay.{length_part, part-lay, lay-part}
use Rattle.fold.specs.Fold.{page_after}
use Rattle.fold.proofs.Fold.{length-page_after, page_after-at}
use Rattle.fold.proofs.Counts.{sent-counts}
use Rattle.flash.specs.Arrays.{sector_erased, half_block_erased, block_erased, all_erased, programmed, page_torn}
use Rattle.commands.specs.declared.Operation.{Operation}
use Rattle.commands.specs.declared.Operation.TheVariants.{WritesStatus, Programs, ErasesSector, ErasesHalf, ErasesBlock, ErasesChip}
use Rattle.states.specs.States.{place_ok}
use Rattle.operations.specs.Operations.{unit_of, page_address, finished_cells, cut_cells}
use Rattle.operations.proofs.Fits.{page-fits, sector-fits, half-block-fits, block-fits}

-- a unit with its own cells laid over it, and with another list of its size
module _ (xs : List ℕ) (start size : ℕ) (h : start + size ≤ length xs) where
  laid-back : lay xs start (part xs start size) ≡ xs
  laid-back = lay-part xs start size h

  pub laid-part : (ys : List ℕ) → length ys ≡ size → part (lay xs start ys) start size ≡ ys
  laid-part ys e = ap (part (lay xs start ys) start) (sym e) ∙ part-lay xs start ys (omega arith)

  laid-again : (ys : List ℕ) → length ys ≡ size → lay xs start (part (lay xs start ys) start size) ≡ lay xs start ys
  laid-again ys e = ap (lay xs start) (laid-part ys e)

-- a list laid over one as long
whole-lay : (xs ys : List ℕ) → length ys ≡ length xs → lay xs 0 ys ≡ ys
unfolding lay
whole-lay xs ys e = ap (λ (z : List ℕ). ys ++ z) (drop_of_length-le xs {i = 0 + length ys} (omega arith)) ∙ append-nil ys

-- a page
module _ (xs : List ℕ) (at : Address) (page : List ℕ) (h : page_start at + 256 ≤ length xs) (n : length page ≡ 256) where
  abbrev cells : List ℕ
  cells = part xs (page_start at) 256

  long : length cells ≡ 256
  long = length_part xs (page_start at) 256 h

  -- programming the page data from offset 0 on is programming each byte at its own offset
  at_offset : (k : ℕ) → k < 256 → get_or (page_after 0 page cells) k 0 ≡ programmed_cell (get_or cells k 0) (get_or page k 0)
  at_offset k l = page_after-at 0 page cells k (omega (arith, long)) ∙ sent-counts 0 page k k (get_or cells k 0) (omega arith) (omega arith) (omega arith)

  torn-to-old : torn_cells page cells cells ≡ cells
  unfolding torn_cells
  torn-to-old =
      ext_get_or 0 _ cells (length-by_index _ cells)
      (λ k b. let l : k < length cells = omega (arith, b, length-by_index (λ (i old : ℕ). torn old (programmed_cell old (get_or page i 0)) (get_or cells i 0)) cells) in by_index-at _ cells k l ∙ torn-old (get_or cells k 0) (programmed_cell (get_or cells k 0) (get_or page k 0)))

  torn-to-new : torn_cells page (page_after 0 page cells) cells ≡ page_after 0 page cells
  unfolding torn_cells
  torn-to-new =
      ext_get_or 0 _ (page_after 0 page cells) (length-by_index _ cells ∙ sym (length-page_after 0 page cells))
      (λ k b.
      let l : k < length cells = omega (arith, b, length-by_index (λ (i old : ℕ). torn old (programmed_cell old (get_or page i 0)) (get_or (page_after 0 page cells) i 0)) cells) in
      by_index-at _ cells k l
      ∙ ap (torn (get_or cells k 0) (programmed_cell (get_or cells k 0) (get_or page k 0))) (at_offset k (omega (arith, long)))
      ∙ torn-new (get_or cells k 0) (programmed_cell (get_or cells k 0) (get_or page k 0))
      ∙ sym (at_offset k (omega (arith, long))))

  -- the finished program, said as a part laid over the array
  abbrev start : ℕ
  start = page_start at

  same_start : page_start (page_address at) ≡ start
  same_start = omega arith

  no-offset : page_offset (page_address at) ≡ 0
  no-offset = omega arith

  pub finished-page : programmed xs (page_address at) page ≡ lay xs start (page_after 0 page cells)
  unfolding programmed
  finished-page = rw (same_start, no-offset)

  finished-part : part (programmed xs (page_address at) page) start 256 ≡ page_after 0 page cells
  finished-part = ap (λ (z : List ℕ). part z start 256) finished-page ∙ laid-part xs start 256 h (page_after 0 page cells) (length-page_after 0 page cells ∙ long)

  -- each cell of a page whose program was cut, by its old byte, its finished one and its pattern byte
  pub torn-at : (pattern : List ℕ) (k : ℕ) → k < 256
      → get_or (part (page_torn xs at page pattern) start 256) k 0 ≡ torn (get_or cells k 0) (get_or (part (programmed xs (page_address at) page) start 256) k 0) (get_or pattern k 0)
  unfolding page_torn torn_cells
  torn-at pattern k l =
      ap (λ (z : List ℕ). get_or z k 0) (laid-part xs start 256 h (torn_cells page pattern cells) (length-by_index _ cells ∙ long))
      ∙ by_index-at _ cells k (omega (arith, long))
      ∙ ap (λ (z : ℕ). torn (get_or cells k 0) z (get_or pattern k 0)) (sym (ap (λ (z : List ℕ). get_or z k 0) finished-part ∙ at_offset k l))

  pub old-page : page_torn xs at page cells ≡ xs
  unfolding page_torn
  old-page = ap (lay xs start) torn-to-old ∙ laid-back xs start 256 h

  pub new-page : page_torn xs at page (part (programmed xs (page_address at) page) start 256) ≡ programmed xs (page_address at) page
  unfolding page_torn
  new-page = ap (λ (z : List ℕ). lay xs start (torn_cells page z cells)) finished-part ∙ ap (lay xs start) torn-to-new ∙ sym finished-page

module _ (n : ℕ) (at : Address) (page cells : List ℕ) (e : length cells ≡ (model_of n).length) (p : length page ≡ 256) where
  in_array : ltb at.0 (model_of n).length ≡ true → at.0 < length cells
  in_array q = omega (arith, ltb-true at.0 (model_of n).length q)

  pub old-cells : (op : Option Operation) → place_ok n op at.0 ≡ true → cut_cells op at page (part cells (unit_of op at (length cells)).start (unit_of op at (length cells)).size) cells ≡ cells
  old-cells None q = refl
  old-cells (Some WritesStatus) q = refl
  old-cells (Some Programs) q = old-page cells at page (page-fits n cells at (in_array q) e) p
  old-cells (Some ErasesSector) q = laid-back cells (sector_start (sector_of at)) 4096 (sector-fits n cells at (in_array q) e).1
  old-cells (Some ErasesHalf) q = laid-back cells (half_block_start (half_block_of at)) 32768 (half-block-fits n cells at (in_array q) e).1
  old-cells (Some ErasesBlock) q = laid-back cells (block_start (block_of at)) 65536 (block-fits n cells at (in_array q) e).1
  old-cells (Some ErasesChip) q = laid-back cells 0 (length cells) (omega arith)

  -- a chip erase, said as a part laid over the array
  whole-chip : all_erased cells ≡ lay cells 0 (erased (length cells))
  unfolding all_erased
  whole-chip = sym (whole-lay cells (erased (length cells)) (length-replicate (length cells) FF))

  pub new-cells : (op : Option Operation) → place_ok n op at.0 ≡ true
      → cut_cells op at page (part (finished_cells op at page cells) (unit_of op at (length cells)).start (unit_of op at (length cells)).size) cells ≡ finished_cells op at page cells
  unfolding sector_erased half_block_erased block_erased
  new-cells None q = refl
  new-cells (Some WritesStatus) q = refl
  new-cells (Some Programs) q = new-page cells at page (page-fits n cells at (in_array q) e) p
  new-cells (Some ErasesSector) q = laid-again cells (sector_start (sector_of at)) 4096 (sector-fits n cells at (in_array q) e).1 (erased 4096) (length-replicate 4096 FF)
  new-cells (Some ErasesHalf) q = laid-again cells (half_block_start (half_block_of at)) 32768 (half-block-fits n cells at (in_array q) e).1 (erased 32768) (length-replicate 32768 FF)
  new-cells (Some ErasesBlock) q = laid-again cells (block_start (block_of at)) 65536 (block-fits n cells at (in_array q) e).1 (erased 65536) (length-replicate 65536 FF)
  new-cells (Some ErasesChip) q =
      ap (λ (z : List ℕ). lay cells 0 (part z 0 (length cells))) whole-chip
      ∙ laid-again cells 0 (length cells) (omega arith) (erased (length cells)) (length-replicate (length cells) FF) ∙ sym whole-chip
