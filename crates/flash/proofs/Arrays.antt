-- Laws of the array after an erase and after a program, with the sheet's sentences on them.
use mathlib.Core.Path.{◌≡◌, refl, sym, ap, ◌∙◌}
use mathlib.Core.Bool.{Bool, true, false}
use mathlib.Core.List.{List}
use Prim.Native.Nat.{ℕ, ◌+◌, ◌-◌, ◌≤◌, ◌<◌}
use native.Mathlib.Omega.{arith}
use lib.Dec.{ltb}
use lib.ListN.{length, get_or, length-replicate, get_or-replicate, get_or-eq_default}
use lib.Seq.{ext_get_or}
use borrow.Author.Tests.{ltb-true, ltb-false}
use borrow.Rule.Slice.PartMut.{put_mid, mid_of}
use Rattle.units.specs.declared.Address.{Address}
use Rattle.units.specs.declared.Sector.{Sector}
use Rattle.units.specs.declared.HalfBlock.{HalfBlock}
use Rattle.units.specs.declared.Block.{Block}
use Rattle.units.specs.Kinds.{sector_start, half_block_start, block_start, page_start, page_offset}
use Rattle.cells.specs.Cell.{FF, erased, torn_cells}
use Rattle.parts.proofs.Loop.{length-by_index}
use Rattle.fold.specs.Fold.{cell_after, page_after}
use Rattle.parts.specs.Parts.{Bytes, part, lay}
use Rattle.flash.specs.Arrays.{sector_erased, half_block_erased, block_erased, all_erased, programmed, page_torn}
use Rattle.flash.specs.Sheet.{PageFolds, OutsideStays, ErasesOnly, SectorErase, HalfBlockErase, BlockErase, ChipErase}
use Rattle.parts.proofs.Bytes.{bytes-replicate, bytes-part, bytes-lay}
use Rattle.fold.proofs.Fold.{length-page_after, page_after-at, bytes-page_after, fresh-page}
use Rattle.parts.proofs.Lay.{length_part, part_at, length-lay, lay-before, lay-inside, lay-after, lay-in-lay, lay-part, part-back}

-- ---- a unit erased: size cells from start on
module _ (xs : List ℕ) (start size : ℕ) (h : start + size ≤ length xs) where
  length-erased : length (lay xs start (erased size)) ≡ length xs
  length-erased = length-lay xs start (erased size) (omega (arith, length-replicate size FF))

  erases-only : ErasesOnly start size xs (lay xs start (erased size))
  erases-only =
      let n : length (erased size) ≡ size = length-replicate size FF in
      record {
        unit = λ k l m. lay-inside xs start (erased size) k (omega arith) l (omega arith) ∙ get_or-replicate size (k - start) FF 0 (omega arith);
        before = λ k l. lay-before xs start (erased size) k (omega arith) l;
        behind = λ k l. lay-after xs start (erased size) k (omega arith) (omega arith);
      }

  -- a part of the unit is erased
  part-erased : (at n : ℕ) → start ≤ at → at + n ≤ start + size → part (lay xs start (erased size)) at n ≡ erased n
  part-erased at n l m =
      ext_get_or 0 (part (lay xs start (erased size)) at n) (erased n) (long ∙ sym (length-replicate n FF))
      (λ k b. part_at (lay xs start (erased size)) at n k (omega (arith, long)) ∙ erases-only.unit (at + k) (omega arith) (omega (arith, long)) ∙ sym (get_or-replicate n k FF 0 (omega (arith, long))))
    where
      long : length (part (lay xs start (erased size)) at n) ≡ n
      long = length_part (lay xs start (erased size)) at n (omega (arith, length-erased))

pub bytes-erased : (n : ℕ) → Bytes (erased n)
bytes-erased n = bytes-replicate n FF (omega arith)

-- ---- a sector
module _ (xs : List ℕ) (s : Sector) (h : sector_start s + 4096 ≤ length xs) where
  pub length-sector_erased : length (sector_erased xs s) ≡ length xs
  unfolding sector_erased
  length-sector_erased = length-erased xs (sector_start s) 4096 h

  pub part-sector_erased : (at n : ℕ) → sector_start s ≤ at → at + n ≤ sector_start s + 4096 → part (sector_erased xs s) at n ≡ erased n
  unfolding sector_erased
  part-sector_erased = part-erased xs (sector_start s) 4096 h

pub bytes-sector_erased : {xs : List ℕ} (s : Sector) → Bytes xs → Bytes (sector_erased xs s)
unfolding sector_erased
bytes-sector_erased s b = bytes-lay (sector_start s) b (bytes-erased 4096)

pub sector-erase : SectorErase
unfolding sector_erased
sector-erase xs s h = erases-only xs (sector_start s) 4096 h

-- ---- a half block
pub length-half_block_erased : (xs : List ℕ) (b : HalfBlock) → half_block_start b + 32768 ≤ length xs → length (half_block_erased xs b) ≡ length xs
unfolding half_block_erased
length-half_block_erased xs b h = length-erased xs (half_block_start b) 32768 h

pub half-block-erase : HalfBlockErase
unfolding half_block_erased
half-block-erase xs b h = erases-only xs (half_block_start b) 32768 h

-- ---- a block
module _ (xs : List ℕ) (b : Block) (h : block_start b + 65536 ≤ length xs) where
  pub length-block_erased : length (block_erased xs b) ≡ length xs
  unfolding block_erased
  length-block_erased = length-erased xs (block_start b) 65536 h

  pub part-block_erased : (at n : ℕ) → block_start b ≤ at → at + n ≤ block_start b + 65536 → part (block_erased xs b) at n ≡ erased n
  unfolding block_erased
  part-block_erased = part-erased xs (block_start b) 65536 h

pub bytes-block_erased : {xs : List ℕ} (b : Block) → Bytes xs → Bytes (block_erased xs b)
unfolding block_erased
bytes-block_erased b p = bytes-lay (block_start b) p (bytes-erased 65536)

pub block-erase : BlockErase
unfolding block_erased
block-erase xs b h = erases-only xs (block_start b) 65536 h

-- ---- all
pub length-all_erased : (xs : List ℕ) → length (all_erased xs) ≡ length xs
unfolding all_erased
length-all_erased xs = length-replicate (length xs) FF

pub bytes-all_erased : (xs : List ℕ) → Bytes (all_erased xs)
unfolding all_erased
bytes-all_erased xs = bytes-erased (length xs)

pub chip-erase : ChipErase
unfolding all_erased
chip-erase xs =
    record {
      unit = λ k l m. get_or-replicate (length xs) k FF 0 (omega arith);
      before = λ k l. absurd (omega arith);
      behind = λ k l. get_or-eq_default (erased (length xs)) 0 (omega (arith, length-replicate (length xs) FF)) ∙ sym (get_or-eq_default xs 0 (omega arith));
    }

-- ---- a program
module _ (xs : List ℕ) (a : Address) (sent : List ℕ) (h : page_start a + 256 ≤ length xs) where
  length-page : length (page_after (page_offset a) sent (part xs (page_start a) 256)) ≡ 256
  length-page = length-page_after (page_offset a) sent (part xs (page_start a) 256) ∙ length_part xs (page_start a) 256 h

  pub length-programmed : length (programmed xs a sent) ≡ length xs
  unfolding programmed
  length-programmed = length-lay xs (page_start a) (page_after (page_offset a) sent (part xs (page_start a) 256)) (omega (arith, length-page))

-- the result has bytes whatever was sent
pub bytes-programmed : {xs : List ℕ} (a : Address) (sent : List ℕ) → Bytes xs → Bytes (programmed xs a sent)
unfolding programmed
bytes-programmed a sent b = bytes-lay (page_start a) b (bytes-page_after (page_offset a) sent (bytes-part (page_start a) 256 b))

pub page-folds : PageFolds
unfolding programmed
page-folds xs a sent k h l =
    let start = page_start a in
    let n = length-page xs a sent h in
    let page = part xs start 256 in
    lay-inside xs start (page_after (page_offset a) sent page) (start + k) (omega arith) (omega arith) (omega arith)
    ∙ ap (λ (i : ℕ). get_or (page_after (page_offset a) sent page) i 0) {x = start + k - start} {y = k} (omega arith)
    ∙ page_after-at (page_offset a) sent page k (omega (arith, length_part xs start 256 h))
    ∙ ap (cell_after (page_offset a) sent k) (part_at xs start 256 k l)

pub outside-stays : OutsideStays
unfolding programmed
outside-stays xs a sent k h other = go (ltb k (page_start a)) refl
  where
    go : (t : Bool) → ltb k (page_start a) ≡ t → get_or (programmed xs a sent) k 0 ≡ get_or xs k 0
    go true e = lay-before xs (page_start a) (page_after (page_offset a) sent (part xs (page_start a) 256)) k (omega arith) (ltb-true k (page_start a) e)
    go false e =
        let l : page_start a ≤ k = ltb-false k (page_start a) e in
        lay-after xs (page_start a) (page_after (page_offset a) sent (part xs (page_start a) 256)) k (omega arith) (omega (arith, length-page xs a sent h))

-- a fresh page takes the bytes that end within it as they are
pub programmed-fresh : (xs : List ℕ) (a : Address) (sent : List ℕ) → page_start a + 256 ≤ length xs → part xs (page_start a) 256 ≡ erased 256
    → page_offset a + length sent ≤ 256 → Bytes sent → programmed xs a sent ≡ lay xs a.0 sent
unfolding programmed
programmed-fresh xs a sent h e l b =
    let start = page_start a in
    let o = page_offset a in
    ap (lay xs start) (ap (page_after o sent) e ∙ fresh-page o sent l b ∙ ap (λ (z : List ℕ). lay z o sent) (sym e))
    ∙ sym (lay-in-lay xs start (part xs start 256) o sent (omega arith) (omega (arith, length_part xs start 256 h)))
    ∙ ap (λ (z : List ℕ). lay z (start + o) sent) (lay-part xs start 256 h)
    ∙ ap (λ (n : ℕ). lay xs n sent) {x = start + o} {y = a.0} (omega arith)

-- from the program of a page
pub program-back : (a : Address) (start offset : ℕ) (sent xs ys : List ℕ) → start ≡ page_start a → offset ≡ page_offset a → page_start a + 256 ≤ length xs
    → ys ≡ page_after offset sent (mid_of start (start + 256 - start) xs) → put_mid start (start + 256 - start) xs ys ≡ programmed xs a sent
unfolding programmed
program-back a start offset sent xs ys e o h f =
    let n : start + 256 - start ≡ 256 = omega arith in
    part-back start (start + 256) (page_start a) xs ys (page_after (page_offset a) sent (part xs (page_start a) 256)) e (omega arith)
    (f ∙ rw (n, e, o))
    (length-page xs a sent h ∙ sym n)

-- ---- a program that was cut
module _ (xs : List ℕ) (a : Address) (bytes pattern : List ℕ) (h : page_start a + 256 ≤ length xs) where
  length-torn : length (torn_cells bytes pattern (part xs (page_start a) 256)) ≡ 256
  unfolding torn_cells
  length-torn = length-by_index _ (part xs (page_start a) 256) ∙ length_part xs (page_start a) 256 h

  pub length-page_torn : length (page_torn xs a bytes pattern) ≡ length xs
  unfolding page_torn
  length-page_torn = length-lay xs (page_start a) (torn_cells bytes pattern (part xs (page_start a) 256)) (omega (arith, length-torn))

  pub torn-before : (k : ℕ) → k < page_start a → get_or (page_torn xs a bytes pattern) k 0 ≡ get_or xs k 0
  unfolding page_torn
  torn-before k l = lay-before xs (page_start a) (torn_cells bytes pattern (part xs (page_start a) 256)) k (omega arith) l

  pub torn-behind : (k : ℕ) → page_start a + 256 ≤ k → get_or (page_torn xs a bytes pattern) k 0 ≡ get_or xs k 0
  unfolding page_torn
  torn-behind k l = lay-after xs (page_start a) (torn_cells bytes pattern (part xs (page_start a) 256)) k (omega arith) (omega (arith, length-torn))

-- from the tearing of a page
pub torn-back : (a : Address) (start : ℕ) (bytes pattern xs ys : List ℕ) → start ≡ page_start a → page_start a + 256 ≤ length xs
    → ys ≡ torn_cells bytes pattern (mid_of start (start + 256 - start) xs) → put_mid start (start + 256 - start) xs ys ≡ page_torn xs a bytes pattern
unfolding page_torn
torn-back a start bytes pattern xs ys e h f =
    let n : start + 256 - start ≡ 256 = omega arith in
    part-back start (start + 256) (page_start a) xs ys (torn_cells bytes pattern (part xs (page_start a) 256)) e (omega arith)
    (f ∙ rw (n, e))
    (length-torn xs a bytes pattern h ∙ sym n)
