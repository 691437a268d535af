-- `rewrite_blocks::rewrite_block` meets its contract.
use Rattle.std.proofs.Common.{length, ◌+◌, ◌≤◌, sym, ◌∙◌, arith}
use Rattle.text.proofs.PutLaws.{put_part, put_same}
use Rattle.rewrite_blocks.proofs.Steps.{fits, block_none, block-ready, block-some}
use Rattle.rewrite_blocks.proofs.rewrite_block.Goals as goal

pub returns-then-not-block_fits : goal.returns-then-not-block_fits
returns-then-not-block_fits c =
    let a = c.args in
    block_none a.run a.block.now a.out.now a.report.now (sym c.block_fits.ensures ∙ c.if-not-block_fits.true)

pub move_down-held-requires : goal.move_down-held-requires
move_down-held-requires c =
    let a = c.args in
    let t = fits a.run _ _ _ (sym c.block_fits.ensures ∙ c.if-not-block_fits.false) in
    (t.low, t.inside)

pub overflow_add-end : goal.overflow_add-end
overflow_add-end c =
    let a = c.args in
    let t = fits a.run _ _ _ (sym c.block_fits.ensures ∙ c.if-not-block_fits.false) in
    omega (arith, t.room, c.move_down-held.ensures.count, c.move_down-held.auto)

pub slice_bounds-copy_from_slice-end : goal.slice_bounds-copy_from_slice-end
slice_bounds-copy_from_slice-end c =
    let a = c.args in
    let t = fits a.run _ _ _ (sym c.block_fits.ensures ∙ c.if-not-block_fits.false) in
    omega (arith, t.room, c.move_down-held.ensures.count, c.move_down-held.auto)

pub slice_bounds-rewrite_lines-end : goal.slice_bounds-rewrite_lines-end
slice_bounds-rewrite_lines-end c =
    let a = c.args in
    let t = fits a.run _ _ _ (sym c.block_fits.ensures ∙ c.if-not-block_fits.false) in
    let l : c.move_down-held.result + length a.block.now ≤ length c.move_down-held.new.out = omega (arith, t.room, c.move_down-held.ensures.count, c.move_down-held.auto) in
    let b = put_part a.block.now _ _ c.move_down-held.result l c.copy_from_slice.ensures.after in
    omega (arith, l, put_same b)

pub rewrite_lines-passed-requires : goal.rewrite_lines-passed-requires
rewrite_lines-passed-requires c =
    let a = c.args in
    let f = sym c.block_fits.ensures ∙ c.if-not-block_fits.false in
    let t = fits a.run _ _ _ f in
    let l : c.move_down-held.result + length a.block.now ≤ length c.move_down-held.new.out = omega (arith, t.room, c.move_down-held.ensures.count, c.move_down-held.auto) in
    let b = put_part a.block.now _ _ c.move_down-held.result l c.copy_from_slice.ensures.after in
    let r = block-ready a.run a.block.now a.out.now a.report.now f c.move_down-held.ensures b in
    (r.0, r.1)

pub returns : goal.returns
returns c =
    let a = c.args in
    let f = sym c.block_fits.ensures ∙ c.if-not-block_fits.false in
    let t = fits a.run _ _ _ f in
    let l : c.move_down-held.result + length a.block.now ≤ length c.move_down-held.new.out = omega (arith, t.room, c.move_down-held.ensures.count, c.move_down-held.auto) in
    let b = put_part a.block.now _ _ c.move_down-held.result l c.copy_from_slice.ensures.after in
    block-some a.run a.block.now a.out.now a.report.now f c.move_down-held.ensures b c.rewrite_lines-passed.ensures c.progress_of.ensures
