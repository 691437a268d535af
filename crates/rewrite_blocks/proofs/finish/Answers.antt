-- `rewrite_blocks::finish` meets its contract.
use Rattle.std.proofs.Common.{◌≡◌, ℕ, List, sym, ◌∙◌, arith, rules}
use Rattle.rewrite_blocks.proofs.Steps.{fits, last_none, last-ready, last-on}
use Rattle.rewrite_blocks.proofs.finish.Goals as goal

pub returns-then-not-block_fits : goal.returns-then-not-block_fits
returns-then-not-block_fits c =
    let a = c.args in
    last_none a.run a.out.now a.report.now (sym c.block_fits.ensures ∙ c.if-not-block_fits.true)

pub move_down-end-requires : goal.move_down-end-requires
move_down-end-requires c =
    let a = c.args in
    let t = fits a.run _ _ _ (sym c.block_fits.ensures ∙ c.if-not-block_fits.false) in
    (t.low, t.inside)

pub rewrite_line-requires : goal.rewrite_line-requires
rewrite_line-requires c =
    let a = c.args in
    let s = c.new-sheet.ensures in
    rw (s.holds, s.place) (last-ready a.run a.out.now a.report.now (sym c.block_fits.ensures ∙ c.if-not-block_fits.false) c.move_down-end.ensures)

pub returns : goal.returns
returns c =
    let a = c.args in
    let s = c.new-sheet.ensures in
    last-on a.run a.out.now a.report.now (sym c.block_fits.ensures ∙ c.if-not-block_fits.false) c.move_down-end.ensures s.holds s.place c.end.ensures (search rules) c.rewrite_line.ensures.rewritten

pub slice_bounds-rewrite_line-end : goal.slice_bounds-rewrite_line-end
slice_bounds-rewrite_line-end c =
    let a = c.args in
    let t = fits a.run _ _ _ (sym c.block_fits.ensures ∙ c.if-not-block_fits.false) in
    omega (arith, t.room, c.move_down-end.ensures.count, c.move_down-end.auto)
