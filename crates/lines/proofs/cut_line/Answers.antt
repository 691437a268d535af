-- `lines::cut_line` meets its contract.
use native.Mathlib.Omega.{arith}
use Rattle.lines.proofs.Laws.{end-in, cuts-past, cuts-here, cuts-joined, cuts-open}
use Rattle.lines.proofs.cut_line.Goals as goal

pub returns-then-block-at : goal.returns-then-block-at
returns-then-block-at c = let a = c.args in cuts-past a.held.now a.used a.block.now a.at c.if-block-at.true

pub returns-then-end-block : goal.returns-then-end-block
returns-then-end-block c =
    let a = c.args in
    cuts-here a.held.now a.used a.block.now a.at _ c.line_end-end.ensures c.if-end-block.true

pub returns-then-end-block-2 : goal.returns-then-end-block-2
returns-then-end-block-2 c =
    let a = c.args in
    cuts-joined a.held.now a.used a.block.now a.at _ _ _ c.line_end-end.ensures c.if-end-block.false c.if-end-block-2.true c.keep-n.ensures.0 c.keep-n.ensures.1

pub returns : goal.returns
returns c =
    let a = c.args in
    cuts-open a.held.now a.used a.block.now a.at _ _ _ c.line_end-end.ensures c.if-end-block-2.false c.keep-n.ensures.0 c.keep-n.ensures.1

pub slice_bounds-keep-end : goal.slice_bounds-keep-end
slice_bounds-keep-end c =
    let a = c.args in
    let l = end-in a.block.now a.at (omega arith) in
    omega (arith, c.line_end-end.ensures, l)
