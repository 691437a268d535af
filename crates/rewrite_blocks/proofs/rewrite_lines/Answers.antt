-- `rewrite_blocks::rewrite_lines` meets its contract: the lines up to `at` are done (`Going`), and each turn does one more.
use Rattle.std.proofs.Common.{length, refl, ap, ◌∙◌, arith, rules}
use Rattle.rewrite_blocks.proofs.Passages.{going-none, going_on, going-done, in_order, long-now, room_for}
use Rattle.rewrite_blocks.proofs.rewrite_lines.Goals as goal

pub loop-end-init : goal.loop-end-init
loop-end-init c =
    let a = c.args in
    let s = c.new-sheet.ensures in
    (refl, ap length s.holds, going-none a.long a.first a.bytes.now a.report.now a.held _ c.requires.0 c.line_end-end.ensures s.holds s.place, refl)

pub slice_bounds-rewrite_line-count : goal.slice_bounds-rewrite_line-count
slice_bounds-rewrite_line-count c = in_order c.loop-end.invariant.2

pub rewrite_line-requires : goal.rewrite_line-requires
rewrite_line-requires c =
    let h = c.loop-end.invariant in
    room_for h.2 (length c.loop-end.sheet.out.now) (omega (arith, c.loop-end-test.true, h.0)) (omega (arith, c.requires.1, h.1))

pub loop-end-smaller : goal.loop-end-smaller
loop-end-smaller c = omega (arith, c.line_end-end-in-loop-end.ensures, c.loop-end-test.true, c.loop-end.invariant.0)

pub returns : goal.returns
returns c =
    going-done c.loop-end.invariant.2 (omega (arith, c.loop-end.invariant.0)) c.end.ensures (search rules)

pub loop-end-preserved : goal.loop-end-preserved
loop-end-preserved c =
    let h = c.loop-end.invariant in
    let w = c.rewrite_line.ensures in
    let g = going_on h.2 (omega (arith, c.loop-end-test.true, h.0)) w.rewritten refl c.line_end-end-in-loop-end.ensures in
    (long-now g, w.same_length ∙ h.1, g, w.same_buffer ∙ h.3)
