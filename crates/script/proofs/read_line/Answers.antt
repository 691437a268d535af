-- `script::read_line` meets its contract.
use mathlib.Core.Path.{sym, ◌∙◌}
use native.Mathlib.Omega.{arith}
use Rattle.script.proofs.Agree.{reads}
use Rattle.script.proofs.ReadLaws.{too_long, frame-parts, frame-in, frame-out}
use Rattle.script.proofs.read_line.Goals as goal

pub returns-then-is_frame : goal.returns-then-is_frame
returns-then-is_frame c = reads _ _ (frame-in _ _ _ c.if-line-gt640.false (sym c.is_frame.ensures ∙ c.if-is_frame.true) c.byte_at.ensures c.byte_at-then-is_frame.ensures)

pub returns : goal.returns
returns c = reads _ _ (frame-out _ _ c.if-line-gt640.false (sym c.is_frame.ensures ∙ c.if-is_frame.false) c.read_wait.ensures)

pub returns-then-line-gt640 : goal.returns-then-line-gt640
returns-then-line-gt640 c =
    reads _ _ (too_long _ c.if-line-gt640.true)

pub overflow_sub-result : goal.overflow_sub-result
overflow_sub-result c = let f = frame-parts _ (sym c.is_frame.ensures ∙ c.if-is_frame.true) in omega (arith, c.byte_at-then-is_frame.ensures)

pub overflow_sub-result-then-is_frame : goal.overflow_sub-result-then-is_frame
overflow_sub-result-then-is_frame c = let f = frame-parts _ (sym c.is_frame.ensures ∙ c.if-is_frame.true) in omega arith
