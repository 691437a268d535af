-- `text::digits` meets its contract: the digits from `start` on stand, and those before them are the digits of the rest.
use native.Mathlib.Omega.{arith}
use Rattle.text.proofs.TextLaws.{spelt-none, spelt-room, spelt_back, spelt-all}
use Rattle.text.proofs.digits.Goals as goal

pub loop-rest-init : goal.loop-rest-init
loop-rest-init c = spelt-none c.args.n c.args.room.now (omega arith)

pub loop-rest-preserved : goal.loop-rest-preserved
loop-rest-preserved c = spelt_back c.loop-rest.invariant (omega arith) (omega arith)

pub overflow_sub-start : goal.overflow_sub-start
overflow_sub-start c = spelt-room c.loop-rest.invariant

pub overflow_sub-start-2 : goal.overflow_sub-start-2
overflow_sub-start-2 c = spelt-room c.loop-rest.invariant

pub returns-clause-value : goal.returns-clause-value
returns-clause-value c = spelt-all c.loop-rest.invariant c.loop-rest-test.false
