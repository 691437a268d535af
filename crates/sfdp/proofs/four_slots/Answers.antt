-- `sfdp::four_slots` meets its contract.
use native.Mathlib.Omega.{arith}
use Rattle.sfdp.proofs.Writer.{slot_more}
use Rattle.sfdp.proofs.four_slots.Goals as goal

pub loop-i-preserved : goal.loop-i-preserved
loop-i-preserved c = let h = c.loop-i in (omega (arith, c.loop-i-test.true), rw h.invariant.1 (slot_more c.args.erases.now h.i c.requires (omega (arith, c.loop-i-test.true))))
