-- `packing::busy_in` meets its contract.
use Rattle.packing.proofs.Packing.{busy-spelt, busy-none}
use Rattle.packing.proofs.busy_in.Goals as goal

pub returns-then-state-eq272 : goal.returns-then-state-eq272
returns-then-state-eq272 c = busy-spelt _ c.if-state-eq272.true c.time_of.ensures

pub returns : goal.returns
returns c = busy-none _ c.if-state-eq272.false
