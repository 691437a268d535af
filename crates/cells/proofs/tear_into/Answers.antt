use native.Mathlib.Omega.{arith}
use Rattle.cells.specs.Cell.{torn_cells}
use Rattle.parts.proofs.Loop.{done_none, done-step, done_all}
use Rattle.cells.proofs.tear_into.Goals as goal

pub loop-k-init : goal.loop-k-init
loop-k-init c = done_none _ _

pub loop-k-preserved : goal.loop-k-preserved
loop-k-preserved c = done-step _ _ _ _ _ c.loop-k.invariant (omega arith) c.torn.ensures

pub returns : goal.returns
unfolding torn_cells
returns c = done_all _ _ _ _ c.loop-k.invariant (omega arith)
