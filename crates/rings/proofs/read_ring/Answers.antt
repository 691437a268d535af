use mathlib.Core.Path.{refl}
use native.Mathlib.Omega.{arith}
use Rattle.rings.proofs.Runs.{read_none, read_run}
use Rattle.rings.proofs.read_ring.Goals as goal

pub loop-run-init : goal.loop-run-init
loop-run-init c = read_none _ _ _ c.requires

pub loop-run-preserved : goal.loop-run-preserved
loop-run-preserved c = read_run _ _ c.loop-run.invariant refl (omega arith) c.copy.ensures
