-- `parts::copy` meets its contract.
use mathlib.Core.Path.{refl}
use native.Mathlib.Omega.{arith}
use Rattle.parts.proofs.Loop.{done_none, done-step, copied}
use Rattle.parts.proofs.copy.Goals as goal

pub loop-k-init : goal.loop-k-init
loop-k-init c = done_none _ _

pub loop-k-preserved : goal.loop-k-preserved
loop-k-preserved c = done-step _ _ _ _ _ c.loop-k.invariant (omega arith) refl

pub returns : goal.returns
returns c = copied _ _ _ _ c.loop-k.invariant (omega arith) c.requires
