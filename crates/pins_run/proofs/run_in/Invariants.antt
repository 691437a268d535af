-- `pins_run::run_in` meets its contract: what is reached is a run's way from its start.
use lib.ListN.{length}
use Rattle.pins_run.specs.Runs.{Reaches}
use Rattle.pins_run.proofs.run_in.Given as goal

abbrev pub invariant-loop-byte : goal.invariant-loop-byte
invariant-loop-byte l = Reaches l.fn.f l.samples l.initial.buffer l.front l.left l.buffer

abbrev pub decreases-loop-byte : goal.decreases-loop-byte
decreases-loop-byte l = length l.left
