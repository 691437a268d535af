-- `pins_run::rest` meets its contract: the front is at rest.
use Rattle.pins_run.proofs.Going.{Rests}
use Rattle.pins_run.proofs.rest.Given as goal

abbrev pub invariant-loop-i : goal.invariant-loop-i
invariant-loop-i l = Rests l.fn.f l.samples l.front l.i l.last
