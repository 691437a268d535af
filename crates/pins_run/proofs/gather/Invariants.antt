-- `pins_run::gather` meets its contract: the run goes on from the front, which is within a frame.
use Rattle.pins_run.proofs.Going.{Gathers}
use Rattle.pins_run.proofs.gather.Given as goal

abbrev pub invariant-loop-i : goal.invariant-loop-i
invariant-loop-i l = Gathers l.fn.f l.samples l.initial.buffer l.front l.bytes l.i l.buffer
