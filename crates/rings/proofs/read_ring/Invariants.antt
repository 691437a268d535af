-- Out is read up to `done`, and `run` is what follows in src.
use Prim.Native.Nat.{◌-◌}
use lib.ListN.{length}
use Rattle.rings.proofs.Runs.{ReadTo}
use Rattle.rings.proofs.read_ring.Given as goal

abbrev pub invariant-loop-run : goal.invariant-loop-run
invariant-loop-run l = ReadTo l.src l.first l.done l.out l.run

abbrev pub decreases-loop-run : goal.decreases-loop-run
decreases-loop-run l = length l.out - l.done
