-- `counts::sum_up` meets its contract. The invariant: what is known of the counts looked at so far.
use Prim.Native.Nat.{◌*◌, ◌≤◌}
use lib.ListN.{length}
use Rattle.counts.proofs.Pass.{Seen}
use Rattle.counts.proofs.sum_up.Given as goal

abbrev pub invariant-loop-k : goal.invariant-loop-k
invariant-loop-k l = (l.k ≤ length l.wear) × (length l.wear ≤ 4096) × (l.s.total ≤ l.k * 4294967295) × Seen l.wear l.k l.s
