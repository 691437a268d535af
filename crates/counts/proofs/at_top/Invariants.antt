-- `counts::at_top` meets its contract. The invariant: what was found, and what the counts still to come say.
use mathlib.Core.Path.{◌≡◌}
use mathlib.Core.Bool.{◌||◌}
use Prim.Native.Nat.{◌≤◌}
use lib.ListN.{length, drop}
use Rattle.counts.specs.Counts.{at_top}
use Rattle.counts.proofs.at_top.Given as goal

abbrev pub invariant-loop-count : goal.invariant-loop-count
invariant-loop-count l = (l.count-index ≤ length l.counts) × (l.count-index-end ≡ length l.counts) × ((l.top || at_top (drop l.count-index l.counts)) ≡ at_top l.counts)
