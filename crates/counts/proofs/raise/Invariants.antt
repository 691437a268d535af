-- `counts::raise` meets its contract: the counts below i are raised.
use mathlib.Core.Path.{◌≡◌}
use mathlib.Core.Bool.{false}
use Prim.Native.Nat.{ℕ, ◌+◌, ◌≤◌}
use lib.ListN.{length}
use Rattle.parts.proofs.Loop.{Done}
use Rattle.counts.specs.Counts.{at_top}
use Rattle.counts.proofs.raise.Given as goal

abbrev pub invariant-loop-count : goal.invariant-loop-count
invariant-loop-count l =
    (l.count-index ≤ length l.initial.counts) × (l.count-index-end ≡ length l.initial.counts) × (at_top l.initial.counts ≡ false) × Done (λ (k old : ℕ). old + 1) l.count-index l.initial.counts l.counts
