-- `test_script_vectors::feed` is safe and ends: each cut ends past where it began.
use Rattle.std.proofs.Common.{◌≡◌, ◌-◌, length}
use Rattle.test_script_vectors.proofs.feed.Given as goal

abbrev pub invariant-loop-at : goal.invariant-loop-at
invariant-loop-at g l = length l.held ≡ length l.initial.held

abbrev pub decreases-loop-at : goal.decreases-loop-at
decreases-loop-at g l = length l.block - l.at
