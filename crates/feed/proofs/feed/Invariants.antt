-- `feed::feed` meets its contract.
use Rattle.std.proofs.Common.{◌-◌, length}
use Rattle.play.specs.Play.{StaysLent}
use Rattle.feed.specs.Feed.{standing}
use Rattle.feed.proofs.Feeds.{Feeding}
use Rattle.feed.proofs.feed.Given as goal

abbrev pub invariant-loop-run : goal.invariant-loop-run
invariant-loop-run l =
    StaysLent l.initial.bench l.bench
    × Feeding l.initial.bench.rec l.initial.bench.strict l.block (standing l.initial.run l.initial.bench l.initial.held l.initial.log) (standing l.run l.bench l.held l.log)

abbrev pub decreases-loop-run : goal.decreases-loop-run
decreases-loop-run l = length l.block - l.run.at
