-- `input::blocks::feed_block` meets its contract: each turn feeds at least one more byte of the block, until it is used up (`Passing`).
use Rattle.std.proofs.Common.{◌-◌, length}
use Rattle.play.specs.Play.{StaysLent}
use Rattle.feed.specs.Feed.{standing}
use Rattle.feed.proofs.Blocks.{Passing}
use Rattle.input.proofs.blocks.feed_block.Given as goal

abbrev pub invariant-loop-run : goal.invariant-loop-run
invariant-loop-run g l =
    StaysLent l.initial.bench l.bench
    × Passing l.initial.bench.rec l.initial.bench.strict l.block (standing l.initial.run l.initial.bench l.initial.held l.initial.log) (standing l.run l.bench l.held l.log)

abbrev pub decreases-loop-run : goal.decreases-loop-run
decreases-loop-run g l = length l.block - l.run.at
