-- `input::play_blocks` meets its contract: after each block, some blocks brought it from power-on to where it stands.
use Rattle.std.proofs.Common.{◌≡◌, ◌≤◌, length}
use Rattle.states.specs.States.{power_on}
use Rattle.play.specs.Play.{StaysLent}
use Rattle.feed.specs.Feed.{standing}
use Rattle.input.specs.Input.{first_run}
use Rattle.input.proofs.Came.{Came}
use Rattle.input.proofs.play_blocks.Given as goal

abbrev pub invariant-loop : goal.invariant-loop
invariant-loop g l =
    (l.run.used ≤ 641) × (length l.held ≡ 641) × (length l.initial.held ≡ 641) × (l.initial.bench.state ≡ power_on) × StaysLent l.initial.bench l.bench
    × Came l.initial.bench.rec l.initial.bench.strict (standing first_run l.initial.bench l.initial.held l.initial.log) (standing l.run l.bench l.held l.log)
