-- `input::play_blocks` meets its contract: after each block, some blocks brought it from power-on to where it stands.
use Rattle.std.proofs.Common.{◌∙◌}
use Rattle.feed.proofs.Turns.{stays-then}
use Rattle.input.proofs.Came.{came-on, came-ended}
use Rattle.input.proofs.play_blocks.Goals as goal

pub returns-in-Break-clause-played : goal.returns-in-Break-clause-played
returns-in-Break-clause-played g c =
    let h = c.loop.invariant in
    came-ended (record c.args.bench.now { state = c.power_on-bench.result }) h.4 h.3 h.2 c.requires h.5 c.in-Break.ensures.read

pub loop-preserved : goal.loop-preserved
loop-preserved g c =
    let h = c.loop.invariant in
    let w = came-on h.4 h.5 c.in-Continue.ensures.read in
    (w.0, c.read_block.auto.held ∙ h.1, h.2, h.3, stays-then h.4 c.in-Continue.ensures.same, w.1)
