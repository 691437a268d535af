-- `input::blocks::feed_block` meets its contract: each turn feeds at least one more byte of the block, until it is used up (`Passing`).
use Rattle.std.proofs.Common.{arith}
use Rattle.feed.specs.Feed.{standing}
use Rattle.feed.specs.Script.{begun_run}
use Rattle.feed.proofs.Turns.{stays-none, stays-then}
use Rattle.feed.proofs.Blocks.{passing-none, passing-all}
use Rattle.input.proofs.Came.{passing-fed, passing-further}
use Rattle.input.proofs.blocks.feed_block.Goals as goal

pub loop-run-init : goal.loop-run-init
loop-run-init g c =
    let a = c.args in
    let b = a.bench.now in
    let p = c.requires in
    (stays-none b, passing-none b.rec b.strict a.block.now (standing (begun_run a.first) b a.held.now a.log.now) p.hold p.used p.room)

pub loop-run-smaller : goal.loop-run-smaller
loop-run-smaller g c =
    let h = c.loop-run.invariant in
    omega (arith, c.loop-run-test.true, passing-further h.0 h.1 c.loop-run-test.true c.feed-fed.ensures.stands)

pub loop-run-preserved : goal.loop-run-preserved
loop-run-preserved g c =
    let h = c.loop-run.invariant in
    let f = c.feed-fed.ensures in
    (stays-then h.0 f.same, passing-fed h.0 h.1 c.loop-run-test.true f.stands)

pub returns-clause-played : goal.returns-clause-played
returns-clause-played g c =
    let h = c.loop-run in
    (h.invariant.1.ready.used, passing-all h.run h.bench h.held h.log h.invariant.1 c.loop-run-test.false)
