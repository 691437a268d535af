-- `feed::feed` meets its contract.
use Rattle.std.proofs.Common.{arith}
use Rattle.feed.specs.Feed.{standing}
use Rattle.feed.proofs.Turns.{stays-none, stays-then}
use Rattle.feed.proofs.Feeds.{feeding-none, feeding-ready, feeding-turned, turn_on}
use Rattle.feed.proofs.feed.Goals as goal

pub loop-run-init : goal.loop-run-init
loop-run-init c =
    let a = c.args in
    let b = a.bench.now in
    (stays-none b, feeding-none b.rec b.strict a.block.now (standing a.first b a.held.now a.log.now) c.requires)

pub loop-run-smaller : goal.loop-run-smaller
loop-run-smaller c =
    let h = c.loop-run in
    let p = feeding-ready h.invariant.1 c.loop-run-test.true c.if-log-run-lt-LONGEST_ROW.false in
    omega (arith, c.loop-run-test.true, turn_on h.bench.rec h.bench.strict c.args.block.now (standing h.run h.bench h.held h.log) p c.turn-run.ensures.stands)

pub loop-run-preserved : goal.loop-run-preserved
loop-run-preserved c =
    let h = c.loop-run.invariant in
    let t = c.turn-run.ensures in
    (stays-then h.0 t.same, feeding-turned h.0 h.1 c.loop-run-test.true c.if-log-run-lt-LONGEST_ROW.false t.stands)
