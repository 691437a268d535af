-- `feed::finish` meets its contract.
use Rattle.std.proofs.Common.{refl}
use Rattle.feed.specs.Feed.{standing}
use Rattle.feed.proofs.Feeds.{finishes-none, finishes-line}
use Rattle.feed.proofs.finish.Goals as goal

pub returns-then-run-eq0-clause-stands : goal.returns-then-run-eq0-clause-stands
returns-then-run-eq0-clause-stands c =
    let a = c.args in
    finishes-none a.bench.now.rec a.bench.now.strict a.run a.bench.now a.held.now a.log.now c.if-run-eq0.true

pub returns-clause-stands : goal.returns-clause-stands
returns-clause-stands c =
    let a = c.args in
    finishes-line a.bench.now.rec a.bench.now.strict (standing a.run a.bench.now a.held.now a.log.now) c.if-run-eq0.false refl c.play_line.ensures.stands
