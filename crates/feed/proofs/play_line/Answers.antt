-- `feed::play_line` meets its contract.
use Rattle.std.proofs.Common.{[], refl}
use Rattle.feed.specs.Feed.{standing}
use Rattle.feed.proofs.Turns.{line-done}
use Rattle.feed.proofs.play_line.Goals as goal

pub returns-clause-stands : goal.returns-clause-stands
returns-clause-stands c =
    let b = c.args.bench.now in
    line-done b.rec b.strict (standing c.args.run b [] c.args.log.now) c.log_line-filled.ensures.row refl
