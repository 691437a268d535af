-- `play::Bench::play` meets its contract.
use Rattle.std.proofs.Common.{rules}
use Rattle.play.specs.Play.{chip_on, turn_of}
use Rattle.play.proofs.Laws.{waited_turn, cycled_turn}
use Rattle.play.proofs.Bench.play.Goals as goal

pub returns-in-Some-Wait-clause-played : goal.returns-in-Some-Wait-clause-played
unfolding turn_of
returns-in-Some-Wait-clause-played c =
    let b = c.args.self.now in
    let w = waited_turn b.rec (chip_on b) c.in-Some-Wait.us c.wait-after.ensures in
    search (rules, w.0, w.1)

pub returns-in-Some-Power-clause-played : goal.returns-in-Some-Power-clause-played
unfolding turn_of
returns-in-Some-Power-clause-played c =
    let b = c.args.self.now in
    let w = cycled_turn b.rec b.state b.page.now in
    search (rules, w.0, w.1)
