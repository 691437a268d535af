-- `feed::turn` meets its contract.
use Rattle.std.proofs.Common.{◌≡◌, length, take, sym, refl, ap, arith, length-take-le}
use Rattle.feed.specs.Feed.{standing}
use Rattle.feed.proofs.Turns.{cut-here, cut-joined, line_kept, at_cut}
use Rattle.feed.proofs.turn.Goals as goal

pub slice_bounds-play_line-count : goal.slice_bounds-play_line-count
slice_bounds-play_line-count c = omega (arith, cut-here c.cut_line.ensures c.in-Here.is)

pub slice_bounds-play_line-start : goal.slice_bounds-play_line-start
slice_bounds-play_line-start c = omega (arith, cut-here c.cut_line.ensures c.in-Here.is)

pub slice_bounds-play_line-end : goal.slice_bounds-play_line-end
slice_bounds-play_line-end c = omega (arith, cut-here c.cut_line.ensures c.in-Here.is)

pub returns-in-Here-clause-stands : goal.returns-in-Here-clause-stands
returns-in-Here-clause-stands c =
    let a = c.args in
    let b = a.bench.now in
    let s = standing a.run b a.held.now a.log.now in
    let cut = c.cut_line.ensures in
    at_cut b.rec b.strict a.block.now s cut c.in-Here.is (line_kept b.rec b.strict s _ refl cut.kept c.play_line.ensures.stands)

pub slice_bounds-play_line-end-in-Joined : goal.slice_bounds-play_line-end-in-Joined
slice_bounds-play_line-end-in-Joined c =
    let k : length c.cut_line.new.held ≡ length c.args.held.now = c.cut_line.auto.held in
    let i = cut-joined c.cut_line.ensures c.in-Joined.is in
    let n = i.2 (omega (arith, c.requires.used, c.requires.hold)) in
    omega arith

pub slice_bounds-play_line-end-in-Joined-2 : goal.slice_bounds-play_line-end-in-Joined-2
slice_bounds-play_line-end-in-Joined-2 c =
    let k : length c.cut_line.new.held ≡ length c.args.held.now = c.cut_line.auto.held in
    let n = (cut-joined c.cut_line.ensures c.in-Joined.is).2 (omega (arith, c.requires.used, c.requires.hold)) in
    sym (length-take-le _ c.cut_line.new.held (omega arith))

pub overflow_add-end-in-Joined : goal.overflow_add-end-in-Joined
overflow_add-end-in-Joined c = omega (arith, (cut-joined c.cut_line.ensures c.in-Joined.is).1)

pub returns-in-Joined-clause-stands : goal.returns-in-Joined-clause-stands
returns-in-Joined-clause-stands c =
    let a = c.args in
    let b = a.bench.now in
    let s = standing a.run b a.held.now a.log.now in
    let cut = c.cut_line.ensures in
    at_cut b.rec b.strict a.block.now s cut c.in-Joined.is
    (line_kept b.rec b.strict s _ (ap (take c.in-Joined.used) cut.kept) cut.kept c.play_line-in-Joined.ensures.stands)

pub returns-in-Open-clause-stands : goal.returns-in-Open-clause-stands
returns-in-Open-clause-stands c =
    let a = c.args in
    let b = a.bench.now in
    let cut = c.cut_line.ensures in
    at_cut b.rec b.strict a.block.now (standing a.run b a.held.now a.log.now) cut c.in-Open.is
    (record { run' = refl; state' = refl; held' = cut.kept; page' = refl; cells' = refl; wear' = refl; log' = refl })
