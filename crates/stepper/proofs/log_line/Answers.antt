-- `stepper::log_line` meets its contract.
use Rattle.std.proofs.Common.{◌≡◌, length, replicate, arith}
use Rattle.play.specs.Play.{chip_on}
use Rattle.play.proofs.Laws.{played-within}
use Rattle.stepper.proofs.Rows.{row-logs}
use Rattle.stepper.proofs.log_line.Goals as goal

pub slice_bounds-put_row-end : goal.slice_bounds-put_row-end
slice_bounds-put_row-end c =
    let b = c.args.bench.now in
    let p = c.play-p in
    let w = played-within b.rec b.strict (chip_on b) b.wear.now (replicate 300 0) c.args.line.now p.ensures.played.played in
    let n : length p.new.shown ≡ 300 = p.auto.shown in
    omega arith

pub returns-clause-row : goal.returns-clause-row
returns-clause-row c =
    let a = c.args in
    let b = a.bench.now in
    let p = c.play-p in
    let n : length p.new.shown ≡ 300 = p.auto.shown in
    row-logs b.rec b.strict (chip_on b) b.wear.now a.number a.line.now a.log.now a.at c.requires p.ensures.played n (rw c.number_of-answer.ensures at c.put_row.ensures)
