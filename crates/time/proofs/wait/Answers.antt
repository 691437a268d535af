-- `time::wait` meets its contract.
use mathlib.Core.Path.{sym, ◌∙◌}
use Rattle.std.proofs.lemmas.Result.{err_from_is_err_and}
use Rattle.operations.specs.Operations.{runs}
use Rattle.states.specs.States.{Chip, chip_of}
use Rattle.time.specs.Time.{chip_refusal, wait_of, waited}
use Rattle.time.proofs.Time.{told-refused, told-done, refused-ends, done-ends, chip-fits, ready, rests, ends}
use Rattle.time.proofs.wait.Goals as goal

pub returns-in_err-op : goal.returns-in_err-op
unfolding wait_of
returns-in_err-op c =
    let a = c.args in
    let chip : Chip = chip_of a.st a.page.now a.array.now in
    let p = err_from_is_err_and c.from_residual.result c.from_residual.ensures.1 in
    refused-ends chip (waited a.rec.model chip a.us) (told-refused (chip_refusal a.rec chip) (runs a.rec.model a.st) (sym c.in_err-op.was ∙ c.lent.ensures)) (p.1 ∙ rw (p.2))

pub returns-then-st-us : goal.returns-then-st-us
unfolding wait_of
returns-then-st-us c =
    let a = c.args in
    let chip : Chip = chip_of a.st a.page.now a.array.now in
    let d = told-done (chip_refusal a.rec chip) (runs a.rec.model a.st) (sym c.in_ok-op.was ∙ c.lent.ensures) in
    done-ends chip (waited a.rec.model chip a.us) d.0 (rw c.rested.ensures (rests a.rec chip a.us c.if-st-us.true))

pub finish-requires : goal.finish-requires
finish-requires c =
    let a = c.args in
    let chip : Chip = chip_of a.st a.page.now a.array.now in
    let d = told-done (chip_refusal a.rec chip) (runs a.rec.model a.st) (sym c.in_ok-op.was ∙ c.lent.ensures) in
    (d.1, ready a.rec chip (chip-fits a.rec chip (rw (d.0))))

pub returns : goal.returns
unfolding wait_of
returns c =
    let a = c.args in
    let chip : Chip = chip_of a.st a.page.now a.array.now in
    let d = told-done (chip_refusal a.rec chip) (runs a.rec.model a.st) (sym c.in_ok-op.was ∙ c.lent.ensures) in
    done-ends chip (waited a.rec.model chip a.us) d.0 (ends a.rec chip a.us c.if-st-us.false c.finish.ensures)
