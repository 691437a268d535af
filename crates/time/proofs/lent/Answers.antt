-- `time::lent` meets its contract.
use mathlib.Core.Path.{sym, ◌∙◌}
use borrow.Author.Tests.{eq-eqb, ne_eqb}
use Rattle.states.specs.States.{chip_of}
use Rattle.time.proofs.Time.{no_record, no-array, last_row}
use Rattle.time.proofs.lent.Goals as goal

pub returns-then-not-record_ok : goal.returns-then-not-record_ok
returns-then-not-record_ok c =
    let a = c.args in
    rw (no_record a.rec (chip_of a.st a.page.now a.array.now) (sym c.record_ok.ensures ∙ c.if-not-record_ok.true))

pub returns-then-array-row : goal.returns-then-array-row
returns-then-array-row c =
    let a = c.args in
    rw (no-array a.rec (chip_of a.st a.page.now a.array.now) (sym c.record_ok.ensures ∙ c.if-not-record_ok.false) (rw (← c.model_of-row.ensures) (ne_eqb _ _ c.if-array-row.true)))

pub returns : goal.returns
returns c =
    let a = c.args in
    rw (last_row a.rec (chip_of a.st a.page.now a.array.now) (sym c.record_ok.ensures ∙ c.if-not-record_ok.false) (rw (← c.model_of-row.ensures) (eq-eqb _ _ c.if-array-row.false))) c.running.ensures
