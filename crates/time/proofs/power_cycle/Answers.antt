-- `time::power_cycle` meets its contract.
use mathlib.Core.Path.{sym, ◌∙◌}
use borrow.Author.Tests.{eq-eqb, ne_eqb}
use Rattle.std.proofs.lemmas.Result.{err_from_is_err_and}
use Rattle.operations.specs.Operations.{runs}
use Rattle.time.specs.Time.{fit_refusal}
use Rattle.time.proofs.Time.{told-refused, told-done, power-record, power-parts, power-refused, power-done}
use Rattle.time.proofs.power_cycle.Goals as goal

pub returns-then-not-record_ok : goal.returns-then-not-record_ok
returns-then-not-record_ok c =
    let a = c.args in
    power-refused a.rec a.st a.page.now (power-record a.rec a.st a.page.now (sym c.record_ok.ensures ∙ c.if-not-record_ok.true))

pub returns-in_err-running : goal.returns-in_err-running
returns-in_err-running c =
    let a = c.args in
    let p = err_from_is_err_and c.from_residual.result c.from_residual.ensures.1 in
    let e = told-refused (fit_refusal a.rec a.st a.page.now) (runs a.rec.model a.st) (sym c.in_err-running.was ∙ c.running.ensures) in
    rw (p.1, p.2) (power-refused a.rec a.st a.page.now (power-parts a.rec a.st a.page.now (sym c.record_ok.ensures ∙ c.if-not-record_ok.false) ∙ rw e))

pub returns-then-st-ne0 : goal.returns-then-st-ne0
returns-then-st-ne0 c =
    let a = c.args in
    let d = told-done (fit_refusal a.rec a.st a.page.now) (runs a.rec.model a.st) (sym c.in_ok-running.was ∙ c.running.ensures) in
    power-refused a.rec a.st a.page.now (power-parts a.rec a.st a.page.now (sym c.record_ok.ensures ∙ c.if-not-record_ok.false) ∙ rw (d.0, ne_eqb _ _ c.if-st-ne0.true))

pub returns : goal.returns
returns c =
    let a = c.args in
    let d = told-done (fit_refusal a.rec a.st a.page.now) (runs a.rec.model a.st) (sym c.in_ok-running.was ∙ c.running.ensures) in
    power-done a.rec a.st a.page.now c.cycle.ensures (power-parts a.rec a.st a.page.now (sym c.record_ok.ensures ∙ c.if-not-record_ok.false) ∙ rw (d.0, eq-eqb _ _ c.if-st-ne0.false))
