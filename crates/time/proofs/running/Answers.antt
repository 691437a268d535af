-- `time::running` meets its contract.
use mathlib.Core.Path.{ap, ◌∙◌}
use mathlib.Core.Bool.{true, false, not}
use Rattle.time.proofs.Time.{Fits, none-of, busy-with-none, idle-fits, busy-fits, idle-told}
use Rattle.time.proofs.running.Goals as goal

pub returns-then-idle_ok-page_fits : goal.returns-then-idle_ok-page_fits
returns-then-idle_ok-page_fits c =
    let a = c.args in
    idle-told a.rec a.st a.page.now c.if-st-eq0.true
    (idle-fits a.rec a.st a.page.now true c.if-st-eq0.true c.idle_ok.ensures c.page_fits.ensures c.if-idle_ok-page_fits.true)

pub returns-then-st-eq0 : goal.returns-then-st-eq0
returns-then-st-eq0 c =
    let a = c.args in
    let f : Fits a.rec a.st a.page.now false = idle-fits a.rec a.st a.page.now false c.if-st-eq0.true c.idle_ok.ensures c.page_fits.ensures c.if-idle_ok-page_fits.false in
    rw f

pub returns-then-busy_ok-page_fits : goal.returns-then-busy_ok-page_fits
returns-then-busy_ok-page_fits c =
    let a = c.args in
    let f : Fits a.rec a.st a.page.now true = busy-fits a.rec a.st a.page.now true c.if-st-eq0.false c.started_by-op.ensures c.busy_ok.ensures c.page_fits-2.ensures c.if-busy_ok-page_fits.true in
    rw (f, c.started_by-op.ensures)

pub returns-then-is_none : goal.returns-then-is_none
returns-then-is_none c =
    let a = c.args in
    let f : Fits a.rec a.st a.page.now false = busy-with-none a.rec a.st a.page.now c.if-st-eq0.false (none-of _ (c.is_none.ensures ∙ ap not c.if-is_none.true) ∙ c.started_by-op.ensures) in
    rw f

pub returns : goal.returns
returns c =
    let a = c.args in
    let f : Fits a.rec a.st a.page.now false = busy-fits a.rec a.st a.page.now false c.if-st-eq0.false c.started_by-op.ensures c.busy_ok.ensures c.page_fits-2.ensures c.if-busy_ok-page_fits.false in
    rw f
