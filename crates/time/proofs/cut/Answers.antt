-- `time::cut` meets its contract.
use mathlib.Core.Path.{sym, ap, ◌∙◌}
use Rattle.std.specs.Prelude.{Option}
use lib.ListN.{length}
use mathlib.Core.Path.{refl}
use Rattle.std.proofs.lemmas.Result.{err_from_is_err_and}
use Rattle.commands.specs.declared.Operation.{Operation}
use Rattle.operations.specs.Operations.{runs, pattern_length}
use Rattle.states.specs.States.{Chip, chip_of}
use Rattle.time.specs.Time.{chip_refusal, power_cut_of, cut_off}
use Rattle.time.proofs.Time.{told-refused, told-done, refused-ends, done-ends, chip-fits, ready, low-level, no-chip, no-pattern, may-cut, cut-left}
use Rattle.time.proofs.cut.Goals as goal

pub returns-in_err-op : goal.returns-in_err-op
unfolding power_cut_of
returns-in_err-op c =
    let a = c.args in
    let chip : Chip = chip_of a.st a.page.now a.array.now in
    let p = err_from_is_err_and c.from_residual.result c.from_residual.ensures.1 in
    refused-ends chip (cut_off a.rec.model chip a.pattern.now)
    (no-chip a.rec chip a.pattern.now (told-refused (chip_refusal a.rec chip) (runs a.rec.model a.st) (sym c.in_err-op.was ∙ c.lent.ensures))) (p.1 ∙ rw (p.2))

pub returns-then-pattern-pattern_length : goal.returns-then-pattern-pattern_length
unfolding power_cut_of
returns-then-pattern-pattern_length c =
    let a = c.args in
    let chip : Chip = chip_of a.st a.page.now a.array.now in
    let d = told-done (chip_refusal a.rec chip) (runs a.rec.model a.st) (sym c.in_ok-op.was ∙ c.lent.ensures) in
    let l = c.pattern_length.ensures ∙ ap (λ (op : Option Operation). pattern_length op a.st.address (length a.array.now)) d.1 in
    refused-ends chip (cut_off a.rec.model chip a.pattern.now)
    (no-pattern a.rec chip a.pattern.now d.0 (λ z. c.if-pattern-pattern_length.true (z ∙ sym l))) refl

pub tear-torn-requires : goal.tear-torn-requires
tear-torn-requires c =
    let a = c.args in
    let chip : Chip = chip_of a.st a.page.now a.array.now in
    let d = told-done (chip_refusal a.rec chip) (runs a.rec.model a.st) (sym c.in_ok-op.was ∙ c.lent.ensures) in
    let l = c.pattern_length.ensures ∙ ap (λ (op : Option Operation). pattern_length op a.st.address (length a.array.now)) d.1 in
    let f = chip-fits a.rec chip (rw (d.0)) in
    (d.1, ready a.rec chip f, low-level a.rec chip f, c.if-pattern-pattern_length.false ∙ l)

pub returns : goal.returns
unfolding power_cut_of
returns c =
    let a = c.args in
    let chip : Chip = chip_of a.st a.page.now a.array.now in
    let d = told-done (chip_refusal a.rec chip) (runs a.rec.model a.st) (sym c.in_ok-op.was ∙ c.lent.ensures) in
    let l = c.pattern_length.ensures ∙ ap (λ (op : Option Operation). pattern_length op a.st.address (length a.array.now)) d.1 in
    rw c.cycle.ensures
    (done-ends chip (cut_off a.rec.model chip a.pattern.now) (may-cut a.rec chip a.pattern.now d.0 (c.if-pattern-pattern_length.false ∙ l)) (cut-left a.rec chip a.pattern.now c.tear-torn.ensures))
