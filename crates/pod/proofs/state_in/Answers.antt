-- `pod::state_in` meets its contract.
use mathlib.Core.Path.{◌≡◌, sym, ap, ◌∙◌}
use mathlib.Core.Bool.{true, false}
use Rattle.std.specs.Prelude.{Ok}
use Rattle.states.specs.States.{record_ok}
use Rattle.states.specs.declared.State.{State}
use Rattle.packing.specs.Packing.{is_packing}
use Rattle.packing.proofs.Packing.{packing-length, unpack-read}
use Rattle.models.specs.Models.{model_of}
use Rattle.ladder.specs.Ladder.{misfits}
use Rattle.pod.specs.Calls.{state_in, loan}
use Rattle.pod.proofs.state_in.Goals as goal

pub returns-then-not-record_ok : goal.returns-then-not-record_ok
unfolding state_in
returns-then-not-record_ok c = let e : record_ok c.args.rec ≡ false = sym c.record_ok.ensures ∙ c.if-not-record_ok.true in rw e

pub unpack-requires : goal.unpack-requires
unpack-requires c = (packing-length _ (sym c.is_packed.ensures ∙ c.if-is_packed.true), c.busy_in-busy.ensures)

pub returns-then-is_packed : goal.returns-then-is_packed
unfolding state_in
returns-then-is_packed c =
    let right : record_ok c.args.rec ≡ true = sym c.record_ok.ensures ∙ c.if-not-record_ok.false in
    let packing : is_packing c.args.state.now ≡ true = sym c.is_packed.ensures ∙ c.if-is_packed.true in
    rw (right, packing) (ap (λ (s : State). Ok s) (c.unpack.ensures ∙ sym (unpack-read _ packing)))

pub returns-then-misfits : goal.returns-then-misfits
unfolding state_in
returns-then-misfits c =
    let a = c.args in
    let right : record_ok a.rec ≡ true = sym c.record_ok.ensures ∙ c.if-not-record_ok.false in
    let packing : is_packing a.state.now ≡ false = sym c.is_packed.ensures ∙ c.if-is_packed.false in
    let array : misfits (loan a.cells) (model_of a.rec.model).length ≡ true = rw (← c.model_of-row.ensures) (sym c.misfits.ensures ∙ c.if-misfits.true) in
    rw (right, packing, array)

pub returns-then-misfits-2 : goal.returns-then-misfits-2
unfolding state_in
returns-then-misfits-2 c =
    let a = c.args in
    let right : record_ok a.rec ≡ true = sym c.record_ok.ensures ∙ c.if-not-record_ok.false in
    let packing : is_packing a.state.now ≡ false = sym c.is_packed.ensures ∙ c.if-is_packed.false in
    let array : misfits (loan a.cells) (model_of a.rec.model).length ≡ false = rw (← c.model_of-row.ensures) (sym c.misfits.ensures ∙ c.if-misfits.false) in
    let table : misfits (loan a.sectors) (model_of a.rec.model).sectors ≡ true = rw (← c.model_of-row.ensures) (sym c.misfits-2.ensures ∙ c.if-misfits-2.true) in
    rw (right, packing, array, table)

pub returns : goal.returns
unfolding state_in
returns c =
    let a = c.args in
    let right : record_ok a.rec ≡ true = sym c.record_ok.ensures ∙ c.if-not-record_ok.false in
    let packing : is_packing a.state.now ≡ false = sym c.is_packed.ensures ∙ c.if-is_packed.false in
    let array : misfits (loan a.cells) (model_of a.rec.model).length ≡ false = rw (← c.model_of-row.ensures) (sym c.misfits.ensures ∙ c.if-misfits.false) in
    let table : misfits (loan a.sectors) (model_of a.rec.model).sectors ≡ false = rw (← c.model_of-row.ensures) (sym c.misfits-2.ensures ∙ c.if-misfits-2.false) in
    rw (right, packing, array, table)
