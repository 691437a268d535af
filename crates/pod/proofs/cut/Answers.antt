-- `pod::cut` meets its contract.
use mathlib.Core.Path.{sym, ◌∙◌}
use native.Mathlib.Omega.{arith}
use lib.ListN.{length}
use Rattle.std.proofs.lemmas.Result.{err_from_is_err_and}
use Rattle.ladder.specs.Ladder.{absent, sized}
use Rattle.packing.proofs.Packing.{packing-length}
use Rattle.pod.proofs.Calls.{was_read, unread-cut, fits_cut, alters-cut, refuses-cut}
use Rattle.pod.proofs.cut.Goals as goal

pub returns-in_err-st : goal.returns-in_err-st
returns-in_err-st c =
    let a = c.args in
    let p = err_from_is_err_and c.from_residual.result c.from_residual.ensures.1 in
    rw (p.1, p.2) (unread-cut a.rec a.state.now a.array.now a.pattern.now (sym c.in_err-st.was ∙ c.state_in.ensures))

pub slice_bounds-cut-end : goal.slice_bounds-cut-end
slice_bounds-cut-end c = let a = c.args in omega (arith, packing-length _ (was_read a.rec a.state.now (sized (length a.array.now)) absent (sym c.in_ok-st.was ∙ c.state_in.ensures)).0)

pub returns-in_err-next : goal.returns-in_err-next
returns-in_err-next c =
    let a = c.args in
    let k = was_read a.rec a.state.now (sized (length a.array.now)) absent (sym c.in_ok-st.was ∙ c.state_in.ensures) in
    let p = err_from_is_err_and c.from_residual-in_err-next.result c.from_residual-in_err-next.ensures.1 in
    rw (p.1, p.2) (refuses-cut a.rec a.state.now a.array.now (packing-length _ k.0) k.1 a.pattern.now c.cut.ensures c.in_err-next.was)

pub pack-requires : goal.pack-requires
pack-requires c =
    let a = c.args in
    let k = was_read a.rec a.state.now (sized (length a.array.now)) absent (sym c.in_ok-st.was ∙ c.state_in.ensures) in
    fits_cut a.rec a.state.now a.array.now (packing-length _ k.0) k.1 a.pattern.now c.cut.ensures c.in_ok-next.was

pub returns : goal.returns
returns c =
    let a = c.args in
    let k = was_read a.rec a.state.now (sized (length a.array.now)) absent (sym c.in_ok-st.was ∙ c.state_in.ensures) in
    alters-cut a.rec a.state.now a.array.now (packing-length _ k.0) k.1 a.pattern.now c.cut.ensures c.in_ok-next.was c.pack.ensures
