-- `pod::cycle` meets its contract.
use mathlib.Core.Path.{sym, ◌∙◌}
use native.Mathlib.Omega.{arith}
use Rattle.std.proofs.lemmas.Result.{err_from_is_err_and}
use Rattle.ladder.specs.Ladder.{absent}
use Rattle.packing.proofs.Packing.{packing-length}
use Rattle.pod.proofs.Calls.{was_read, unread-cycle, fits-cycle, answers-cycle, refuses-cycle}
use Rattle.pod.proofs.cycle.Goals as goal

pub returns-in_err-st : goal.returns-in_err-st
returns-in_err-st c =
    let a = c.args in
    let p = err_from_is_err_and c.from_residual.result c.from_residual.ensures.1 in
    rw (p.1, p.2) (unread-cycle a.rec a.state.now (sym c.in_err-st.was ∙ c.state_in.ensures))

pub slice_bounds-power_cycle-end : goal.slice_bounds-power_cycle-end
slice_bounds-power_cycle-end c = let a = c.args in omega (arith, packing-length _ (was_read a.rec a.state.now absent absent (sym c.in_ok-st.was ∙ c.state_in.ensures)).0)

pub returns-in_err-next : goal.returns-in_err-next
returns-in_err-next c =
    let a = c.args in
    let k = was_read a.rec a.state.now absent absent (sym c.in_ok-st.was ∙ c.state_in.ensures) in
    let p = err_from_is_err_and c.from_residual-in_err-next.result c.from_residual-in_err-next.ensures.1 in
    rw (p.1, p.2) (refuses-cycle a.rec a.state.now (packing-length _ k.0) k.1 c.power_cycle.ensures c.in_err-next.was)

pub pack-requires : goal.pack-requires
pack-requires c =
    let a = c.args in
    let k = was_read a.rec a.state.now absent absent (sym c.in_ok-st.was ∙ c.state_in.ensures) in
    fits-cycle a.rec a.state.now (packing-length _ k.0) k.1 c.power_cycle.ensures c.in_ok-next.was

pub returns : goal.returns
returns c =
    let a = c.args in
    let k = was_read a.rec a.state.now absent absent (sym c.in_ok-st.was ∙ c.state_in.ensures) in
    answers-cycle a.rec a.state.now (packing-length _ k.0) k.1 c.power_cycle.ensures c.in_ok-next.was c.pack.ensures
