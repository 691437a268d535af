-- `pod::gwo_frame` meets its contract.
use mathlib.Core.Path.{◌≡◌, sym, ◌∙◌}
use native.Mathlib.Omega.{arith}
use lib.ListN.{length}
use Rattle.ladder.specs.Ladder.{sized}
use Rattle.packing.proofs.Packing.{packing-length}
use Rattle.pod.specs.Calls.{sent_by}
use Rattle.pod.proofs.Calls.{was_read, unread-frame, fits-frame, leaves}
use Rattle.pod.proofs.gwo_frame.Goals as goal

pub returns-in-Err : goal.returns-in-Err
returns-in-Err c =
    let a = c.args in
    rw (← c.record_of-rec.ensures, c.number.ensures)
    (unread-frame c.record_of-rec.result a.state.now a.array.now (sent_by a.frame.now a.tail a.wp a.strict a.wear.now a.out.now) (sym c.in-Err.is ∙ c.state_in.ensures))

pub slice_bounds-frame-end : goal.slice_bounds-frame-end
slice_bounds-frame-end c =
    let a = c.args in
    let k = was_read c.record_of-rec.result a.state.now (sized (length a.array.now)) (sized (length a.wear.now)) (sym c.in-Ok.is ∙ c.state_in.ensures) in
    omega (arith, packing-length _ k.0)

pub keep-requires : goal.keep-requires
keep-requires c =
    let a = c.args in
    let k = was_read c.record_of-rec.result a.state.now (sized (length a.array.now)) (sized (length a.wear.now)) (sym c.in-Ok.is ∙ c.state_in.ensures) in
    fits-frame c.record_of-rec.result a.state.now a.array.now (sent_by a.frame.now a.tail a.wp a.strict a.wear.now a.out.now) (packing-length _ k.0) k.1 c.frame-reply.ensures

pub returns : goal.returns
returns c =
    let a = c.args in
    let k = was_read c.record_of-rec.result a.state.now (sized (length a.array.now)) (sized (length a.wear.now)) (sym c.in-Ok.is ∙ c.state_in.ensures) in
    rw (← c.record_of-rec.ensures)
    (leaves c.record_of-rec.result a.state.now a.array.now (sent_by a.frame.now a.tail a.wp a.strict a.wear.now a.out.now) (packing-length _ k.0) k.1 c.frame-reply.ensures c.keep.ensures.0 c.keep.ensures.1)
