-- `pins_run::run_in` meets its contract: what is reached is a run's way from its start.
use mathlib.Core.Path.{sym, ◌∙◌}
use native.Mathlib.Omega.{arith}
use Rattle.pins_run.proofs.Going.{reach-then, way_end, way-left, way-stop, way_on}
use Rattle.pins_run.proofs.run_in.Goals as goal

pub gather-gathered-requires : goal.gather-gathered-requires
gather-gathered-requires c = (c.rest-rested.ensures c.loop-byte.buffer).right

pub returns-in_default : goal.returns-in_default
returns-in_default c =
    let way = reach-then c.loop-byte.invariant (reach-then (c.rest-rested.ensures c.loop-byte.buffer) c.gather-gathered.ensures) in
    way_end c.args.f c.args.samples.now c.args.buffer.now _ _ _ c.in_default.ensures.cases way

pub overflow_sub-result : goal.overflow_sub-result
overflow_sub-result c =
    let way = reach-then c.loop-byte.invariant (reach-then (c.rest-rested.ensures c.loop-byte.buffer) c.gather-gathered.ensures) in
    let t = c.step_in-stepped in
    omega (arith, way-left c.args.f c.args.samples.now c.args.buffer.now _ _ _ _ _ _ c.in-Some.ensures.cases.0 c.from.ensures way t.result _ t.ensures)

pub returns-then-is_end : goal.returns-then-is_end
returns-then-is_end c =
    let way = reach-then c.loop-byte.invariant (reach-then (c.rest-rested.ensures c.loop-byte.buffer) c.gather-gathered.ensures) in
    let t = c.step_in-stepped in
    way-stop c.args.f c.args.samples.now c.args.buffer.now _ _ _ _ _ _ c.in-Some.ensures.cases.0 c.from.ensures way t.result _ t.ensures (sym c.is_end.ensures ∙ c.if-is_end.true)

pub loop-byte-smaller : goal.loop-byte-smaller
loop-byte-smaller c = omega (arith, (c.rest-rested.ensures c.loop-byte.buffer).long, c.gather-gathered.ensures.long, c.in-Some.ensures.cases.1)

pub loop-byte-preserved : goal.loop-byte-preserved
loop-byte-preserved c =
    let way = reach-then c.loop-byte.invariant (reach-then (c.rest-rested.ensures c.loop-byte.buffer) c.gather-gathered.ensures) in
    let t = c.step_in-stepped in
    way_on c.args.f c.args.samples.now c.args.buffer.now _ _ _ _ _ _ c.in-Some.ensures.cases.0 c.from.ensures way t.result _ t.ensures (sym c.is_end.ensures ∙ c.if-is_end.false)
