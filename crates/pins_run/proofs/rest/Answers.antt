-- `pins_run::rest` meets its contract: the front is at rest.
use mathlib.Core.Path.{sym, ◌∙◌}
use native.Mathlib.Omega.{arith}
use Rattle.pins_run.proofs.Going.{reach-all, rests-same, rests-moved}
use Rattle.pins_run.proofs.rest.Goals as goal

pub loop-i-preserved-then-eq : goal.loop-i-preserved-then-eq
loop-i-preserved-then-eq c =
    let o = c.loop-i in
    rests-same c.args.f c.args.samples.now o.front o.i o.last o.invariant c.loop-i-test.true (sym c.eq.ensures ∙ c.if-eq.true)

pub loop-i-preserved : goal.loop-i-preserved
loop-i-preserved c =
    let o = c.loop-i in
    rests-moved c.args.f c.args.samples.now o.front o.i o.last o.invariant c.loop-i-test.true c.from.result c.from.ensures _ _ _ c.select.ensures c.if-select-front.false c.clock.ensures c.is_held.ensures

pub returns : goal.returns
returns c = λ b. reach-all (omega (arith, c.loop-i-test.false)) (c.loop-i.invariant.on b)
