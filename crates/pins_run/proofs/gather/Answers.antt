-- `pins_run::gather` meets its contract: the run goes on from the front, which is within a frame.
use mathlib.Core.Path.{sym, ap, ◌∙◌}
use mathlib.Core.Bool.{Bool, ◌||◌}
use Rattle.pins_run.proofs.Going.{frame-low, frame-high, frame-bit, frame_byte}
use Rattle.pins_run.proofs.gather.Goals.{then-front-3-via-then-front-3, then-front-3-via-else-front-3+then-front-4}
use Rattle.pins_run.proofs.gather.Goals as goal

pub loop-i-preserved-then-not-clock : goal.loop-i-preserved-then-not-clock
loop-i-preserved-then-not-clock c =
    let o = c.loop-i in
    frame-low c.args.f c.args.samples.now c.args.buffer.now o.front o.bytes o.i o.buffer o.invariant c.loop-i-test.true c.from.result c.from.ensures (sym c.select.ensures ∙ c.if-select.false)
    c.hold.result c.hold.ensures (sym c.clock.ensures ∙ c.if-not-clock.true)

pub loop-i-preserved-then-front-3 : goal.loop-i-preserved-then-front-3
loop-i-preserved-then-front-3 c =
    let o = c.loop-i in
    frame-high c.args.f c.args.samples.now c.args.buffer.now o.front o.bytes o.i o.buffer o.invariant c.loop-i-test.true c.from.result c.from.ensures (sym c.select.ensures ∙ c.if-select.false)
    (sym c.clock.ensures ∙ c.if-not-clock.false)
    (elim c.then-front-3.branch [
      | then-front-3-via-then-front-3 w ↦ ap (λ (x : Bool). x || o.front.held) w.if-front-3.true
      | then-front-3-via-else-front-3+then-front-4 w ↦ ap (λ (x : Bool). x || o.front.held) w.if-front-3.false ∙ w.if-front-4.true
    ])

pub loop-i-preserved-then-front-lt7 : goal.loop-i-preserved-then-front-lt7
loop-i-preserved-then-front-lt7 c =
    let o = c.loop-i in
    frame-bit c.args.f c.args.samples.now c.args.buffer.now o.front o.bytes o.i o.buffer o.invariant c.loop-i-test.true c.from.result c.from.ensures (sym c.select.ensures ∙ c.if-select.false)
    (sym c.clock.ensures ∙ c.if-not-clock.false) c.if-front-3.false c.if-front-4.false c.data.result c.data.ensures c.if-front-lt7.true

pub loop-i-preserved : goal.loop-i-preserved
loop-i-preserved c =
    let o = c.loop-i in
    frame_byte c.args.f c.args.samples.now c.args.buffer.now o.front o.bytes o.i o.buffer o.invariant c.loop-i-test.true c.from.result c.from.ensures (sym c.select.ensures ∙ c.if-select.false)
    (sym c.clock.ensures ∙ c.if-not-clock.false) c.if-front-3.false c.if-front-4.false c.data.result c.data.ensures c.if-front-lt7.false c.if-bytes.false c.if-bytes-buffer.false
