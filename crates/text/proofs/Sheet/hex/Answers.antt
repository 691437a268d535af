-- `text::Sheet::hex` meets its contract: the bytes before b are put.
use mathlib.Core.Path.{refl, ◌∙◌}
use native.Mathlib.Omega.{arith}
use Rattle.text.proofs.PutLaws.{put-none, put_same}
use Rattle.text.proofs.TextLaws.{hex-more}
use Rattle.text.proofs.Sheet.hex.Goals as goal

pub loop-b-init : goal.loop-b-init
loop-b-init c = (refl, refl, omega arith, put-none _ _ (omega arith))

pub byte-requires-in-loop-b : goal.byte-requires-in-loop-b
byte-requires-in-loop-b c =
    let i = c.loop-b.invariant in
    let p = c.byte.ensures.put in
    omega (arith, p.next, put_same p, i.1, i.2)

pub loop-b-preserved : goal.loop-b-preserved
loop-b-preserved c =
    let i = c.loop-b.invariant in
    let p = c.byte.ensures.put in
    let q = c.byte-in-loop-b.ensures.put in (
      c.byte-in-loop-b.ensures.same_buffer ∙ c.byte.ensures.same_buffer ∙ i.0,
      put_same q ∙ put_same p ∙ i.1,
      omega (arith, q.next, p.next, i.2),
      hex-more c.args.bytes.now c.loop-b.b-index _ _ i.3 p q c.digit.ensures c.digit-in-loop-b.ensures (omega arith),
    )
