-- What C calls of the pins: there is no second answer.
use mathlib.Core.Path.{sym, ◌∙◌}
use Rattle.pod.specs.Samples.{OneYielded, OneYieldedRun}

pub one-yielded : OneYielded
one-yielded c n n' xs xs' b b' ready ready' bytes bytes' tail tail' wp wp' p q = (
  p.tells.number_is ∙ sym q.tells.number_is,
  p.front-is ∙ sym q.front-is,
  p.frame_is ∙ sym q.frame_is,
  p.tells.ready-is ∙ sym q.tells.ready-is,
  p.tells.bytes-is ∙ sym q.tells.bytes-is,
  p.tells.tail-is ∙ sym q.tells.tail-is,
  p.tells.wp-is ∙ sym q.tells.wp-is,
)

pub one-yielded-run : OneYieldedRun
one-yielded-run c n n' xs xs' b b' used used' ready ready' bytes bytes' tail tail' wp wp' p q =
    (p.used-is ∙ sym q.used-is, one-yielded c n n' xs xs' b b' ready ready' bytes bytes' tail tail' wp wp' p.yields q.yields)
