use mathlib.Core.Path.{◌∙◌}
use native.Mathlib.Omega.{arith}
use lib.ListN.{length}
use Rattle.effects.specs.Effects.{read_status}
use Rattle.shows.proofs.Lent.{lent-filled}
use Rattle.shows.proofs.read_status.Goals as goal

pub returns : goal.returns
unfolding read_status
returns c = record { reply = c.driven.ensures; out = lent-filled 1 (length c.args.bytes.now) c.args.out.now _ (omega arith) (omega arith) _ (c.fill.ensures.after (λ y e. e)) ∙ rw c.status.ensures }
