use mathlib.Core.Path.{◌∙◌}
use native.Mathlib.Omega.{arith}
use lib.ListN.{length}
use Rattle.effects.specs.Effects.{read_id}
use Rattle.shows.proofs.Lent.{lent-ring}
use Rattle.shows.proofs.read_id.Goals as goal

pub returns : goal.returns
unfolding read_id
returns c = record { reply = c.driven.ensures; out = lent-ring 1 (length c.args.bytes.now) c.args.out.now _ (omega arith) (omega arith) _ c.repeat.ensures ∙ rw c.model_of-row.ensures }
