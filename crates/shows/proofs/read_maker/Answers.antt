use mathlib.Core.Path.{◌∙◌}
use native.Mathlib.Omega.{arith}
use lib.ListN.{length}
use Rattle.effects.specs.Effects.{read_maker}
use Rattle.shows.proofs.Lent.{lent-ring}
use Rattle.shows.proofs.read_maker.Goals as goal

pub returns : goal.returns
unfolding read_maker
returns c = record { reply = c.driven.ensures; out = lent-ring 4 (length c.args.bytes.now) c.args.out.now _ (omega arith) (omega arith) _ c.repeat.ensures ∙ rw (c.maker_bytes-pair.ensures, c.model_of-row.ensures, c.byte_at.ensures) }
