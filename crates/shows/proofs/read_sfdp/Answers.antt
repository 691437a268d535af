use mathlib.Core.Path.{◌∙◌}
use native.Mathlib.Omega.{arith}
use lib.ListN.{length}
use Rattle.effects.specs.Effects.{read_sfdp}
use Rattle.shows.proofs.Lent.{lent-table}
use Rattle.shows.proofs.read_sfdp.Goals as goal

pub returns : goal.returns
unfolding read_sfdp
returns c = record { reply = c.driven.ensures; out = lent-table 5 (length c.args.bytes.now) c.args.out.now _ (omega arith) (omega arith) _ c.drive.ensures ∙ rw (c.sent-at.ensures, c.byte_at-3.ensures, c.byte_at-2.ensures, c.byte_at.ensures) }
