-- `shows::wake` meets its contract.
use mathlib.Core.Path.{sym, ap, ◌∙◌}
use Rattle.answers.specs.Answers.{Done}
use native.Mathlib.Omega.{arith}
use lib.ListN.{length}
use Rattle.effects.specs.Effects.{quiet, wake}
use Rattle.effects.proofs.Replies.{drives-none, drives-nothing}
use Rattle.shows.proofs.Lent.{lent-filled}
use Rattle.shows.proofs.wake.Goals as goal

pub returns-then-n-gt4 : goal.returns-then-n-gt4
unfolding wake
returns-then-n-gt4 c = record { reply = c.driven.ensures ∙ rw (c.doze-awake.ensures, c.waking_time.ensures); out = lent-filled 4 (length c.args.bytes.now) c.args.out.now _ (omega arith) (omega arith) _ (c.fill.ensures.after (λ y e. e)) ∙ rw c.model_of-row.ensures }

pub returns : goal.returns
unfolding wake
returns c =
    record {
      reply = c.quiet.ensures ∙ ap (quiet Done) (c.doze-awake.ensures ∙ rw c.waking_time.ensures) ∙ sym (drives-none _ _ _ c.if-n-gt4.false);
      out = sym (drives-nothing _ 4 _ _ c.if-n-gt4.false);
    }
