-- `effects::refuse` meets its contract.
use mathlib.Core.Path.{◌≡◌, refl, ap, ◌∙◌}
use mathlib.Core.Bool.{Bool, true, false, not, ◌&&◌, cond, and-false, and-true}
use Rattle.models.specs.Models.{model_of}
use Rattle.answers.specs.Answers.{says_protected}
use Rattle.states.specs.declared.State.{State}
use Rattle.effects.specs.Effects.{quiet, latched, refusal_leaves}
use Rattle.effects.proofs.refuse.Goals as goal

-- the latch is kept, or cleared
falling : (s : State) (falls : Bool) → latched s (s.wel && not falls) ≡ cond falls (latched s false) s
unfolding latched
falling s true = rw (and-false s.wel)
falling s false = rw (and-true s.wel)

pub returns : goal.returns
unfolding refusal_leaves
returns c =
    let a = c.args in
    c.quiet.ensures
    ∙ ap (quiet a.answer)
    (c.latch.ensures
    ∙ rw (c.number_of.ensures, c.model_of-row.ensures) (falling a.st ((model_of a.model).latch_falls && says_protected a.answer)))
