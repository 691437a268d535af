-- `pins::step` meets its contract.
use mathlib.Core.Path.{sym, ◌∙◌}
use Rattle.pins.proofs.Table.{sound}
use Rattle.pins.proofs.step.Goals as goal

pub step_in-requires : goal.step_in-requires
step_in-requires c = sound c.args.front (sym c.front_ok.ensures ∙ c.if-not-front_ok.false)
