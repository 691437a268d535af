-- `pins_run::run` meets its contract.
use mathlib.Core.Path.{sym, ◌∙◌}
use Rattle.pins.proofs.Table.{sound}
use Rattle.pins_run.proofs.run.Goals as goal

pub run_in-requires : goal.run_in-requires
run_in-requires c = sound c.args.front (sym c.front_ok.ensures ∙ c.if-not-front_ok.false)
