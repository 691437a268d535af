-- `models::is_model` meets its contract.
use mathlib.Core.Bool.{or-false}
use Rattle.models.specs.Models.{is_model}
use Rattle.models.proofs.is_model.Goals as goal

pub returns : goal.returns
unfolding is_model
returns c = rw or-false
