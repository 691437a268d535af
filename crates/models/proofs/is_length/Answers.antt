-- `models::is_length` meets its contract.
use mathlib.Core.Bool.{or-false}
use Rattle.models.specs.Models.{is_length}
use Rattle.models.proofs.is_length.Goals as goal

pub returns : goal.returns
unfolding is_length
returns c = rw or-false
