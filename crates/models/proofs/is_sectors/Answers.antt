-- `models::is_sectors` meets its contract.
use mathlib.Core.Bool.{or-false}
use Rattle.models.specs.Models.{is_sectors}
use Rattle.models.proofs.is_sectors.Goals as goal

pub returns : goal.returns
unfolding is_sectors
returns c = rw or-false
