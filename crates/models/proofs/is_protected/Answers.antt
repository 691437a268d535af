-- `models::is_protected` meets its contract.
use native.Mathlib.Omega.{arith}
use Rattle.models.specs.Models.{is_protected}
use Rattle.models.proofs.Rules.{range_small}
use Rattle.models.proofs.is_protected.Goals as goal

pub overflow_add-result : goal.overflow_add-result
overflow_add-result c =
    rw c.range_of-range.ensures (record { fits = omega (arith, range_small c.args.number c.args.bottom c.args.bp) })

pub returns : goal.returns
unfolding is_protected
returns c = rw c.range_of-range.ensures
