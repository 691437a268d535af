-- `operations::write` meets its contract.
use native.Mathlib.Omega.{arith}
use Rattle.models.proofs.Rules.{highest-bp}
use Rattle.operations.proofs.write.Goals as goal

pub overflow_add-row : goal.overflow_add-row
overflow_add-row c = rw c.model_of-row.ensures (record { fits = omega (arith, highest-bp c.args.model) })
