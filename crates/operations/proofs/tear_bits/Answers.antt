-- `operations::tear_bits` meets its contract.
use native.Mathlib.Omega.{arith}
use Rattle.operations.proofs.Kept.{written-level}
use Rattle.models.proofs.Rules.{highest-bp}
use Rattle.operations.proofs.tear_bits.Goals as goal

pub bits_of-requires : goal.bits_of-requires
bits_of-requires c =
    omega (arith, c.requires, highest-bp c.args.model)

pub bits_of-requires-2 : goal.bits_of-requires-2
bits_of-requires-2 c =
    let a = c.args in
    rw c.write-new.ensures (omega (arith, highest-bp a.model, written-level a.model a.st a.page.now))

pub overflow_add-row : goal.overflow_add-row
overflow_add-row c =
    rw c.model_of-row.ensures (record { fits = omega (arith, highest-bp c.args.model) })
