-- `models::address_of` meets its contract.
use native.Mathlib.Omega.{arith}
use borrow.Author.Rules.{rules}
use Rattle.models.specs.Models.{address_of}
use Rattle.models.proofs.Rules.{row-rules}
use Rattle.models.proofs.address_of.Goals as goal

pub nonzero_rem-result : goal.nonzero_rem-result
nonzero_rem-result c =
    rw c.model_of-row.ensures (omega (arith, (row-rules c.args.number).some))

pub returns : goal.returns
unfolding address_of
returns c =
    let e = c.model_of-row.ensures in
    search rules
