-- `packing::is_packed` meets its contract: the tests are right for every run of bytes.
use mathlib.Core.Path.{sym}
use Rattle.packing.proofs.Packing.{wrong-length, tested}
use Rattle.packing.proofs.is_packed.Goals as goal

pub returns-then-state-ne272 : goal.returns-then-state-ne272
returns-then-state-ne272 c = sym (wrong-length c.args.state.now c.if-state-ne272.true)

pub returns : goal.returns
returns c =
    tested c.args.state.now c.if-state-ne272.false c.requires (λ i. (c.type_inv.state i).fits)
