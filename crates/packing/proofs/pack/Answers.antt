-- `packing::pack` meets its contract.
use mathlib.Core.Path.{◌∙◌}
use Rattle.packing.proofs.Packing.{stored}
use Rattle.packing.proofs.pack.Goals as goal

pub returns : goal.returns
returns c =
    stored c.args.st c.args.state.now c.requires.1 c.status.ensures
    (c.copy_from_slice.ensures.after ∙ c.to_le_bytes.ensures)
    (c.copy_from_slice-2.ensures.after ∙ c.to_le_bytes-2.ensures)
