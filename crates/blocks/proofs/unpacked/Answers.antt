-- `blocks::unpacked` meets its contract.
use mathlib.Core.Path.{sym, ◌∙◌}
use Rattle.packing.proofs.Packing.{packing-length, unpack-read}
use Rattle.blocks.proofs.unpacked.Goals as goal

pub unpack-requires : goal.unpack-requires
unpack-requires c = (packing-length _ c.requires, c.busy_in-busy.ensures)

pub returns : goal.returns
returns c = c.unpack.ensures ∙ sym (unpack-read _ c.requires)
