-- `rewrite::first_byte` meets its contract.
use Rattle.rewrite.proofs.Lines.{first_read}
use Rattle.rewrite.proofs.first_byte.Goals as goal

pub returns : goal.returns
returns c = first_read _ _ _ c.frame_bytes.ensures
