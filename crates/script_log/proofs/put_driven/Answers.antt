-- `script_log::put_driven` meets its contract.
use native.Mathlib.Omega.{arith}
use Rattle.text.proofs.TextLaws.{length-hex_text}
use Rattle.script_log.proofs.put_driven.Goals as goal

pub returns-else-is_empty-clause-most : goal.returns-else-is_empty-clause-most
returns-else-is_empty-clause-most c = omega (arith, c.hex.ensures.put.next, length-hex_text c.args.driven.now)
