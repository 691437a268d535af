-- `wear_rows::put_said` meets its contract.
use native.Mathlib.Omega.{arith}
use Rattle.text.proofs.PutLaws.{put_then}
use Rattle.wear_rows.proofs.put_said.Goals as goal

pub returns-clause-put : goal.returns-clause-put
returns-clause-put c = put_then c.text.ensures.put c.number.ensures.put

pub returns-clause-most : goal.returns-clause-most
returns-clause-most c = omega (arith, c.text.ensures.put.next)
