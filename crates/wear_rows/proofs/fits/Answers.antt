-- `wear_rows::fits` meets its contract.
use native.Mathlib.Omega.{arith}
use Rattle.wear_rows.proofs.Laws.{fits-no, fits-if}
use Rattle.wear_rows.proofs.fits.Goals as goal

pub returns-then-len-at : goal.returns-then-len-at
returns-then-len-at c = let a = c.args in fits-no a.at a.n a.len (omega arith)

pub returns : goal.returns
returns c = let a = c.args in fits-if a.at a.n a.len (omega arith)
