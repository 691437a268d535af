-- `wear_rows::put_bar` meets its contract.
use Prim.Native.Nat.{ℕ}
use native.Mathlib.Omega.{arith}
use borrow.Author.Tests.{eq-eqb, ne_eqb}
use lib.ListN.{length-replicate}
use Rattle.text.proofs.PutLaws.{put-none, put_as, put_then}
use Rattle.wear_rows.proofs.put_bar.Goals as goal

pub returns-then-marks-eq0-clause-put : goal.returns-then-marks-eq0-clause-put
returns-then-marks-eq0-clause-put c = let s = c.args.sheet.now in put_as (put-none s.out.now s.at (omega arith)) (rw (eq-eqb _ _ c.if-marks-eq0.true))

pub returns-clause-put : goal.returns-clause-put
returns-clause-put c = put_as (put_then c.text.ensures.put c.run.ensures.put) (rw (ne_eqb _ _ c.if-marks-eq0.false))

pub returns-clause-most : goal.returns-clause-most
returns-clause-most c = omega (arith, c.text.ensures.put.next, c.run.ensures.put.next, length-replicate {A = ℕ} c.args.marks 35)
