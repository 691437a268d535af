-- `wear_rows::put_right` meets its contract.
use Rattle.wear_rows.proofs.Laws.{right-room, right-put}
use Rattle.wear_rows.proofs.put_right.Goals as goal

pub text-requires : goal.text-requires
text-requires c = let a = c.args in right-room a.width a.n c.digits-digits.ensures.value c.saturating_sub.ensures c.run.ensures.put c.digits-digits.ensures.few c.requires

pub returns-clause-put : goal.returns-clause-put
returns-clause-put c = let a = c.args in (right-put a.width a.n c.digits-digits.ensures.value c.saturating_sub.ensures c.run.ensures.put c.digits-digits.ensures.few c.text.ensures.put).0

pub returns-clause-most : goal.returns-clause-most
returns-clause-most c = let a = c.args in (right-put a.width a.n c.digits-digits.ensures.value c.saturating_sub.ensures c.run.ensures.put c.digits-digits.ensures.few c.text.ensures.put).1
