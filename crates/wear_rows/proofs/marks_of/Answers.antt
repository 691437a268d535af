-- `wear_rows::marks_of` meets its contract.
use mathlib.Core.Path.{◌≡◌, sym, ◌∙◌}
use native.Mathlib.Omega.{arith}
use Prim.Native.Nat.{◌*◌, ◌/◌, max}
use Rattle.wear_rows.proofs.Laws.{marks-each, marks-none, marks-scaled}
use Rattle.wear_rows.proofs.marks_of.Goals as goal

pub returns-then-largest-le50 : goal.returns-then-largest-le50
returns-then-largest-le50 c = let a = c.args in sym (marks-each a.largest a.count (omega arith))

pub returns-then-count-eq0 : goal.returns-then-count-eq0
returns-then-count-eq0 c = let a = c.args in sym (marks-none a.largest a.count (omega arith) (omega arith))

pub returns-then-marks-eq0 : goal.returns-then-marks-eq0
returns-then-marks-eq0 c =
    let a = c.args in
    let one : 1 ≡ max 1 (a.count * 50 / a.largest) = omega arith in
    one ∙ sym (marks-scaled a.largest a.count (omega arith) (λ z. omega arith))

pub returns-else-marks-eq0 : goal.returns-else-marks-eq0
returns-else-marks-eq0 c =
    let a = c.args in
    let same : a.count * 50 / a.largest ≡ max 1 (a.count * 50 / a.largest) = omega arith in
    same ∙ sym (marks-scaled a.largest a.count (omega arith) (λ z. omega arith))
