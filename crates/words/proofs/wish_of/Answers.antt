-- `words::wish_of` meets its contract.
use native.Mathlib.Omega.{arith}
use Rattle.words.proofs.Same.{same-told}
use Rattle.words.proofs.Wishes.{wish-none, wish-strict, wish-help, wish-unknown}
use Rattle.words.proofs.wish_of.Goals as goal

pub returns-then-count-lt2 : goal.returns-then-count-lt2
returns-then-count-lt2 c =
    let a = c.args in
    wish-none a.count a.whole a.word.now (omega arith)

pub returns-then-alone-eq : goal.returns-then-alone-eq
returns-then-alone-eq c =
    let a = c.args in
    wish-strict a.count a.whole a.word.now (omega arith) (same-told _ _ _ c.eq.ensures c.as_slice.ensures) c.if-alone-eq.true

pub returns-then-alone-eq-2 : goal.returns-then-alone-eq-2
returns-then-alone-eq-2 c =
    let a = c.args in
    wish-help a.count a.whole a.word.now (omega arith) (same-told _ _ _ c.eq.ensures c.as_slice.ensures) (same-told _ _ _ c.eq-2.ensures c.as_slice-2.ensures) c.if-alone-eq.false c.if-alone-eq-2.true

pub returns : goal.returns
returns c =
    let a = c.args in
    wish-unknown a.count a.whole a.word.now (omega arith) (same-told _ _ _ c.eq.ensures c.as_slice.ensures) (same-told _ _ _ c.eq-2.ensures c.as_slice-2.ensures) c.if-alone-eq.false c.if-alone-eq-2.false
