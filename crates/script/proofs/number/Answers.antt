-- `script::number` meets its contract: the digits from b on go on from the sum of those before.
use mathlib.Core.Path.{◌≡◌, sym, ◌∙◌, ap}
use mathlib.Core.Bool.{Bool}
use Prim.Native.Nat.{ℕ, ◌-◌, ◌+◌, ◌*◌}
use native.Mathlib.Omega.{arith}
use lib.ListN.{drop, get_or}
use Rattle.std.specs.Char.{is_ascii_digit}
use Rattle.script.specs.Hex.{is_digit}
use Rattle.script.specs.Reading.{numbered}
use Rattle.script.proofs.ReadLaws.{number_on, number_off, number_over, number_end}
use Rattle.script.proofs.number.Goals as goal

digit : (b : ℕ) (t u : Bool) → t ≡ is_ascii_digit b → t ≡ u → is_digit b ≡ u
unfolding is_digit
digit b t u e h = sym e ∙ h

pub returns-then-not-is_ascii_digit : goal.returns-then-not-is_ascii_digit
returns-then-not-is_ascii_digit c =
    let l = c.loop-b in
    number_off l.sum c.args.digits.now l.b-index c.loop-b-test.true (digit _ _ _ c.is_ascii_digit.ensures.value c.if-not-is_ascii_digit.true) ∙ sym l.invariant.1

pub returns-in_err-checked_mul : goal.returns-in_err-checked_mul
returns-in_err-checked_mul c =
    let l = c.loop-b in
    c.from_residual.ensures
    ∙ number_over l.sum c.args.digits.now l.b-index c.loop-b-test.true (digit _ _ _ c.is_ascii_digit.ensures.value c.if-not-is_ascii_digit.false) (omega (arith, c.in_err-checked_mul.ensures))
    ∙ sym l.invariant.1

pub returns-in_err-sum : goal.returns-in_err-sum
returns-in_err-sum c =
    let l = c.loop-b in
    c.from_residual-in_err-sum.ensures
    ∙ number_over l.sum c.args.digits.now l.b-index c.loop-b-test.true (digit _ _ _ c.is_ascii_digit.ensures.value c.if-not-is_ascii_digit.false) (omega (arith, c.in_err-sum.ensures, c.in_ok-checked_mul.ensures, c.from.ensures))
    ∙ sym l.invariant.1

pub loop-b-preserved : goal.loop-b-preserved
loop-b-preserved c =
    let l = c.loop-b in
    let s = c.args.digits.now in
    let n : c.in_ok-sum.sum ≡ l.sum * 10 + (get_or s l.b-index 0 - 48) = omega (arith, c.in_ok-sum.ensures, c.in_ok-checked_mul.ensures, c.from.ensures) in (
      omega (arith, c.in_ok-sum.ensures),
      l.invariant.1 ∙ number_on l.sum s l.b-index c.loop-b-test.true (digit _ _ _ c.is_ascii_digit.ensures.value c.if-not-is_ascii_digit.false) ∙ ap (λ (k : ℕ). numbered k (drop (l.b-index + 1) s)) (sym n),
    )

pub returns : goal.returns
returns c =
    number_end c.loop-b.sum c.args.digits.now c.loop-b.b-index (omega arith) c.loop-b.invariant.0 ∙ sym c.loop-b.invariant.1
