-- `sfdp::refusal` meets its contract.
use mathlib.Core.Path.{sym, ◌∙◌}
use native.Mathlib.Omega.{arith}
use Rattle.sfdp.proofs.Inside.{none-refused, first_inside}
use Rattle.sfdp.proofs.refusal.Goals as goal

pub returns-then-not-some_out-clause-first : goal.returns-then-not-some_out-clause-first
returns-then-not-some_out-clause-first c =
    let count = c.headers-count in
    sym
    (none-refused c.args.bytes.now count.result count.ensures.0 (sym c.is_signed.ensures ∙ c.if-not-is_signed.false) c.if-n-count.false (omega (arith, c.words.ensures.0, c.if-words-lt9.false))
    (sym c.some_out.ensures ∙ c.if-not-some_out.true))

pub returns-then-not-some_out-clause-inside : goal.returns-then-not-some_out-clause-inside
returns-then-not-some_out-clause-inside c =
    let count = c.headers-count in
    (omega (arith, c.if-n-count.false, count.ensures.0), first_inside c.args.bytes.now count.result (sym c.some_out.ensures ∙ c.if-not-some_out.true) (omega (arith, count.ensures.0)) (omega (arith, c.words.ensures.0, c.if-words-lt9.false)))
