-- `script::read_wait` meets its contract.
use mathlib.Core.Path.{sym, ◌∙◌, ap}
use Rattle.std.proofs.lemmas.List.{take_rest}
use Rattle.script.specs.Reading.{numbered}
use Rattle.script.proofs.ReadLaws.{wait-in, wait-out, power_in, power-out}
use Rattle.script.proofs.read_wait.Goals as goal

pub returns-in_err-us : goal.returns-in_err-us
returns-in_err-us c =
    c.from_residual.ensures
    ∙ wait-out _ (sym c.wait_head.ensures ∙ c.if-wait_head.true) (sym c.in_err-us.was ∙ c.number.ensures ∙ ap (numbered 0) (take_rest c.args.line.now 2))

pub returns-then-wait_head : goal.returns-then-wait_head
returns-then-wait_head c =
    wait-in _ _ (sym c.wait_head.ensures ∙ c.if-wait_head.true) (sym c.in_ok-us.was ∙ c.number.ensures ∙ ap (numbered 0) (take_rest c.args.line.now 2))

pub returns-then-is_power : goal.returns-then-is_power
returns-then-is_power c =
    power_in _ (sym c.wait_head.ensures ∙ c.if-wait_head.false) (sym c.is_power.ensures ∙ c.if-is_power.true)

pub returns : goal.returns
returns c =
    power-out _ (sym c.wait_head.ensures ∙ c.if-wait_head.false) (sym c.is_power.ensures ∙ c.if-is_power.false)
