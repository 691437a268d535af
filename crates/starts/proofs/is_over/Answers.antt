-- `starts::is_over` meets its contract: off, it looks at nothing.
use mathlib.Core.Path.{◌≡◌, sym, ap, ◌∙◌}
use mathlib.Core.Bool.{Bool}
use borrow.Author.Rules.{rules}
use Rattle.std.specs.Prelude.{Option, Some}
use Rattle.commands.specs.declared.Operation.{Operation}
use Rattle.commands.specs.declared.Operation.TheVariants.{Programs}
use Rattle.effects.specs.Effects.{programs_over, goes_over}
use Rattle.effects.proofs.Strict.{off, on}
use Rattle.starts.proofs.is_over.Goals as goal

pub returns-then-not-strict : goal.returns-then-not-strict
returns-then-not-strict c =
    let a = c.args in
    sym (ap (λ (s : Bool). goes_over a.op s a.at a.array.now a.bytes.now) (c.if-not-strict.true) ∙ off a.op a.at a.array.now a.bytes.now)

pub returns-then-eq : goal.returns-then-eq
returns-then-eq c =
    let a = c.args in
    let e : a.op ≡ Some Programs = search rules in
    c.page_over.ensures
    ∙ sym
    (ap (λ (op : Option Operation). goes_over op a.strict a.at a.array.now a.bytes.now) e
    ∙ ap (λ (s : Bool). programs_over s a.at a.array.now a.bytes.now) (c.if-not-strict.false)
    ∙ on a.at a.array.now a.bytes.now)
