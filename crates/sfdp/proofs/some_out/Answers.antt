-- `sfdp::some_out` meets its contract.
use mathlib.Core.Path.{refl, ◌∙◌}
use native.Mathlib.Omega.{arith}
use borrow.Author.Rules.{rules}
use borrow.Author.Tests.{tests}
use Rattle.std.proofs.lemmas.Iterator.{YieldsList-from_range}
use Rattle.std.proofs.lemmas.Iterator.Search.{any_from_yields_List}
use Rattle.sfdp.specs.Sfdp.{is_out}
use Rattle.sfdp.proofs.Inside.{some-of_range}
use Rattle.sfdp.proofs.some_out.Goals as goal

pub returns : goal.returns
returns c =
    any_from_yields_List (is_out c.args.bytes.now) _ _ _ c.any.ensures.ran (YieldsList-from_range 0 c.args.count c.args.count refl (omega arith)) (λ x b q k. search (rules, tests))
    ∙ some-of_range (is_out c.args.bytes.now) c.args.count
