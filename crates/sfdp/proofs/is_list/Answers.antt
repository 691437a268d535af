-- `sfdp::is_list` meets its contract.
use mathlib.Core.Path.{◌≡◌, sym, ◌∙◌}
use Prim.Native.Nat.{◌/◌, ◌%◌}
use native.Mathlib.Omega.{arith}
use borrow.Author.Rules.{rules}
use borrow.Author.Tests.{tests, eqb-true}
use lib.ListN.{length}
use Rattle.std.specs.Simd.{first_chunks}
use Rattle.std.proofs.lemmas.Iterator.{YieldsList-from_slice}
use Rattle.std.proofs.lemmas.Iterator.Search.{all_from_yields_List}
use Rattle.sfdp.proofs.Writer.{fits_pair, list_test}
use Rattle.sfdp.proofs.is_list.Goals as goal

pub returns-then-types-le4 : goal.returns-then-types-le4
returns-then-types-le4 c =
    let ns = c.args.erases.now in
    let even : length ns % 2 ≡ 0 = sym c.as_chunks.ensures.back_len ∙ eqb-true _ _ (sym c.is_empty.ensures ∙ c.if-types-le4.true.0) in
    all_from_yields_List fits_pair _ _ _ c.all.ensures.ran (YieldsList-from_slice (first_chunks 2 (length ns / 2) ns) cc) (λ x b q k. search (rules, tests))
    ∙ list_test ns even (omega (arith, c.if-types-le4.true.1, c.as_chunks.ensures.front_len))
