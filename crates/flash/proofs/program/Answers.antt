-- `flash::program` meets its contract: what was lent to `program_page` is the page.
use mathlib.Core.Path.{ap, ◌∙◌}
use Prim.Native.Nat.{ℕ}
use lib.ListN.{length}
use Rattle.fold.specs.Fold.{folds}
use Rattle.flash.proofs.Arrays.{program-back}
use Rattle.flash.proofs.program.Goals as goal

pub returns : goal.returns
returns c =
    let first = c.page_start-start in
    let offset = c.page_offset in
    (program-back c.args.a first.result.0 offset.result c.args.sent.now c.args.array.now _ first.ensures offset.ensures c.requires c.program_page.ensures.0, c.program_page.ensures.1 ∙ ap (λ (o : ℕ). folds o (length c.args.sent.now)) offset.ensures)
