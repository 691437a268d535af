-- `fold::program_page` meets its contract: of more than 256 bytes the last 256 do what all do.
use mathlib.Core.Path.{sym, ap, ◌∙◌}
use Prim.Native.Nat.{ℕ, ◌+◌, ◌-◌, ◌%◌}
use native.Mathlib.Omega.{arith}
use lib.ListN.{length}
use borrow.Author.Tests.{lt-ltb}
use Rattle.parts.specs.Parts.{part}
use Rattle.fold.specs.Fold.{page_after, folds}
use Rattle.fold.proofs.Fold.{page-tail}
use Rattle.fold.proofs.program_page.Goals as goal

pub returns : goal.returns
unfolding folds
returns c =
    let sent = c.args.sent.now in
    let page = c.args.page.now in
    let first = length sent - 256 in (
      c.fold_in-2.ensures.0
          ∙ ap (λ (n : ℕ). page_after ((c.args.offset + first) % 256) (part sent first n) page) {x = first + 256 - first} {y = 256} (omega arith)
          ∙ page-tail c.args.offset first sent page (omega arith) c.requires,
      sym (lt-ltb 256 (c.args.offset + length sent) (omega arith)),
    )
