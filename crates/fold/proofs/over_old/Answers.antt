-- `fold::over_old` meets its contract: of more than 256 bytes the last 256 are refused where all are.
use mathlib.Core.Path.{ap, ◌∙◌}
use Prim.Native.Nat.{ℕ, ◌+◌, ◌-◌, ◌%◌}
use native.Mathlib.Omega.{arith}
use lib.ListN.{length}
use Rattle.parts.specs.Parts.{part}
use Rattle.fold.specs.Strict.{over_old}
use Rattle.fold.proofs.Strict.{over-tail}
use Rattle.fold.proofs.over_old.Goals as goal

pub returns : goal.returns
returns c =
    let sent = c.args.sent.now in
    let page = c.args.page.now in
    let skipped = length sent - 256 in
    c.over_in-2.ensures
    ∙ ap (λ (n : ℕ). over_old ((c.args.offset + skipped) % 256) (part sent skipped n) page) {x = length sent - skipped} {y = 256} (omega arith)
    ∙ over-tail c.args.offset skipped sent page (omega arith) c.requires
