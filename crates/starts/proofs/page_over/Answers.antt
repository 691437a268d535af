-- `starts::page_over` meets its contract: what was lent to `over_old` is the addressed page, and the bytes from position 4.
use mathlib.Core.Path.{◌≡◌, ap, ◌∙◌}
use mathlib.Core.List.{List}
use Prim.Native.Nat.{ℕ, ◌+◌, ◌-◌}
use native.Mathlib.Omega.{arith}
use lib.ListN.{drop}
use Rattle.units.specs.Kinds.{page_offset}
use Rattle.parts.specs.Parts.{part}
use Rattle.fold.specs.Strict.{over_old}
use Rattle.effects.proofs.Replies.{tail-drop}
use Rattle.starts.proofs.page_over.Goals as goal

pub returns : goal.returns
returns c =
    let given = c.args in
    let bytes = given.bytes.now in
    let array = given.array.now in
    let start = c.page_start-start.result.0 in
    let size : start + 256 - start ≡ 256 = omega arith in
    c.over_old.ensures
    ∙ ap (λ (z : List ℕ). over_old c.page_offset.result z (part array start (start + 256 - start))) (tail-drop 4 bytes)
    ∙ ap (λ (k : ℕ). over_old k (drop 4 bytes) (part array start (start + 256 - start))) c.page_offset.ensures
    ∙ ap (λ (n : ℕ). over_old (page_offset given.at) (drop 4 bytes) (part array start n)) size
    ∙ ap (λ (s : ℕ). over_old (page_offset given.at) (drop 4 bytes) (part array s 256)) c.page_start-start.ensures
