-- `states::page_fits` meets its contract.
use mathlib.Core.Path.{◌≡◌, ap, ◌∙◌}
use mathlib.Core.Bool.{true}
use mathlib.Core.List.{List}
use Prim.Native.Nat.{ℕ, ◌-◌, ◌≤◌}
use native.Mathlib.Omega.{arith}
use lib.ListN.{length, drop, take, length-drop, drop_of_length-le}
use lib.Seq.{take_all}
use borrow.Author.Tests.{ne_eqb, eq-eqb}
use Rattle.parts.specs.Parts.{all_are}
use Rattle.states.specs.States.{used_bytes}
use Rattle.states.proofs.page_fits.Goals as goal

-- nothing is left past the end
all-used : (page : List ℕ) (used : ℕ) → length page ≤ used → all_are 0xFF (drop used page) ≡ true
all-used page used l = ap (all_are 0xFF) (drop_of_length-le page {i = used} l)

-- the part to the end
to_end : (page : List ℕ) (used : ℕ) → length page ≡ 256 → take (256 - used) (drop used page) ≡ drop used page
to_end page used l = take_all (256 - used) (drop used page) (omega (arith, length-drop used page))

pub returns-then-page-ne256 : goal.returns-then-page-ne256
returns-then-page-ne256 c = rw (ne_eqb _ _ c.if-page-ne256.true)

pub returns-then-used-ge256 : goal.returns-then-used-ge256
returns-then-used-ge256 c =
    let given = c.args in
    rw (eq-eqb _ _ c.if-page-ne256.false, all-used given.page.now (used_bytes given.op given.place) (omega (arith, c.if-page-ne256.false, c.used_bytes-used.ensures, c.if-used-ge256.true)))

pub returns : goal.returns
returns c =
    let page = c.args.page.now in
    rw (eq-eqb _ _ c.if-page-ne256.false) (c.all_are.ensures ∙ ap (all_are 0xFF) (to_end page c.used_bytes-used.result c.if-page-ne256.false) ∙ ap (λ (k : ℕ). all_are 0xFF (drop k page)) c.used_bytes-used.ensures)
