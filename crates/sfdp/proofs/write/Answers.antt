-- `sfdp::write` meets its contract.
use mathlib.Core.Path.{sym, ap, ◌∙◌}
use mathlib.Core.Bool.{false≢true}
use Prim.Native.Nat.{ℕ}
use native.Mathlib.Omega.{arith}
use Rattle.std.proofs.lemmas.List.{length-take-le}
use Rattle.sfdp.specs.Sfdp.{entry, pairs, image_of}
use Rattle.sfdp.proofs.Writer.{write-refused, write_done}
use Rattle.sfdp.proofs.write.Goals as goal
use Rattle.sfdp.proofs.write.Goals.{then-not-is_list-via-then-not-is_list, then-not-is_list-via-else-not-is_list+then-out-lt112}

pub returns-in_default : goal.returns-in_default
returns-in_default c = let a = c.args in write-refused a.density a.erases.now a.out.now (λ f. c.in_default.ensures f.density)

pub returns-then-not-is_list : goal.returns-then-not-is_list
returns-then-not-is_list c =
    let a = c.args in
    write-refused a.density a.erases.now a.out.now (λ f.
    elim c.then-not-is_list.branch [
      | then-not-is_list-via-then-not-is_list w ↦ false≢true (sym w.if-not-is_list.true ∙ c.is_list.ensures ∙ f.list.is)
      | then-not-is_list-via-else-not-is_list+then-out-lt112 w ↦ omega (arith, f.roomy, w.if-out-lt112.true)
    ])

pub lay_page-requires : goal.lay_page-requires
lay_page-requires c = (record { is = sym c.is_list.ensures ∙ c.if-not-is_list.false }, length-take-le 112 c.args.out.now c.if-out-lt112.false)

pub returns : goal.returns
returns c =
    let a = c.args in
    let fits = c.in-Ok.ensures in
    write_done a.density a.erases.now a.out.now _ fits.0 (sym c.is_list.ensures ∙ c.if-not-is_list.false) c.if-out-lt112.false
    (c.lay_page.ensures ∙ ap (λ (n : ℕ). image_of (entry n (pairs a.erases.now))) fits.1)
