-- `sfdp::lay_page` meets its contract.
use mathlib.Core.Path.{◌≡◌, sym, ap, ◌∙◌}
use mathlib.Core.Bool.{Bool, cond}
use Prim.Native.Nat.{ℕ, ◌+◌}
use Rattle.sfdp.specs.Sfdp.{pairs, small_bits}
use Rattle.sfdp.proofs.Writer.{own-bytes, density_bytes, page_is}
use Rattle.sfdp.proofs.lay_page.Goals as goal
use Rattle.sfdp.proofs.lay_page.Goals.{then-is_some, else-is_some}

pub returns : goal.returns
returns c =
    let small = c.small_opcode-small.ensures in
    let first : c.if-is_some.page ≡ 0xE4 + small_bits (pairs c.four_slots-slots.result) =
    elim c.if-is_some.branch [
      | then-is_some w ↦ w.page-is ∙ ap (λ (b : Bool). 0xE4 + cond b 1 3) (sym w.if-is_some.true ∙ c.is_some.ensures)
      | else-is_some w ↦ w.page-is ∙ ap (λ (b : Bool). 0xE4 + cond b 1 3) (sym w.if-is_some.false ∙ c.is_some.ensures)
    ]
    ∙ ap (λ (n : ℕ). 0xE4 + n) small.bits
    in
    page_is c.args.density c.args.erases.now _ _ _ _ _ _ c.requires.0 (c.drive.ensures ∙ own-bytes _ c.requires.1) c.four_slots-slots.ensures first (c.unwrap_or.ensures ∙ small.opcode)
    (c.copy_from_slice.ensures.after ∙ c.to_le_bytes.ensures ∙ density_bytes c.args.density) c.copy_from_slice-2.ensures.after
