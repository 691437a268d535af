-- `models::range_of` meets its contract.
use mathlib.Core.Path.{◌≡◌, ap, subst}
use mathlib.Core.Bool.{Bool, true, false, not, ◌&&◌, ◌||◌}
use Prim.Native.Nat.{ℕ, ◌≤◌}
use native.Mathlib.Omega.{arith}
use lib.Dec.{ltb}
use Rattle.models.specs.declared.Model.{Model}
use Rattle.models.specs.Models.{model_of, range, range_of}
use Rattle.models.proofs.Rules.{range-bottom, range-top, range_all, no-range, out_of_range, in-range, highest-bp}
use Rattle.models.proofs.range_of.Goals as goal

-- the row that was found
module _ (number : ℕ) (tb : Bool) (bp : ℕ) (row : Model) (e : row ≡ model_of number) where
  abbrev blocks-are : row.blocks ≡ (model_of number).blocks
  blocks-are = ap (λ (m : Model). m.blocks) e

  none : (ltb row.highest_bp bp || (tb && not row.register)) ≡ true → range 0 0 ≡ range_of number tb bp
  none t = no-range number tb bp (out_of_range number tb bp (subst (λ (m : Model). (ltb m.highest_bp bp || (tb && not m.register)) ≡ true) e t))

  some : (ltb row.highest_bp bp || (tb && not row.register)) ≡ false → (bp ≤ (model_of number).highest_bp) × (tb ≡ true → (model_of number).register ≡ true)
  some t = in-range number tb bp (subst (λ (m : Model). (ltb m.highest_bp bp || (tb && not m.register)) ≡ false) e t)

pub returns-then-row-bp : goal.returns-then-row-bp
returns-then-row-bp c =
    let a = c.args in
    none a.number a.bottom a.bp _ c.model_of-row.ensures c.if-row-bp.true

pub overflow_shl-most : goal.overflow_shl-most
overflow_shl-most c =
    let a = c.args in
    omega (arith, (some a.number a.bottom a.bp _ c.model_of-row.ensures c.if-row-bp.false).0, highest-bp a.number)

pub returns-then-row-most : goal.returns-then-row-most
returns-then-row-most c =
    let a = c.args in
    let e = c.model_of-row.ensures in
    let i = some a.number a.bottom a.bp _ e c.if-row-bp.false in
    range_all a.number a.bottom a.bp _ (blocks-are a.number a.bottom a.bp _ e) i.0 i.1 c.if-row-most.true

pub returns-then-bottom : goal.returns-then-bottom
returns-then-bottom c =
    let a = c.args in
    let e = c.model_of-row.ensures in
    let i = some a.number a.bottom a.bp _ e c.if-row-bp.false in
    range-bottom a.number a.bottom a.bp _ (blocks-are a.number a.bottom a.bp _ e) i.0 i.1 c.if-bottom.true (omega (arith, c.if-row-most.false))

pub returns : goal.returns
returns c =
    let a = c.args in
    let e = c.model_of-row.ensures in
    let i = some a.number a.bottom a.bp _ e c.if-row-bp.false in
    range-top a.number a.bottom a.bp _ (blocks-are a.number a.bottom a.bp _ e) i.0 i.1 c.if-bottom.false (omega (arith, c.if-row-most.false))
