-- `counts::count` meets its contract: only the covered counts are lent on.
use Rattle.std.specs.Prelude.{Option}
use mathlib.Core.Path.{◌≡◌, refl, sym, ap, subst, ◌∙◌}
use mathlib.Core.Bool.{not}
use mathlib.Core.List.{List}
use Prim.Native.Nat.{ℕ, ◌+◌, ◌-◌, ◌≤◌}
use native.Mathlib.Omega.{arith}
use lib.ListN.{length, take, drop}
use borrow.Rule.Slice.PartMut.{put_mid}
use Rattle.units.specs.declared.Address.{Address}
use Rattle.commands.specs.declared.Operation.{Operation}
use Rattle.parts.proofs.Lay.{part-back, length_part}
use Rattle.parts.proofs.Loop.{length-by_index}
use Rattle.counts.specs.declared.Sectors.{Sectors}
use Rattle.counts.specs.Counts.{covered, covered_counts, at_top, raised, worn_out, counted, InTable}
use Rattle.counts.proofs.count.Goals as goal

-- the run that the code found lies in the table, and its part of the table holds the covered counts
module _ (wear : List ℕ) (op : Option Operation) (at : Address) (s : Sectors) (e : s ≡ covered op at (length wear)) (p : InTable op at wear) where
  inside : s.first.0 + s.count ≤ length wear
  inside = subst (λ (r : Sectors). r.first.0 + r.count ≤ length wear) (sym e) p

  its-counts : take (s.first.0 + s.count - s.first.0) (drop s.first.0 wear) ≡ covered_counts op at wear
  its-counts =
      let n : s.first.0 + s.count - s.first.0 ≡ s.count = omega arith in
      rw n (ap (λ (r : Sectors). take r.count (drop r.first.0 wear)) e)

  its-tops : at_top (take (s.first.0 + s.count - s.first.0) (drop s.first.0 wear)) ≡ worn_out op at wear
  unfolding worn_out
  its-tops = ap at_top its-counts

  -- put back raised, it is the table after
  counts-back : {ys : List ℕ} → ys ≡ raised (take (s.first.0 + s.count - s.first.0) (drop s.first.0 wear))
      → put_mid s.first.0 (s.first.0 + s.count - s.first.0) wear ys ≡ counted op at wear
  unfolding counted
  counts-back e' =
      part-back s.first.0 (s.first.0 + s.count) (covered op at (length wear)).first.0 wear _ (raised (covered_counts op at wear)) (ap (λ (r : Sectors). r.first.0) e) (omega arith) (e' ∙ ap raised its-counts)
      (length-by_index (λ (k old : ℕ). old + 1) (covered_counts op at wear) ∙ ap length (sym its-counts) ∙ length_part wear s.first.0 (s.first.0 + s.count - s.first.0) (omega (arith, inside)))

pub overflow_add-end : goal.overflow_add-end
overflow_add-end c =
    let a = c.args in
    omega (arith, inside a.wear.now a.op a.at c.sectors_of-unit.result c.sectors_of-unit.ensures c.requires)

pub offset_bounds-wear-first : goal.offset_bounds-wear-first
offset_bounds-wear-first c =
    let a = c.args in
    omega (arith, inside a.wear.now a.op a.at c.sectors_of-unit.result c.sectors_of-unit.ensures c.requires)

pub returns-then-at_top : goal.returns-then-at_top
returns-then-at_top c =
    let a = c.args in
    record { done-is = ap not (sym c.if-at_top.true ∙ c.at_top.ensures ∙ its-tops a.wear.now a.op a.at c.sectors_of-unit.result c.sectors_of-unit.ensures c.requires); table_is = refl }

pub offset_bounds-wear-first-2 : goal.offset_bounds-wear-first-2
offset_bounds-wear-first-2 c =
    let a = c.args in
    omega (arith, inside a.wear.now a.op a.at c.sectors_of-unit.result c.sectors_of-unit.ensures c.requires)

pub raise-requires : goal.raise-requires
raise-requires c =
    sym c.at_top.ensures ∙ c.if-at_top.false

pub returns : goal.returns
returns c =
    let a = c.args in
    let w = a.wear.now in
    let r = c.sectors_of-unit.result in
    record {
      done-is = ap not (sym c.if-at_top.false ∙ c.at_top.ensures ∙ its-tops w a.op a.at r c.sectors_of-unit.ensures c.requires);
      table_is = counts-back w a.op a.at r c.sectors_of-unit.ensures c.requires c.raise.ensures;
    }
