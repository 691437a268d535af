use mathlib.Core.Path.{sym, ap, ◌∙◌}
use mathlib.Core.Bool.{Bool, not, ◌||◌, not-not}
use Prim.Native.Nat.{◌+◌}
use native.Mathlib.Omega.{arith}
use lib.Dec.{eqb}
use lib.ListN.{get_or, drop}
use Rattle.cells.specs.Cell.{all_hold}
use Rattle.parts.specs.Parts.{some_from}
use Rattle.parts.proofs.Some.{some_more, some-all}
use Rattle.cells.proofs.Cell.{missing-more}
use Rattle.cells.proofs.holds.Invariants.{missed}
use Rattle.cells.proofs.holds.Goals as goal

pub loop-k-preserved : goal.loop-k-preserved
loop-k-preserved c =
    let h = c.loop-k in
    let cells = c.args.cells.now in
    let bytes = c.args.bytes.now in
    ap (λ (t : Bool). t || some_from (missed bytes) (h.k + 1) (drop (h.k + 1) cells)) (missing-more h.missing (get_or cells h.k 0) (get_or bytes h.k 0))
    ∙ some_more (missed bytes) cells h.k (not (eqb h.missing 0)) (omega arith) h.invariant

pub returns : goal.returns
unfolding all_hold
returns c =
    let h = c.loop-k in
    sym (not-not (eqb h.missing 0)) ∙ ap not (some-all (missed c.args.bytes.now) c.args.cells.now h.k (not (eqb h.missing 0)) (omega arith) h.invariant)
