-- `counts::raise` meets its contract: the counts below i are raised.
use mathlib.Core.Path.{refl}
use Prim.Native.Nat.{◌<◌}
use native.Mathlib.Omega.{arith}
use native.Mathlib.Nat.{le_refl}
use lib.ListN.{length}
use borrow.Author.Rules.{rules}
use Rattle.parts.proofs.Loop.{done_none, done-step, done_all}
use Rattle.counts.proofs.Laws.{below_top}
use Rattle.counts.proofs.raise.Goals as goal

-- a count that is still to come is below its top
pub overflow_add-count : goal.overflow_add-count
overflow_add-count c =
    let h = c.loop-count in
    let d = c.args.counts.now in
    let l : h.count-index < length d = omega arith in
    omega (arith, below_top d h.invariant.2 h.count-index l, h.invariant.3.ahead h.count-index (le_refl h.count-index))

pub loop-count-preserved : goal.loop-count-preserved
loop-count-preserved c =
    let h = c.loop-count in
    let l : h.count-index < length c.args.counts.now = omega arith in
    (omega arith, search rules, search rules, done-step _ _ _ _ _ h.invariant.3 l refl)

pub returns : goal.returns
returns c = done_all _ _ _ _ c.loop-count.invariant.3 (omega arith)

pub loop-count-init : goal.loop-count-init
loop-count-init c =
    (omega arith, refl, search rules, done_none _ _)
