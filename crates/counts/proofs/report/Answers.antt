-- `counts::report` meets its contract.
use mathlib.Core.Path.{sym, ◌∙◌}
use Prim.Native.Nat.{◌≤◌, ◌<◌}
use native.Mathlib.Nat.{mod-lt}
use native.Mathlib.Omega.{arith}
use lib.ListN.{length}
use Rattle.counts.proofs.Laws.{sectors-range}
use Rattle.counts.proofs.report.Goals as goal
use Rattle.counts.proofs.report.Goals.{Else-not-is_sectors}

-- some chip has so many sectors
range : (c : Else-not-is_sectors) → (0 < length c.args.wear.now) × (length c.args.wear.now ≤ 4096)
range c = omega (arith, sectors-range _ (sym c.is_sectors.ensures ∙ c.if-not-is_sectors.false))

pub sum_up-s-requires : goal.sum_up-s-requires
sum_up-s-requires c = range (goal.at.sum_up-s-requires c).Else-not-is_sectors

pub nonzero_div-result : goal.nonzero_div-result
nonzero_div-result c = (range (goal.at.nonzero_div-result c).Else-not-is_sectors).0

pub nonzero_rem-result : goal.nonzero_rem-result
nonzero_rem-result c = (range (goal.at.nonzero_rem-result c).Else-not-is_sectors).0

pub overflow_cast-result-2 : goal.overflow_cast-result-2
overflow_cast-result-2 c = let r = range (goal.at.overflow_cast-result-2 c).Else-not-is_sectors in omega (arith, r.1, mod-lt c.sum_up-s.result.total r.0)
