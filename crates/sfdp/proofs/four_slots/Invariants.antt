-- `sfdp::four_slots` meets its contract: the slots below i hold the numbers.
use mathlib.Core.Path.{◌≡◌}
use mathlib.Core.List.{◌++◌}
use Prim.Native.Nat.{◌≤◌}
use lib.ListN.{length, take, drop}
use Rattle.sfdp.proofs.Writer.{unused_slots}
use Rattle.sfdp.proofs.four_slots.Given as goal

abbrev pub invariant-loop-i : goal.invariant-loop-i
invariant-loop-i l = (l.i ≤ length l.erases) × (l.slots ≡ take l.i l.erases ++ drop l.i unused_slots)
