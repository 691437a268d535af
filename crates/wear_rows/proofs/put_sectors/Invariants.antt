-- `wear_rows::put_sectors` meets its contract.
use mathlib.Core.Path.{◌≡◌}
use lib.ListN.{length}
use Rattle.wear_rows.proofs.Listed.{Listed}
use Rattle.wear_rows.proofs.put_sectors.Given as goal

abbrev pub invariant-loop-k : goal.invariant-loop-k
invariant-loop-k l =
    (l.sheet.out.ghost_name ≡ l.initial.sheet.out.ghost_name)
    × (length l.sheet.out.now ≡ length l.initial.sheet.out.now)
    × Listed l.largest l.wear l.initial.sheet.out.now l.initial.sheet.at l.k l.sheet.out.now l.sheet.at
