-- Whether a bit was missing, and what the cells still to come say.
use mathlib.Core.Path.{◌≡◌}
use mathlib.Core.Bool.{Bool, not, ◌||◌}
use mathlib.Core.List.{List}
use Prim.Native.Nat.{ℕ}
use lib.Dec.{eqb}
use lib.ListN.{get_or, drop}
use Rattle.cells.specs.Cell.{misses}
use Rattle.parts.specs.Parts.{some_from, some_by_index}
use Rattle.cells.proofs.holds.Given as goal

abbrev pub missed : List ℕ → ℕ → ℕ → Bool
missed bytes k old = misses old (get_or bytes k 0)

abbrev pub invariant-loop-k : goal.invariant-loop-k
invariant-loop-k l =
    (not (eqb l.missing 0) || some_from (missed l.bytes) l.k (drop l.k l.cells)) ≡ some_by_index (missed l.bytes) l.cells
