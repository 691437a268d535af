-- The cells below k are done.
use Prim.Native.Nat.{ℕ}
use lib.ListN.{get_or}
use Rattle.cells.specs.Cell.{programmed_cell}
use Rattle.parts.proofs.Loop.{Done}
use Rattle.cells.proofs.and_into.Given as goal

abbrev pub invariant-loop-k : goal.invariant-loop-k
invariant-loop-k l = Done (λ (i old : ℕ). programmed_cell old (get_or l.bytes i 0)) l.k l.initial.cells l.cells
