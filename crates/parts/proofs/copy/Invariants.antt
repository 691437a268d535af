-- The bytes below k are those of src.
use Prim.Native.Nat.{ℕ}
use lib.ListN.{get_or}
use Rattle.parts.proofs.Loop.{Done}
use Rattle.parts.proofs.copy.Given as goal

abbrev pub invariant-loop-k : goal.invariant-loop-k
invariant-loop-k l = Done (λ (i old : ℕ). get_or l.src i 0) l.k l.initial.dst l.dst
