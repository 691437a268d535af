-- The bytes before the index are done, and k is the next place in the pattern.
use mathlib.Core.Path.{◌≡◌}
use Prim.Native.Nat.{ℕ, ◌%◌, ◌<◌}
use lib.ListN.{length, get_or}
use Rattle.parts.proofs.Loop.{Done}
use Rattle.rings.proofs.step_through.Given as goal

abbrev pub invariant-loop-byte : goal.invariant-loop-byte
invariant-loop-byte l =
    (l.k < length l.pattern) × (l.k ≡ l.byte-index % length l.pattern) × Done (λ (j old : ℕ). get_or l.pattern (j % length l.pattern) 0) l.byte-index l.initial.out l.out
