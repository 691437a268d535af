-- `script::hex::unhex` meets its contract: the first k bytes stand.
use mathlib.Core.Path.{◌≡◌}
use mathlib.Core.List.{◌++◌}
use Prim.Native.Nat.{◌/◌, ◌≤◌}
use lib.ListN.{length, take, drop}
use Rattle.script.specs.Hex.{hex_bytes}
use Rattle.script.proofs.hex.unhex.Given as goal

abbrev pub invariant-loop-k : goal.invariant-loop-k
invariant-loop-k l = (l.n ≤ length l.digits / 2) × (l.n ≤ length l.initial.out) × (l.out ≡ take l.k (hex_bytes l.digits) ++ drop l.k l.initial.out)
