-- `script::number` meets its contract: the digits from b on go on from the sum of those before.
use mathlib.Core.Path.{◌≡◌}
use Prim.Native.Nat.{◌≤◌}
use lib.ListN.{drop}
use Rattle.script.specs.Reading.{numbered}
use Rattle.script.proofs.number.Given as goal

abbrev pub invariant-loop-b : goal.invariant-loop-b
invariant-loop-b l = (l.sum ≤ 4294967295) × (numbered 0 l.digits ≡ numbered l.sum (drop l.b-index l.digits))
