-- What was found, and what the bytes still to come say.
use mathlib.Core.Path.{◌≡◌}
use mathlib.Core.Bool.{◌&&◌}
use lib.ListN.{drop}
use Rattle.parts.specs.Parts.{all_are}
use Rattle.parts.proofs.all_are.Given as goal

abbrev pub invariant-loop-b : goal.invariant-loop-b
invariant-loop-b l = (l.all && all_are l.byte (drop l.b-index l.bytes)) ≡ all_are l.byte l.bytes
