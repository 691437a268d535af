-- `text::Sheet::hex` meets its contract: the bytes before b are put.
use mathlib.Core.Path.{◌≡◌}
use Prim.Native.Nat.{◌+◌, ◌*◌}
use lib.ListN.{length, take}
use Rattle.text.specs.Text.{hex_text}
use Rattle.text.specs.Put.{Put}
use Rattle.text.proofs.Sheet.hex.Given as goal

abbrev pub invariant-loop-b : goal.invariant-loop-b
invariant-loop-b l =
    (l.self.out.ghost_name ≡ l.initial.self.out.ghost_name)
    × (length l.self.out.now ≡ length l.initial.self.out.now)
    × (l.self.at ≡ l.initial.self.at + 2 * l.b-index)
    × Put (hex_text (take l.b-index l.bytes)) l.initial.self.out.now l.initial.self.at l.self.out.now l.self.at
