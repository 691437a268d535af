-- Laws of the strict setting.
use Rattle.std.specs.Prelude.{Option, Some, None}
use mathlib.Core.Path.{◌≡◌, refl}
use mathlib.Core.Bool.{true, false}
use mathlib.Core.List.{List}
use Prim.Native.Nat.{ℕ}
use lib.ListN.{drop}
use Rattle.units.specs.declared.Address.{Address}
use Rattle.units.specs.Kinds.{page_start, page_offset}
use Rattle.parts.specs.Parts.{part}
use Rattle.fold.specs.Strict.{over_old}
use Rattle.commands.specs.declared.Operation.{Operation}
use Rattle.commands.specs.declared.Operation.TheVariants.{WritesStatus, Programs, ErasesSector, ErasesHalf, ErasesBlock, ErasesChip}
use Rattle.effects.specs.Effects.{programs_over, goes_over}

-- off, it refuses nothing
pub off : (op : Option Operation) (at : Address) (cells bytes : List ℕ) → goes_over op false at cells bytes ≡ false
unfolding programs_over
off None at cells bytes = refl
off (Some WritesStatus) at cells bytes = refl
off (Some Programs) at cells bytes = refl
off (Some ErasesSector) at cells bytes = refl
off (Some ErasesHalf) at cells bytes = refl
off (Some ErasesBlock) at cells bytes = refl
off (Some ErasesChip) at cells bytes = refl

-- on, it refuses the programs that go over old data in the addressed page
pub on : (at : Address) (cells bytes : List ℕ) → programs_over true at cells bytes ≡ over_old (page_offset at) (drop 4 bytes) (part cells (page_start at) 256)
unfolding programs_over
on at cells bytes = refl
