-- How much a command drives and whether it folds: a number of bytes, a note.
use Rattle.std.specs.Prelude.{Bool, false, ℕ, ◌-◌}
use Rattle.fold.specs.Fold.{folds}
use Rattle.units.specs.declared.Address.{Address}
use Rattle.units.specs.Kinds.{page_offset}
use Rattle.commands.specs.declared.Command.{Command}
use Rattle.commands.specs.declared.Command.TheVariants.{WriteEnable, WriteDisable, ReadStatus, ReadConfig, WriteStatus, Read, FastRead, EraseSector, EraseHalf, EraseBlock, EraseChip, Program, ReadId, Wake, ReadMaker, Sleep, Unknown, Withdrawn, ReadSfdp}

-- how many bytes an accepted frame of n bytes drives
unfoldable pub driven_bytes : Command → ℕ → ℕ
driven_bytes WriteEnable n = 0
driven_bytes WriteDisable n = 0
driven_bytes ReadStatus n = n - 1
driven_bytes ReadConfig n = n - 1
driven_bytes WriteStatus n = 0
driven_bytes Read n = n - 4
driven_bytes FastRead n = n - 5
driven_bytes EraseSector n = 0
driven_bytes EraseHalf n = 0
driven_bytes EraseBlock n = 0
driven_bytes EraseChip n = 0
driven_bytes Program n = 0
driven_bytes ReadId n = n - 1
driven_bytes Wake n = n - 4
driven_bytes ReadMaker n = n - 4
driven_bytes Sleep n = 0
driven_bytes Unknown n = 0
driven_bytes Withdrawn n = 0
driven_bytes ReadSfdp n = n - 5

-- whether an accepted frame of n bytes says that a byte went past the page's end: only a program can
unfoldable pub fold_of : Command → Address → ℕ → Bool
fold_of WriteEnable at n = false
fold_of WriteDisable at n = false
fold_of ReadStatus at n = false
fold_of ReadConfig at n = false
fold_of WriteStatus at n = false
fold_of Read at n = false
fold_of FastRead at n = false
fold_of EraseSector at n = false
fold_of EraseHalf at n = false
fold_of EraseBlock at n = false
fold_of EraseChip at n = false
fold_of Program at n = folds (page_offset at) (n - 4)
fold_of ReadId at n = false
fold_of Wake at n = false
fold_of ReadMaker at n = false
fold_of Sleep at n = false
fold_of Unknown at n = false
fold_of Withdrawn at n = false
fold_of ReadSfdp at n = false
