-- The commands: 01, "Commands" (000 L158-187, 002 L304-340, 003 L467-571).
use Rattle.std.specs.Prelude.{Bool, true, false, ◌&&◌, ◌||◌, cond, List, [], ◌∷◌, ◌++◌, ℕ, min, eqb, leb, Option, Some, None}
use Rattle.commands.specs.declared.Traits.{Traits}
use Rattle.commands.specs.declared.Command.{Command}
use Rattle.commands.specs.declared.Operation.{Operation}
use Rattle.commands.specs.declared.Operation.TheVariants.{WritesStatus, Programs, ErasesSector, ErasesHalf, ErasesBlock, ErasesChip}
use Rattle.commands.specs.declared.Command.TheVariants.{WriteEnable, WriteDisable, ReadStatus, ReadConfig, WriteStatus, Read, FastRead, EraseSector, EraseHalf, EraseBlock, EraseChip, Program, ReadId, Wake, ReadMaker, Sleep, Unknown, Withdrawn, ReadSfdp}

-- the command bytes
pub record Byte : Type 0 where
  pub byte : ℕ
  pub means : Command

infix 20 ◌is◌
abbrev pub ◌is◌ : ℕ → Command → Byte
b is c = record { byte = b; means = c }

-- the bytes that mean the same on every model
abbrev pub common : List Byte
common =
    (0x06 is WriteEnable)
    ∷ (0x04 is WriteDisable)
    ∷ (0x05 is ReadStatus)
    ∷ (0x01 is WriteStatus)
    ∷ (0x03 is Read)
    ∷ (0x0B is FastRead)
    ∷ (0x20 is EraseSector)
    ∷ (0xD8 is EraseBlock)
    ∷ (0x60 is EraseChip)
    ∷ (0xC7 is EraseChip)
    ∷ (0x02 is Program)
    ∷ (0x9F is ReadId)
    ∷ (0xAB is Wake)
    ∷ (0x90 is ReadMaker)
    ∷ (0xB9 is Sleep)
    ∷ []

-- and those that do not: 5A reads the SFDP table, which only model 2 has (002 L534; Req 12)
abbrev pub sfdp_read : ℕ → Command
sfdp_read n = cond (eqb n 2) ReadSfdp Unknown

-- 52 erases 32 KiB on model 3 (003 L1233) and is withdrawn on models 1 and 2 (Req 11, against 000 L158, L327 and 002 L304); 15 only model 3 has (003 L505)
abbrev pub own : ℕ → List Byte
own n = cond (eqb n 3) ((0x52 is EraseHalf) ∷ (0x15 is ReadConfig) ∷ []) ((0x52 is Withdrawn) ∷ [])

abbrev pub look_up : ℕ → List Byte → Command
look_up b [] = Unknown
look_up b (r ∷ rs) = cond (eqb b r.byte) r.means (look_up b rs)

-- what a byte means on the model of a number
unfoldable pub decode_of : ℕ → ℕ → Command
decode_of n b = look_up b (common ++ ((0x5A is sfdp_read n) ∷ own n))

-- the operation that a command starts, which keeps the chip busy, or none
abbrev pub operation_of : Command → Option Operation
operation_of WriteEnable = None
operation_of WriteDisable = None
operation_of ReadStatus = None
operation_of ReadConfig = None
operation_of WriteStatus = Some WritesStatus
operation_of Read = None
operation_of FastRead = None
operation_of EraseSector = Some ErasesSector
operation_of EraseHalf = Some ErasesHalf
operation_of EraseBlock = Some ErasesBlock
operation_of EraseChip = Some ErasesChip
operation_of Program = Some Programs
operation_of ReadId = None
operation_of Wake = None
operation_of ReadMaker = None
operation_of Sleep = None
operation_of Unknown = None
operation_of Withdrawn = None
operation_of ReadSfdp = None

-- and the one of a command byte on the model of a number
abbrev pub started_by : ℕ → ℕ → Option Operation
started_by n b = operation_of (decode_of n b)

abbrev pub ■ : Bool
■ = true

abbrev pub □ : Bool
□ = false

-- no frame is longer than `most`; none is as long as `never`
abbrev pub most : ℕ
most = 65541

abbrev pub never : ℕ
never = 65542

-- a row of the table below
abbrev pub row : Bool → Bool → Bool → Bool → Bool → Bool → ℕ → ℕ → ℕ → Traits
row busy asleep latch lock unit whole low high least =
    record { known = true; withdrawn = false; while_busy = busy; while_asleep = asleep; latch = latch; lock = lock; unit = unit; whole = whole; low = low; high = high; least = least }

-- a byte that is no command
abbrev pub unknown : Traits
unknown =
    record { known = false; withdrawn = false; while_busy = □; while_asleep = □; latch = □; lock = □; unit = □; whole = □; low = 0; high = 0; least = 0 }

-- a command that was withdrawn: of any length
abbrev pub withdrawn : Traits
withdrawn =
    record { known = true; withdrawn = true; while_busy = □; while_asleep = □; latch = □; lock = □; unit = □; whole = □; low = 0; high = 0; least = 0 }

-- with the configuration register a status write may have a second data byte (003 L510, L899)
abbrev pub most_written : Bool → ℕ
most_written register = cond register 3 2

-- the table, of a model that has the configuration register and of one that has not
unfoldable pub traits_of : Bool → Command → Traits
--      taken while busy
--      | taken while asleep
--      | | needs WEL
--      | | | heeds SRWD and WP#
--      | | | | changes the addressed unit
--      | | | | | changes the whole chip
--      | | | | | | bytes without tail: low to high; bytes with any tail: least and more
traits_of r WriteEnable =  -- 06
    row □ □ □ □ □ □ 1 1 never
traits_of r WriteDisable =  -- 04
    row □ □ □ □ □ □ 1 1 never
traits_of r ReadStatus =  -- 05
    row ■ □ □ □ □ □ 1 1 1
traits_of r ReadConfig =  -- 15
    row ■ □ □ □ □ □ 1 1 1
traits_of r WriteStatus =  -- 01
    row □ □ ■ ■ □ □ 2 (most_written r) never
traits_of r Read =  -- 03
    row □ □ □ □ □ □ 4 4 4
traits_of r FastRead =  -- 0B
    row □ □ □ □ □ □ 5 5 5
traits_of r EraseSector =  -- 20
    row □ □ ■ □ ■ □ 4 4 never
traits_of r EraseHalf =  -- 52 of model 3
    row □ □ ■ □ ■ □ 4 4 never
traits_of r EraseBlock =  -- D8
    row □ □ ■ □ ■ □ 4 4 never
traits_of r EraseChip =  -- 60, C7
    row □ □ ■ □ □ ■ 1 1 never
traits_of r Program =  -- 02
    row □ □ ■ □ ■ □ 5 most never
traits_of r ReadId =  -- 9F
    row □ □ □ □ □ □ 1 1 1
traits_of r Wake =  -- AB
    row □ ■ □ □ □ □ 1 1 5
traits_of r ReadMaker =  -- 90
    row □ □ □ □ □ □ 4 4 4
traits_of r Sleep =  -- B9
    row □ □ □ □ □ □ 1 1 never
traits_of r Unknown = unknown
traits_of r Withdrawn = withdrawn  -- 52 of models 1 and 2
traits_of r ReadSfdp =  -- 5A of model 2
    row □ □ □ □ □ □ 5 5 5

-- whole bytes and tail bits that the command may have
unfoldable pub length_ok : Traits → ℕ → ℕ → Bool
length_ok k n tail = ((leb k.low n && leb n k.high) && eqb tail 0) || leb k.least n

-- the fewest bytes of an allowed frame
abbrev pub fewest : Traits → ℕ
fewest k = min k.low k.least
