-- What `input` makes of the blocks that it reads. No contract can say which bytes the system reads or writes.
-- What is done with the number that a read has answered, and with the block after it, is said of every number and every block: `BlockTaken`. Of a
-- read itself it is only said that there is such a number: `BlockRead`. Of a whole input it is only said that there is a script whose lines leave
-- what was left: `ScriptPlayed`. It is any script, the empty one too: a program that played another script than it read would meet it as well.
use Rattle.std.specs.Prelude.{◌≡◌, Bool, true, false, List, [], ℕ, ◌≤◌, ◌<◌, min, length, take, Option, Some, None, IsSome, IsNone}
use Rattle.std.specs.declared.ops.ControlFlow.{ControlFlow}
use Rattle.std.specs.declared.ops.ControlFlow.TheVariants.{Continue, Break}
use Rattle.states.specs.declared.Record.{Record}
use Rattle.states.specs.States.{power_on, chip_of}
use Rattle.lines.specs.Lines.{lines_from}
use Rattle.lines.specs.Cutting.{held_room}
use Rattle.script_log.specs.Row.{longest_row}
use Rattle.play.specs.declared.Bench.{Bench}
use Rattle.stepper.specs.Rows.{device_from}
use Rattle.feed.specs.declared.Run.{Run}
use Rattle.feed.specs.Feed.{Stand, last_of, Stands}
use Rattle.feed.specs.Script.{begun, whole_block}

-- what is written of a log: nothing where it is not to be written, which goes well; else no more than it has
pub record Flushed (log : List ℕ) (filled : ℕ) (written r : Bool) : Type 0 where
  pub quiet : written ≡ false → r ≡ true
  pub within : written ≡ true → r ≡ true → filled ≤ length log

-- the first line has the number 1
abbrev pub first_run : Run
first_run = record { number = 1; used = 0; at = 0; filled = 0 }

-- what a block asks: room for the line that is held, and a log with room for a row
pub record BlockStart (run : Run) (held log : List ℕ) : Type 0 where
  pub used : run.used ≤ held_room
  pub hold : length held ≡ held_room
  pub room : longest_row ≤ length log

-- a block from s on: where it goes on the whole block was played, and it does where nothing is written; else it ends, not well
abbrev pub BlockPlayed : Record → Bool → Bool → List ℕ → Stand → ControlFlow Bool Run → Bench → List ℕ → List ℕ → Type 0
BlockPlayed rec strict written block s (Continue run) b held log = (run.used ≤ held_room) × Stands (whole_block rec strict block s).stand run b held log
BlockPlayed rec strict written block s (Break well) b held log = (well ≡ false) × (written ≡ true)

-- the chip on the bench and its table are those of t
pub record Kept (t : Stand) (b : Bench) : Type 0 where
  pub state' : b.state ≡ t.state
  pub page' : b.page.now ≡ t.page
  pub cells' : b.array.now ≡ t.cells
  pub wear' : b.wear.now ≡ t.wear

-- the last line leaves t; r is whether its row was written
pub record LastPlayed (t : Stand) (written r : Bool) (b : Bench) (log : List ℕ) : Type 0 where
  pub kept : Kept t b
  pub log' : log ≡ t.log
  pub quiet : written ≡ false → r ≡ true

-- the last line was played, and it ends with whether its row was written
pub record LastTaken (t : Stand) (written : Bool) (r : ControlFlow Bool Run) (b : Bench) (log : List ℕ) : Type 0 where
  pub well : Bool
  pub ends : r ≡ Break well
  pub played : LastPlayed t written well b log

-- how many bytes of a block a read has brought: none where it failed, and no more than there are
abbrev pub brought : Option ℕ → ℕ → ℕ
brought None most = 0
brought (Some n) most = min n most

-- What a read answered, a number unless it failed, and the block after it, from s on. It failed: it ends there, and nothing changes. No byte came: it ends with the last line. Else
-- as many bytes of the block as it says were played.
pub record BlockTaken (rec : Record) (strict written : Bool) (got : Option ℕ) (block : List ℕ) (s : Stand) (r : ControlFlow Bool Run) (b : Bench) (held log : List ℕ) : Type 0 where
  pub failed : IsNone got → (r ≡ Break false) × Kept s b
  pub last : IsSome got → brought got (length block) ≡ 0 → LastTaken (last_of rec strict (begun s)) written r b log
  pub some : 0 < brought got (length block) → BlockPlayed rec strict written (take (brought got (length block)) block) s r b held log

-- one read: there is such a number
pub record BlockRead (rec : Record) (strict written : Bool) (block : List ℕ) (s : Stand) (r : ControlFlow Bool Run) (b : Bench) (held log : List ℕ) : Type 0 where
  pub got : Option ℕ
  pub taken : BlockTaken rec strict written got block s r b held log

-- some script was played from power-on: page data, array and wear table are as its lines leave them
pub record ScriptPlayed (rec : Record) (strict : Bool) (page cells wear page' cells' wear' : List ℕ) : Type 0 where
  pub script : List ℕ
  pub page-is : page' ≡ (device_from rec strict (chip_of power_on page cells) wear (lines_from [] script)).chip.page
  pub cells_are : cells' ≡ (device_from rec strict (chip_of power_on page cells) wear (lines_from [] script)).chip.cells
  pub wear-is : wear' ≡ (device_from rec strict (chip_of power_on page cells) wear (lines_from [] script)).wear
