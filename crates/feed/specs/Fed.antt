-- What follows from a feed, whatever was held of its first line and whatever comes after the block.
use Rattle.std.specs.Prelude.{◌≡◌, ℕ, ◌+◌, ◌<◌, ◌≤◌, Bool, List, ◌++◌, length, drop}
use Rattle.states.specs.declared.Record.{Record}
use Rattle.text.specs.Put.{Put}
use Rattle.lines.specs.Lines.{lines_from, last_line}
use Rattle.lines.specs.Cutting.{Holds, held_room}
use Rattle.stepper.specs.Rows.{log_from, device_from}
use Rattle.script_log.specs.Row.{longest_row}
use Rattle.feed.specs.Feed.{Start, Stand, chip_now, device_now, feed_of, last_of}

-- From s to t some text was put into the log, and the log of the lines to come is that text and the log of the lines still to come; what those
-- leave of chip and table is the same. `line` is what there is of the line that is held, `later` the input after the block.
pub record Did (rec : Record) (strict : Bool) (block : List ℕ) (s t : Stand) (line : List ℕ) : Type 0 where
  pub text : List ℕ
  pub rest : List ℕ
  pub put : Put text s.log s.run.filled t.log t.run.filled
  pub holds : Holds rest t.held t.run.used
  pub same : (later : List ℕ)
      → log_from rec strict (chip_now s) s.wear s.run.number (lines_from line (drop s.run.at block ++ later))
      ≡ text ++ log_from rec strict (chip_now t) t.wear t.run.number (lines_from rest (drop t.run.at block ++ later))
  pub device : (later : List ℕ)
      → device_from rec strict (chip_now s) s.wear (lines_from line (drop s.run.at block ++ later))
      ≡ device_from rec strict (chip_now t) t.wear (lines_from rest (drop t.run.at block ++ later))

-- a feed goes on to the block's end, or until the log lacks room for a row
pub record Fed (rec : Record) (strict : Bool) (block : List ℕ) (s t : Stand) : Type 0 where
  pub inside : t.run.at ≤ length block
  pub on : s.run.at < length block → s.run.filled + longest_row ≤ length s.log → s.run.at < t.run.at
  pub hold : length t.held ≡ length s.held
  pub used : t.run.used ≤ held_room
  pub within : t.run.filled ≤ length s.log
  pub long : length t.log ≡ length s.log
  pub did : (line : List ℕ) → Holds line s.held s.run.used → Did rec strict block s t line

-- at the input's end a line that is held is the last one
pub record Finished (rec : Record) (strict : Bool) (s t : Stand) : Type 0 where
  pub within : t.run.filled ≤ length s.log
  pub did : (line : List ℕ) → Holds line s.held s.run.used → Put (log_from rec strict (chip_now s) s.wear s.run.number (last_line line)) s.log s.run.filled t.log t.run.filled
  pub device : (line : List ℕ) → Holds line s.held s.run.used → device_now t ≡ device_from rec strict (chip_now s) s.wear (last_line line)

abbrev pub FeedFeeds : Type 0
FeedFeeds = (rec : Record) (strict : Bool) (block : List ℕ) (s : Stand) → Start s.run s.held block s.log → Fed rec strict block s (feed_of rec strict block s)

abbrev pub LastFinishes : Type 0
LastFinishes = (rec : Record) (strict : Bool) (s : Stand) → length s.held ≡ held_room → s.run.filled + longest_row ≤ length s.log → Finished rec strict s (last_of rec strict s)
