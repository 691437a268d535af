-- A whole script, fed in blocks: what is written is the log of its lines.
use Rattle.std.specs.Prelude.{◌≡◌, ℕ, zero, suc, ◌≤◌, Bool, cond, List, [], ◌∷◌, ◌++◌, length, take, nat_lt}
use Rattle.states.specs.declared.Record.{Record}
use Rattle.lines.specs.Lines.{lines_from, joined_up}
use Rattle.lines.specs.Cutting.{Holds, held_room}
use Rattle.stepper.specs.Rows.{log_from, device_from}
use Rattle.script_log.specs.Row.{longest_row}
use Rattle.feed.specs.declared.Run.{Run}
use Rattle.feed.specs.Feed.{Stand, chip_now, device_now, feed_of, last_of}

-- the log was written out, and is empty again
abbrev pub emptied_run : Run → Run
emptied_run run = record { number = run.number; used = run.used; at = run.at; filled = 0 }

abbrev pub emptied : Stand → Stand
emptied s = record s { run = emptied_run s.run }

-- the start of a block, with an empty log
abbrev pub begun_run : Run → Run
begun_run run = record { number = run.number; used = run.used; at = 0; filled = 0 }

abbrev pub begun : Stand → Stand
begun s = record s { run = begun_run s.run }

-- what is written out of the log
abbrev pub filled_part : Stand → List ℕ
filled_part s = take s.run.filled s.log

-- a text that was written, and where the run stands after it
pub record Wrote : Type 0 where
  pub text : List ℕ
  pub stand : Stand

-- feed after feed, at most n of them, until the block is used up; the log is written out after each
abbrev pub block_for : Record → Bool → List ℕ → ℕ → Stand → Wrote
block_for rec strict block zero s = record { text = []; stand = s }
block_for rec strict block (suc n) s =
    cond (nat_lt s.run.at (length block))
    (record { text = filled_part (feed_of rec strict block s) ++ (block_for rec strict block n (emptied (feed_of rec strict block s))).text; stand = (block_for rec strict block n (emptied (feed_of rec strict block s))).stand })
    (record { text = []; stand = s })

-- each feed uses up a byte at least
abbrev pub whole_block : Record → Bool → List ℕ → Stand → Wrote
whole_block rec strict block s = block_for rec strict block (length block) (begun s)

-- block after block, and at the input's end the line that is held
abbrev pub written_of : Record → Bool → Stand → List (List ℕ) → List ℕ
written_of rec strict s [] = filled_part (last_of rec strict (begun s))
written_of rec strict s (block ∷ blocks) = (whole_block rec strict block s).text ++ written_of rec strict (whole_block rec strict block s).stand blocks

-- where it stands after block after block, and after the input's end
abbrev pub passed_blocks : Record → Bool → Stand → List (List ℕ) → Stand
passed_blocks rec strict s [] = s
passed_blocks rec strict s (block ∷ blocks) = passed_blocks rec strict (whole_block rec strict block s).stand blocks

abbrev pub stand_after : Record → Bool → Stand → List (List ℕ) → Stand
stand_after rec strict s blocks = last_of rec strict (begun (passed_blocks rec strict s blocks))

-- what is written is the log of the lines of all blocks together, whatever `line` is held at the start
abbrev pub WholeScript : Type 0
WholeScript = (rec : Record) (strict : Bool) (s : Stand) (line : List ℕ) (blocks : List (List ℕ)) → length s.held ≡ held_room → longest_row ≤ length s.log → Holds line s.held s.run.used
    → written_of rec strict s blocks ≡ log_from rec strict (chip_now s) s.wear s.run.number (lines_from line (joined_up blocks))

-- and chip and wear table are as those lines leave them
abbrev pub WholeDevice : Type 0
WholeDevice = (rec : Record) (strict : Bool) (s : Stand) (line : List ℕ) (blocks : List (List ℕ)) → length s.held ≡ held_room → longest_row ≤ length s.log → Holds line s.held s.run.used
    → device_now (stand_after rec strict s blocks) ≡ device_from rec strict (chip_now s) s.wear (lines_from line (joined_up blocks))
