-- Stored scripts (Req 11): what one gave before 52 was withdrawn on models 1 and 2, and that it gives the same once it is rewritten.
use Rattle.std.specs.Prelude.{◌≡◌, Bool, List, [], ◌∷◌, ◌++◌, ℕ, take, drop, replicate, Option, Some, None}
use Rattle.parts.specs.Parts.{part}
use Rattle.answers.specs.Answers.{number_of}
use Rattle.states.specs.States.{Chip}
use Rattle.states.specs.declared.Record.{Record}
use Rattle.effects.specs.Effects.{Effect}
use Rattle.chip.specs.Frames.{sent_of, frame_of}
use Rattle.script.specs.Hex.{hex_bytes}
use Rattle.script.specs.Reading.{line_of}
use Rattle.script.specs.declared.Line.{Line}
use Rattle.script.specs.declared.Line.TheVariants.{Frame, Wait, Power}
use Rattle.lines.specs.Lines.{lines_from}
use Rattle.script_log.specs.Row.{log_text}
use Rattle.play.specs.Play.{Turn, turn_of}
use Rattle.stepper.specs.Rows.{chip_after, next, log_from}
use Rattle.rewrite.specs.Rewriting.{rewritten}
use Rattle.rewrite.specs.Promises.{first_replaced}

-- Before it, models 1 and 2 took the byte 52 for D8: one row of the table of commands had both (000 L158, L327; 002 L304). A frame whose first byte was 52
-- was so the frame that begins with D8.
unfoldable pub frame_before : Record → Bool → Chip → List ℕ → List ℕ → List ℕ → Bool → ℕ → Turn
frame_before rec strict x wear shown line wp tail =
    let e : Effect = frame_of rec x (sent_of (first_replaced (take 300 (hex_bytes (drop 6 line)))) tail wp strict wear shown) in
    record {
      played = record { answer = e.reply.answer; from = e.reply.from; count = e.reply.count; fold = e.reply.fold };
      state = e.reply.state;
      page = e.page;
      cells = x.cells;
      wear = e.wear;
      shown = e.out;
    }

-- waits, power cycles and bad lines were as they are
abbrev pub turn_before : Record → Bool → Chip → List ℕ → List ℕ → List ℕ → Option Line → Turn
turn_before rec strict x wear shown line (Some (Frame wp tail n)) = frame_before rec strict x wear shown line wp tail
turn_before rec strict x wear shown line (Some (Wait us)) = turn_of rec strict x wear shown line (Some (Wait us))
turn_before rec strict x wear shown line (Some Power) = turn_of rec strict x wear shown line (Some Power)
turn_before rec strict x wear shown line None = turn_of rec strict x wear shown line None

abbrev pub line_before : Record → Bool → Chip → List ℕ → List ℕ → Turn
line_before rec strict x wear line = turn_before rec strict x wear (replicate 300 0) line (line_of line)

-- the log of lines, of which the first has the number n
abbrev pub row_before : Turn → ℕ → List ℕ
row_before t number = log_text number (number_of t.played.answer) t.played.from (part t.shown t.played.from t.played.count) t.played.fold

abbrev pub log_before : Record → Bool → Chip → List ℕ → ℕ → List (List ℕ) → List ℕ
log_before rec strict x wear n [] = []
log_before rec strict x wear n (line ∷ lines) =
    let t : Turn = line_before rec strict x wear line in
    row_before t n ++ log_before rec strict (chip_after t) t.wear (next n) lines

-- the log of a rewritten script is the one that the script had before, on any chip
abbrev pub SameLog : Type 0
SameLog =
    (rec : Record) (strict : Bool) (x : Chip) (wear : List ℕ) (n : ℕ) (s : List ℕ)
    → log_from rec strict x wear n (lines_from [] (rewritten s)) ≡ log_before rec strict x wear n (lines_from [] s)
