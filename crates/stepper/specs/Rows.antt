-- A line's row of the log, and the log of a script: 01, "Script and log".
use Rattle.std.specs.Prelude.{◌≡◌, Bool, List, [], ◌∷◌, ◌++◌, ℕ, ◌+◌, ◌%◌, ◌≤◌, replicate}
use Rattle.parts.specs.Parts.{part}
use Rattle.answers.specs.Answers.{number_of}
use Rattle.states.specs.declared.Record.{Record}
use Rattle.states.specs.States.{Chip, chip_of}
use Rattle.text.specs.Put.{Put}
use Rattle.script_log.specs.Row.{log_text, longest_row}
use Rattle.play.specs.declared.Bench.{Bench}
use Rattle.play.specs.Play.{Turn, play_of}

-- a line of the log is played with an output of 300 zeros, of which it shows what was driven
abbrev pub line_turn : Record → Bool → Chip → List ℕ → List ℕ → Turn
line_turn rec strict x wear line = play_of rec strict x wear (replicate 300 0) line

unfoldable pub row_text : Record → Bool → Chip → List ℕ → ℕ → List ℕ → List ℕ
row_text rec strict x wear number line =
    let t : Turn = line_turn rec strict x wear line in
    log_text number (number_of t.played.answer) t.played.from (part t.shown t.played.from t.played.count) t.played.fold

-- the row was put into d from `at` on, up to `to`, which makes it e; and the state, the page data, the array and the wear table of the bench are the line's
pub record Logs (rec : Record) (strict : Bool) (x : Chip) (wear : List ℕ) (number : ℕ) (line d : List ℕ) (at to : ℕ) (b : Bench) (e : List ℕ) : Type 0 where
  pub row : Put (row_text rec strict x wear number line) d at e to
  pub most : to ≤ at + longest_row
  pub state : b.state ≡ (line_turn rec strict x wear line).state
  pub page' : b.page.now ≡ (line_turn rec strict x wear line).page
  pub cells' : b.array.now ≡ (line_turn rec strict x wear line).cells
  pub wear' : b.wear.now ≡ (line_turn rec strict x wear line).wear

-- no second answer
abbrev pub OneLogs : Type 0
OneLogs = (rec : Record) (strict : Bool) (x : Chip) (wear : List ℕ) (number : ℕ) (line d : List ℕ) (at to to' : ℕ) (b b' : Bench) (e e' : List ℕ)
    → Logs rec strict x wear number line d at to b e → Logs rec strict x wear number line d at to' b' e'
    → (to ≡ to') × (b.state ≡ b'.state) × (b.page.now ≡ b'.page.now) × (b.array.now ≡ b'.array.now) × (b.wear.now ≡ b'.wear.now) × (e ≡ e')

-- the chip after a line
abbrev pub chip_after : Turn → Chip
chip_after t = chip_of t.state t.page t.cells

-- the log of lines, of which the first has the number n; numbers wrap after 18,446,744,073,709,551,615
abbrev pub next : ℕ → ℕ
next n = (n + 1) % 18446744073709551616

abbrev pub log_from : Record → Bool → Chip → List ℕ → ℕ → List (List ℕ) → List ℕ
log_from rec strict x wear n [] = []
log_from rec strict x wear n (line ∷ lines) = row_text rec strict x wear n line ++ log_from rec strict (chip_after (line_turn rec strict x wear line)) (line_turn rec strict x wear line).wear (next n) lines

-- the chip and its wear table, as lines leave them
pub record Device : Type 0 where
  pub chip : Chip
  pub wear : List ℕ

abbrev pub device_from : Record → Bool → Chip → List ℕ → List (List ℕ) → Device
device_from rec strict x wear [] = record { chip = x; wear = wear }
device_from rec strict x wear (line ∷ lines) = device_from rec strict (chip_after (line_turn rec strict x wear line)) (line_turn rec strict x wear line).wear lines
