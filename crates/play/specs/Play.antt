-- What a script line does to the chip: 01, "Script and log".
use Rattle.std.specs.Prelude.{◌≡◌, Bool, false, List, ℕ, length, drop, take, Option, Some, None, Result, Ok, Err}
use Rattle.answers.specs.Answers.{Answer}
use Rattle.answers.specs.declared.Refusal.{Refusal}
use Rattle.answers.specs.declared.Refusal.TheVariants.{BadLine}
use Rattle.states.specs.declared.Record.{Record}
use Rattle.states.specs.declared.State.{State}
use Rattle.effects.specs.Effects.{Effect}
use Rattle.states.specs.States.{Chip, chip_of}
use Rattle.chip.specs.Frames.{sent_of, frame_of}
use Rattle.time.specs.Time.{After, Aftermath, wait_of, power_of}
use Rattle.script.specs.declared.Line.{Line}
use Rattle.script.specs.declared.Line.TheVariants.{Frame, Wait, Power}
use Rattle.script.specs.Hex.{hex_bytes}
use Rattle.script.specs.Reading.{line_of}
use Rattle.play.specs.declared.Bench.{Bench}
use Rattle.play.specs.declared.Played.{Played}

-- what a line comes to, and the state, the page data, the array, the wear table and the output after
pub record Turn : Type 0 where
  pub played : Played
  pub state : State
  pub page : List ℕ
  pub cells : List ℕ
  pub wear : List ℕ
  pub shown : List ℕ

abbrev pub passed_of : Answer → Played
passed_of a = record { answer = a; from = 0; count = 0; fold = false }

-- what a wait or a power cycle that gave this is answered, and the state that it leaves: a refused one leaves the state as it was
abbrev pub passed_answer : Result State Refusal → Answer
passed_answer (Ok s) = Ok (record {})
passed_answer (Err r) = Err r

abbrev pub state_after : State → Result State Refusal → State
state_after old (Ok s) = s
state_after old (Err r) = old

-- the bytes of the line's hex digits, as many as 300, are the frame; it changes no cell
unfoldable pub frame_turn : Record → Bool → Chip → List ℕ → List ℕ → List ℕ → Bool → ℕ → Turn
frame_turn rec strict x wear shown line wp tail =
    let e : Effect = frame_of rec x (sent_of (take 300 (hex_bytes (drop 6 line))) tail wp strict wear shown) in
    record {
      played = record { answer = e.reply.answer; from = e.reply.from; count = e.reply.count; fold = e.reply.fold };
      state = e.reply.state;
      page = e.page;
      cells = x.cells;
      wear = e.wear;
      shown = e.out;
    }

-- a wait: its answer, and the chip that it leaves; no count is raised
abbrev pub wait_turn : Record → Chip → List ℕ → List ℕ → ℕ → Turn
wait_turn rec x wear shown us =
    let o : Aftermath = wait_of rec x us in
    record { played = passed_of o.answer; state = o.chip.state; page = o.chip.page; cells = o.chip.cells; wear = wear; shown = shown }

-- only the state may differ
abbrev pub state_turn : Played → State → Chip → List ℕ → List ℕ → Turn
state_turn p st x wear shown = record { played = p; state = st; page = x.page; cells = x.cells; wear = wear; shown = shown }

abbrev pub power_turn : Record → Chip → List ℕ → List ℕ → Turn
power_turn rec x wear shown =
    let a : After = power_of rec x.state x.page in
    state_turn (passed_of a.answer) a.state x wear shown

-- a line says nothing where it is a bad one
unfoldable pub turn_of : Record → Bool → Chip → List ℕ → List ℕ → List ℕ → Option Line → Turn
turn_of rec strict x wear shown line (Some (Frame wp tail n)) = frame_turn rec strict x wear shown line wp tail
turn_of rec strict x wear shown line (Some (Wait us)) = wait_turn rec x wear shown us
turn_of rec strict x wear shown line (Some Power) = power_turn rec x wear shown
turn_of rec strict x wear shown line None = state_turn (record { answer = Err BadLine; from = 0; count = 0; fold = false }) x.state x wear shown

-- any line
abbrev pub play_of : Record → Bool → Chip → List ℕ → List ℕ → List ℕ → Turn
play_of rec strict x wear shown line = turn_of rec strict x wear shown line (line_of line)

-- the chip on the bench, and a line played on it
abbrev pub chip_on : Bench → Chip
chip_on b = chip_of b.state b.page.now b.array.now

abbrev pub turn_on : Bench → List ℕ → List ℕ → Turn
turn_on b shown line = play_of b.rec b.strict (chip_on b) b.wear.now shown line

-- the result, and the chip on the bench and the output at exit
pub record Plays (t : Turn) (r : Played) (b : Bench) (os : List ℕ) : Type 0 where
  pub played : r ≡ t.played
  pub state : b.state ≡ t.state
  pub page : b.page.now ≡ t.page
  pub cells : b.array.now ≡ t.cells
  pub wear : b.wear.now ≡ t.wear
  pub shown : os ≡ t.shown

-- the record and the setting are the same, and what is lent is lent on, each as long as it was
pub record StaysLent (b c : Bench) : Type 0 where
  pub same_record : c.rec ≡ b.rec
  pub same_setting : c.strict ≡ b.strict
  pub same_page : c.page.ghost_name ≡ b.page.ghost_name
  pub same_array : c.array.ghost_name ≡ b.array.ghost_name
  pub same_wear : c.wear.ghost_name ≡ b.wear.ghost_name
  pub same_page_length : length c.page.now ≡ length b.page.now
  pub same_array_length : length c.array.now ≡ length b.array.now
  pub same_wear_length : length c.wear.now ≡ length b.wear.now

-- no second answer
abbrev pub OnePlays : Type 0
OnePlays = (t : Turn) (r r' : Played) (b b' : Bench) (os os' : List ℕ) → Plays t r b os → Plays t r' b' os'
    → (r ≡ r') × (b.state ≡ b'.state) × (b.page.now ≡ b'.page.now) × (b.array.now ≡ b'.array.now) × (b.wear.now ≡ b'.wear.now) × (os ≡ os')
