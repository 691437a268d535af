-- 52 on models 1 and 2, withdrawn by Req 11 against the sheets that list it (000 L158, L327, 002 L304); proofs/Withdrawn.antt proves each under its name in small letters.
use Rattle.std.specs.Prelude.{Err, true, false, List, [], ◌∷◌, ◌≡◌, ℕ, ◌≤◌, length, get_or}
use Rattle.models.specs.Models.{model_of}
use Rattle.answers.specs.Answers.{number_of}
use Rattle.answers.specs.declared.Refusal.TheVariants.{BadState, Withdrawn}
use Rattle.states.specs.States.{record_ok, state_ok, Chip}
use Rattle.states.specs.declared.Record.{Record}
use Rattle.states.specs.declared.State.{State}
use Rattle.effects.specs.Effects.{state_only}
use Rattle.time.specs.Time.{wait_of, power_of, power_cut_of}
use Rattle.chip.specs.Frames.{Sent, frame_of}
use Rattle.calls.specs.Calls.{Bench, Roomy, Tabled}
use Rattle.promises.specs.Laws.{among}
use Rattle.promises.specs.Locked.{SmallChip}

-- a frame whose first byte is 52, on model 1 or 2
abbrev pub Begins52 : Record → Sent → Type 0
Begins52 rec f = SmallChip rec × (get_or f.bytes 0 0 ≡ 0x52)

-- no row before 21 applies to it: not 1, 2, 24 or 3, not 4 or 5, not 22, 11 or 12. It has a byte, and 52 is a command of the list: 10 and 13 never do
pub record Clear21 (rec : Record) (x : Chip) (f : Sent) : Type 0 where
  pub bench : Bench rec x
  pub tabled : Tabled rec f
  pub short : length f.bytes ≤ 65541
  pub tail : f.tail ≤ 7
  pub roomy : Roomy f
  pub settled : x.state.settle ≡ 0
  pub idle : x.state.busy ≡ 0
  pub awake : x.state.asleep ≡ false

-- then it is answered 21, whatever its length, tail and data, WP#, WEL, SRWD, BP, the cells and the counts
abbrev pub WithdrawnWhen : Type 0
WithdrawnWhen = (rec : Record) (x : Chip) (f : Sent) → Begins52 rec f → Clear21 rec x f → (frame_of rec x f).reply.answer ≡ Err Withdrawn

-- and nothing else is
abbrev pub WithdrawnOnly : Type 0
WithdrawnOnly = (rec : Record) (x : Chip) (f : Sent) → (frame_of rec x f).reply.answer ≡ Err Withdrawn → Begins52 rec f × Clear21 rec x f

-- where a row before 21 applies, that one answers: never 14 or a later one, and it is never carried out
abbrev pub withdrawn_numbers : List ℕ
withdrawn_numbers = 21 ∷ 13 ∷ 12 ∷ 11 ∷ 22 ∷ 10 ∷ 24 ∷ 1 ∷ 2 ∷ 3 ∷ 4 ∷ 5 ∷ []

abbrev pub WithdrawnNever : Type 0
WithdrawnNever = (rec : Record) (x : Chip) (f : Sent) → Begins52 rec f → among (number_of (frame_of rec x f).reply.answer) withdrawn_numbers ≡ true

-- whatever it is answered, it changes nothing, counts nothing and drives no byte
abbrev pub WithdrawnStays : Type 0
WithdrawnStays =
    (rec : Record) (x : Chip) (f : Sent) → Begins52 rec f
    → frame_of rec x f ≡ state_only (frame_of rec x f).reply.answer x.state x.page f.wear f.out

-- no valid state says that it runs
abbrev pub WithdrawnIdle : Type 0
WithdrawnIdle = (rec : Record) (s : State) → SmallChip rec → s.command ≡ 0x52 → state_ok rec s ≡ false

-- so what an older program stored in the middle of one is refused by waits, cuts and power cycles too
abbrev pub WithdrawnStored : Type 0
WithdrawnStored =
    (rec : Record) (x : Chip) (us : ℕ) (pattern : List ℕ) → SmallChip rec → x.state.command ≡ 0x52 → record_ok rec ≡ true → length x.cells ≡ (model_of rec.model).length
    → ((wait_of rec x us).answer ≡ Err BadState) × ((power_cut_of rec x pattern).answer ≡ Err BadState) × ((power_of rec x.state x.page).answer ≡ Err BadState)
