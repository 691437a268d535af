-- Waiting, power cycles and cuts of the power: 01, "Commands", last paragraphs, and Req 05.
use Rattle.std.specs.Prelude.{Result, Ok, Err, Bool, false, not, ◌&&◌, ◌||◌, cond, List, [], ◌∷◌, ◌++◌, ℕ, ◌-◌, ◌*◌, ◌/◌, ◌%◌, eqb, ltb, length}
use Rattle.answers.specs.Answers.{Answer, Done, is_done}
use Rattle.answers.specs.declared.Refusal.TheVariants.{BadState, Busy, BadPattern}
use Rattle.answers.specs.Tables.{Rung, ◌gives◌, first_of}
use Rattle.ladder.specs.Ladder.{absent, sized, call_rows}
use Rattle.states.specs.States.{state_ok, page_ok, no_command, no_address, Chip, chip_of}
use Rattle.states.specs.declared.Record.{Record}
use Rattle.states.specs.declared.State.{State}
use Rattle.operations.specs.Operations.{runs, pattern_length, finished, torn_chip}
use Rattle.answers.specs.declared.Refusal.{Refusal}

-- ---- what time and power do to a chip
-- the busy time and what is left to settle fall, never below 0
unfoldable pub later : State → ℕ → State
later s us =
    record { srwd = s.srwd; bp = s.bp; config = s.config; wel = s.wel; asleep = s.asleep; busy = s.busy - us; settle = s.settle - us; command = s.command; address = s.address }

-- nothing ends in a wait: the chip is not busy, or busy for longer
abbrev pub nothing_ends : State → ℕ → Bool
nothing_ends s us = eqb s.busy 0 || ltb us s.busy

-- when the busy time runs out the operation has finished, and not before
unfoldable pub waited : ℕ → Chip → ℕ → Chip
waited n x us = cond (nothing_ends x.state us) (chip_of (later x.state us) x.page x.cells) (finished n x)

-- a power cycle keeps SRWD, BP and TB (bit 3 of the register) and zeroes the rest (000 L246-248, L399-400, 003 L828-864)
unfoldable pub cycled : State → State
cycled s =
    record { srwd = s.srwd; bp = s.bp; config = s.config / 8 % 2 * 8; wel = false; asleep = false; busy = 0; settle = 0; command = no_command; address = no_address }

-- a cut leaves what the pattern says of the running operation; then it is as after a power cycle
unfoldable pub cut_off : ℕ → Chip → List ℕ → Chip
cut_off n x pattern = let y : Chip = torn_chip n x pattern in chip_of (cycled y.state) y.page y.cells

-- ---- what is refused: the rows of every call (`call_rows`), and what is the call's own after them
-- wait and cut take the array, a power cycle takes none
abbrev pub chip_rows : Record → Chip → List Rung
chip_rows rec x = call_rows rec (sized (length x.cells)) absent (state_ok rec x.state && page_ok rec.model x.state x.page)

-- the last of them, under a right record and a whole array
abbrev pub fit_refusal : Record → State → List ℕ → Answer
fit_refusal rec s page = cond (not (state_ok rec s && page_ok rec.model s page)) (Err BadState) Done

unfoldable pub chip_refusal : Record → Chip → Answer
chip_refusal rec x = first_of (chip_rows rec x)

-- a busy chip is not cycled
abbrev pub power_rows : Record → State → List ℕ → List Rung
power_rows rec s page = call_rows rec absent absent (state_ok rec s && page_ok rec.model s page) ++ ((not (eqb s.busy 0) gives Busy) ∷ [])

unfoldable pub power_refusal : Record → State → List ℕ → Answer
power_refusal rec s page = first_of (power_rows rec s page)

-- the pattern of a cut is as long as the unit that it leaves behind
abbrev pub pattern_rows : Record → Chip → List ℕ → List Rung
pattern_rows rec x pattern = (not (eqb (length pattern) (pattern_length (runs rec.model x.state) x.state.address (length x.cells))) gives BadPattern) ∷ []

unfoldable pub cut_refusal : Record → Chip → List ℕ → Answer
cut_refusal rec x pattern = first_of (chip_rows rec x ++ pattern_rows rec x pattern)

-- ---- the calls
-- what a function returns: a value where nothing is refused, and the refusal alone where something is
abbrev pub told : {T : Type 0} → Answer → T → Result T Refusal
told (Ok x) v = Ok v
told (Err r) v = Err r

-- what comes of a wait or a cut: the answer and the chip, which a refusal leaves as it was
pub record Aftermath : Type 0 where
  pub answer : Answer
  pub chip : Chip

abbrev pub unless : Answer → Chip → Chip → Aftermath
unless a x y = record { answer = a; chip = cond (is_done a) y x }

unfoldable pub wait_of : Record → Chip → ℕ → Aftermath
wait_of rec x us = unless (chip_refusal rec x) x (waited rec.model x us)

unfoldable pub power_cut_of : Record → Chip → List ℕ → Aftermath
power_cut_of rec x pattern = unless (cut_refusal rec x pattern) x (cut_off rec.model x pattern)

-- what comes of a power cycle: the answer, and the state, which a refusal leaves as it was
pub record After : Type 0 where
  pub answer : Answer
  pub state : State

abbrev pub after_of : Answer → State → After
after_of a s = record { answer = a; state = s }

abbrev pub ended : After → Result State Refusal
ended m = told m.answer m.state

-- a power cycle leaves page data and array alone
unfoldable pub power_of : Record → State → List ℕ → After
power_of rec s page = let a : Answer = power_refusal rec s page in after_of a (cond (is_done a) (cycled s) s)
