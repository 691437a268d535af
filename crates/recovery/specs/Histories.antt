-- Every history from power-on leaves a valid state: 01, "The twelve calls", last sentence; there are thirteen by now.
use Rattle.std.specs.Prelude.{◌≡◌, true, List, [], ◌∷◌, ℕ, length}
use Rattle.models.specs.Models.{model_of}
use Rattle.states.specs.States.{record_ok, state_ok, page_ok, power_on, blank_page, Chip, chip_of}
use Rattle.states.specs.declared.Record.{Record}
use Rattle.calls.specs.Calls.{Call, cuts, ours, after, run}
use Rattle.recovery.specs.Recovery.{Job, JobFits, Recovers}

-- a call, and the array lent to it: of any length, with any contents
pub record Lent : Type 0 where
  pub call : Call
  pub cells : List ℕ

-- a chip with another array lent to it, and one from the factory
abbrev pub lend : Chip → List ℕ → Chip
lend x cells = chip_of x.state x.page cells

abbrev pub factory : List ℕ → Chip
factory cells = chip_of power_on blank_page cells

-- the chip after calls that each have an array of their own
abbrev pub history : Record → List Lent → Chip → Chip
history rec [] x = x
history rec (l ∷ ls) x = history rec ls (after ours rec [] l.call (lend x l.cells))

-- whatever the record, the calls and their arrays: bad calls and cuts included
abbrev pub ValidHistories : Type 0
ValidHistories =
    (rec : Record) (past : List Lent)
    → (let y : Chip = history rec past (factory []) in (state_ok rec y.state ≡ true) × (page_ok rec.model y.state y.page ≡ true))

-- the listed calls win back the chip that any history has left, with whichever array of the right length is lent to them
abbrev pub AnyHistory : Type 0
AnyHistory =
    (rec : Record) (past : List Lent) (cells : List ℕ) (j : Job) → record_ok rec ≡ true → length cells ≡ (model_of rec.model).length → JobFits rec j
    → Recovers ours rec j (lend (history rec past (factory [])) cells)

-- also where the power was cut at any moment of it, whatever the pattern
abbrev pub AfterCut : Type 0
AfterCut =
    (rec : Record) (past : List Lent) (cells pattern : List ℕ) (j : Job) → record_ok rec ≡ true → length cells ≡ (model_of rec.model).length → JobFits rec j
    → Recovers ours rec j (after ours rec [] (cuts pattern) (lend (history rec past (factory [])) cells))

-- no call changes the length of the array that it is given
abbrev pub SameLength : Type 0
SameLength = (rec : Record) (c : Call) (x : Chip) → length (after ours rec [] c x).cells ≡ length x.cells

-- calls on one array, each given the array that the one before left, are such a history
abbrev pub on_one : Record → List Call → Chip → List Lent
on_one rec [] x = []
on_one rec (c ∷ cs) x = record { call = c; cells = x.cells } ∷ on_one rec cs (after ours rec [] c x)

abbrev pub RunsAreHistories : Type 0
RunsAreHistories = (rec : Record) (calls : List Call) (x : Chip) → run ours rec [] calls x ≡ history rec (on_one rec calls x) x
