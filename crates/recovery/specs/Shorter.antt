-- No wait of the list can be a microsecond shorter: 01, "The twelve calls", which are thirteen with the wait after AB.
use Rattle.std.specs.Prelude.{Err, ◌≡◌, true, List, [], ◌∷◌, ◌++◌, ◌⊎◌, ℕ, ◌-◌, length, replicate}
use Rattle.models.specs.Models.{model_of}
use Rattle.states.specs.States.{record_ok, longest_of, Chip}
use Rattle.states.specs.declared.Record.{Record}
use Rattle.answers.specs.Answers.{Answer, Done}
use Rattle.answers.specs.declared.Refusal.TheVariants.{Settling, Busy}
use Rattle.chip.specs.Frames.{Sent}
use Rattle.calls.specs.Calls.{Call, sends, waits, ours, run, answers, Bench}
use Rattle.recovery.specs.Histories.{factory}
use Rattle.recovery.specs.Recovery.{Job, JobFits, wait_longest, enable_unlock, to_unlock, to_erase, to_program, wake_up, enable_erase, enable_program, read_back}

-- the calls are answered 0, and the frame after them so
abbrev pub Then : Answer → Record → List Call → Sent → Chip → Type 0
Then a rec cs f x = answers ours rec [] (cs ++ (sends f ∷ [])) x ≡ replicate (length cs) Done ++ (a ∷ [])

abbrev pub ThenBusy : Record → List Call → Sent → Chip → Type 0
ThenBusy = Then (Err Busy)

-- with the wait after AB shortened by one, the next call is answered 22, for every chip that was asleep
abbrev pub ShorterWake : Type 0
ShorterWake =
    (rec : Record) (j : Job) (x : Chip) → Bench rec x → JobFits rec j → x.state.asleep ≡ true
    → Then (Err Settling) rec (wait_longest rec j ∷ sends (wake_up j) ∷ waits (rec.wake - 1) ∷ []) (enable_unlock j) x

-- with the wait after an operation shortened by one, the next call is answered 11, for every record and state
abbrev pub ShorterUnlock : Type 0
ShorterUnlock =
    (rec : Record) (j : Job) (x : Chip) → Bench rec x → JobFits rec j
    → ThenBusy rec (to_unlock rec j ++ (waits (rec.status_write - 1) ∷ [])) (enable_erase j) x

abbrev pub ShorterErase : Type 0
ShorterErase =
    (rec : Record) (j : Job) (x : Chip) → Bench rec x → JobFits rec j
    → ThenBusy rec (to_erase rec j ++ (waits (rec.sector - 1) ∷ [])) (enable_program j) x

abbrev pub ShorterProgram : Type 0
ShorterProgram =
    (rec : Record) (j : Job) (x : Chip) → Bench rec x → JobFits rec j
    → ThenBusy rec (to_program rec j ++ (waits (rec.page - 1) ∷ [])) (read_back j) x

-- with the first wait shortened by one, AB is answered 11 or 22 on some chip
abbrev pub TooShort : Record → Job → Chip → Type 0
TooShort rec j x =
    Then (Err Busy) rec (waits (longest_of rec - 1) ∷ []) (wake_up j) x ⊎ Then (Err Settling) rec (waits (longest_of rec - 1) ∷ []) (wake_up j) x

-- there is a chip with a valid state for which it is
abbrev pub ShorterFirst : Type 0
ShorterFirst =
    (rec : Record) (cells : List ℕ) (j : Job) → record_ok rec ≡ true → length cells ≡ (model_of rec.model).length → JobFits rec j
    → (x : Chip) × Bench rec x × TooShort rec j x

-- and calls from power-on on one array that lead to one, for every record
abbrev pub ReachedFirst : Type 0
ReachedFirst =
    (rec : Record) (cells : List ℕ) (j : Job) → record_ok rec ≡ true → length cells ≡ (model_of rec.model).length → JobFits rec j
    → (calls : List Call) × TooShort rec j (run ours rec [] calls (factory cells))
