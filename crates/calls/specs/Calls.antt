-- Calls, pods, and what a list of calls does.
use Rattle.answers.specs.Answers.{Answer}
use Rattle.std.specs.Prelude.{◌≡◌, Bool, true, List, [], ◌∷◌, ℕ, ◌≤◌, length}
use Rattle.models.specs.Models.{model_of}
use Rattle.states.specs.States.{record_ok, state_ok, page_ok, Chip, chip_of}
use Rattle.states.specs.declared.Record.{Record}
use Rattle.states.specs.declared.State.{State}
use Rattle.effects.specs.Effects.{Effect}
use Rattle.chip.specs.Frames.{Sent, sent_of, frame_of}
use Rattle.time.specs.Time.{After, Aftermath, wait_of, power_of, power_cut_of}

-- a frame; a wait of so many microseconds; a power cycle; a cut of the power with its pattern
pub data Call : Type 0 where
  sends : Sent → Call
  waits : ℕ → Call
  cycles : Call
  cuts : List ℕ → Call

-- what a pod answers in the place of a chip; it may remember the calls made of it, the latest first
pub record Pod : Type 0 where
  pub frame : List Call → Record → Chip → Sent → Effect
  pub wait : List Call → Record → Chip → ℕ → Aftermath
  pub power : List Call → Record → State → List ℕ → After
  pub cut : List Call → Record → Chip → List ℕ → Aftermath

-- our model, which remembers nothing
abbrev pub ours : Pod
ours = record { frame = λ seen. frame_of; wait = λ seen. wait_of; power = λ seen. power_of; cut = λ seen. power_cut_of }

-- the chip that a frame leaves: it cannot change a cell
abbrev pub left : Chip → Effect → Chip
left x e = chip_of e.reply.state e.page x.cells

-- the calls seen, the latest first, after a list of calls more
abbrev pub saw : List Call → List Call → List Call
saw seen [] = seen
saw seen (c ∷ cs) = saw (c ∷ seen) cs

module _ (p : Pod) (rec : Record) where
  -- the chip after a call, and the call's answer
  unfoldable pub after : List Call → Call → Chip → Chip
  after seen (sends f) x = left x (p.frame seen rec x f)
  after seen (waits us) x = (p.wait seen rec x us).chip
  after seen cycles x = chip_of (p.power seen rec x.state x.page).state x.page x.cells
  after seen (cuts pattern) x = (p.cut seen rec x pattern).chip

  unfoldable pub answer : List Call → Call → Chip → Answer
  answer seen (sends f) x = (p.frame seen rec x f).reply.answer
  answer seen (waits us) x = (p.wait seen rec x us).answer
  answer seen cycles x = (p.power seen rec x.state x.page).answer
  answer seen (cuts pattern) x = (p.cut seen rec x pattern).answer

  -- where a list of calls leads, and the answers it gives
  abbrev pub run : List Call → List Call → Chip → Chip
  run seen [] x = x
  run seen (c ∷ cs) x = run (c ∷ seen) cs (after seen c x)

  abbrev pub answers : List Call → List Call → Chip → List Answer
  answers seen [] x = []
  answers seen (c ∷ cs) x = answer seen c x ∷ answers (c ∷ seen) cs (after seen c x)

  -- the wear tables that the frames of a list leave
  abbrev pub tables : List Call → List Call → Chip → List (List ℕ)
  tables seen [] x = []
  tables seen (sends f ∷ cs) x = (p.frame seen rec x f).wear ∷ tables (sends f ∷ seen) cs (after seen (sends f) x)
  tables seen (waits us ∷ cs) x = tables (waits us ∷ seen) cs (after seen (waits us) x)
  tables seen (cycles ∷ cs) x = tables (cycles ∷ seen) cs (after seen cycles x)
  tables seen (cuts pattern ∷ cs) x = tables (cuts pattern ∷ seen) cs (after seen (cuts pattern) x)

  -- what a frame does that is sent after a list of calls
  abbrev pub effect_after : List Call → Chip → Sent → Effect
  effect_after cs x f = p.frame (saw [] cs) rec (run [] cs x) f

-- ---- the calls of a bench
-- a frame with WP# high and no tail bits, under either setting
abbrev pub frame : List ℕ → Bool → List ℕ → List ℕ → Sent
frame bytes strict wear out = sent_of bytes 0 true strict wear out

-- an output at least as long as its frame
abbrev pub Roomy : Sent → Type 0
Roomy f = length f.bytes ≤ length f.out

-- a wear table of the right length
abbrev pub Tabled : Record → Sent → Type 0
Tabled rec f = length f.wear ≡ (model_of rec.model).sectors

-- valid record, right array length, valid state, page data that fit it
pub record Bench (rec : Record) (x : Chip) : Type 0 where
  pub right : record_ok rec ≡ true
  pub whole : length x.cells ≡ (model_of rec.model).length
  pub valid : state_ok rec x.state ≡ true
  pub page : page_ok rec.model x.state x.page ≡ true
