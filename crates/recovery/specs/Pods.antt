-- Worthless pods: 01, "How tight a promise is". Each is a kind of pod, and no pod of that kind wins chips back.
use Rattle.answers.specs.Answers.{Done}
use Rattle.std.specs.Prelude.{◌≡◌, Bool, true, false, List, [], ◌∷◌, ◌⊎◌, ℕ, ◌+◌, ◌<◌, get_or}
use Rattle.cells.specs.Cell.{FF}
use Rattle.states.specs.declared.Record.{Record}
use Rattle.effects.specs.Effects.{Effect, state_only}
use Rattle.chip.specs.Frames.{Sent}
use Rattle.states.specs.States.{Chip}
use Rattle.calls.specs.Calls.{Call, sends, waits, cycles, cuts, Pod}
use Rattle.recovery.specs.Recovery.{WinsBack}

-- a frame was sent before
abbrev pub sent_before : List Call → Bool
sent_before [] = false
sent_before (sends f ∷ cs) = true
sent_before (waits us ∷ cs) = sent_before cs
sent_before (cycles ∷ cs) = sent_before cs
sent_before (cuts pattern ∷ cs) = sent_before cs

module _ (p : Pod) where
  -- it refuses every frame
  abbrev pub RefusesAll : Type 0
  RefusesAll = (seen : List Call) (rec : Record) (x : Chip) (f : Sent) → (p.frame seen rec x f).reply.answer ≡ Done → ⊥

  -- whatever it drives is one and the same byte
  abbrev pub SameByte : ℕ → Type 0
  SameByte b =
      (seen : List Call) (rec : Record) (x : Chip) (f : Sent) (k : ℕ)
      → (let e : Effect = p.frame seen rec x f in k < e.reply.count → get_or e.out (e.reply.from + k) 0 ≡ b)

  -- no wait and no cut of it changes a cell; a frame cannot
  abbrev pub KeepsCells : Type 0
  KeepsCells =
      ((seen : List Call) (rec : Record) (x : Chip) (us : ℕ) → (p.wait seen rec x us).chip.cells ≡ x.cells)
      × ((seen : List Call) (rec : Record) (x : Chip) (pattern : List ℕ) → (p.cut seen rec x pattern).chip.cells ≡ x.cells)

  -- whatever it does with the first frame, it answers 0 to the others and does nothing
  abbrev pub OnlyOnce : Type 0
  OnlyOnce = (seen : List Call) (rec : Record) (x : Chip) (f : Sent) → sent_before seen ≡ true → p.frame seen rec x f ≡ state_only Done x.state x.page f.wear f.out

  -- it can erase cells and no more; what it was sent it may remember, and drive it back when it is asked to read
  abbrev pub AsItWas : List ℕ → List ℕ → Type 0
  AsItWas xs ys = (k : ℕ) → (get_or ys k 0 ≡ get_or xs k 0) ⊎ (get_or ys k 0 ≡ FF)

  abbrev pub OnlyReplays : Type 0
  OnlyReplays =
      ((seen : List Call) (rec : Record) (x : Chip) (us : ℕ) → AsItWas x.cells (p.wait seen rec x us).chip.cells)
      × ((seen : List Call) (rec : Record) (x : Chip) (pattern : List ℕ) → AsItWas x.cells (p.cut seen rec x pattern).chip.cells)

  -- it counts no erase
  abbrev pub NeverCounts : Type 0
  NeverCounts = (seen : List Call) (rec : Record) (x : Chip) (f : Sent) → (p.frame seen rec x f).wear ≡ f.wear

-- the four of 01 fall, the one that replays, and the one that does not count
pub record Worthless : Type 0 where
  pub refuses-all : (p : Pod) → RefusesAll p → WinsBack p → ⊥
  pub same_byte : (p : Pod) (b : ℕ) → SameByte p b → WinsBack p → ⊥
  pub keeps-cells : (p : Pod) → KeepsCells p → WinsBack p → ⊥
  pub only-once : (p : Pod) → OnlyOnce p → WinsBack p → ⊥
  pub only-replays : (p : Pod) → OnlyReplays p → WinsBack p → ⊥
  pub never-counts : (p : Pod) → NeverCounts p → WinsBack p → ⊥
