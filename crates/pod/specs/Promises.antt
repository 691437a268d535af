-- What is shown of the calls; proofs/Promises.antt proves each under its name in small letters.
use Rattle.std.specs.Prelude.{true, false, List, ◌⊎◌, ◌≡◌, ℕ, length}
use Rattle.models.specs.Models.{model_of}
use Rattle.ladder.specs.Ladder.{absent, sized}
use Rattle.states.specs.States.{state_ok, page_ok, chip_of}
use Rattle.states.specs.declared.Record.{Record}
use Rattle.states.specs.declared.State.{State}
use Rattle.effects.specs.Effects.{latched}
use Rattle.chip.specs.Frames.{Sent, frame_of}
use Rattle.time.specs.Time.{wait_of, power_of, power_cut_of}
use Rattle.packing.specs.Packing.{packed, page_in, unpack_of}
use Rattle.pod.specs.Calls.{chip_in, bytes_refusal, Called, Altered, Answered, Reported, Reports, reported, called_report, called, altered, answered, called_frame, called_wait, called_cut, called_cycle, Leaves, Alters, Answers}

-- ---- bytes that pack no state and page data valid under the record are refused, by the first of 1, 2 and 3 that applies; a frame has 24 before 3, and a power cycle no 2
abbrev pub NoPacking : Record → List ℕ → Type 0
NoPacking rec xs = (s : State) (page : List ℕ) → state_ok rec s ≡ true → page_ok rec.model s page ≡ true → xs ≡ packed s page → ⊥

abbrev pub FrameRefusesBytes : Type 0
FrameRefusesBytes =
    (rec : Record) (xs cells : List ℕ) (f : Sent) → NoPacking rec xs → called_frame rec xs cells f ≡ called (bytes_refusal rec (sized (length cells)) (sized (length f.wear))) xs f.wear f.out 0 0 0

abbrev pub WaitRefusesBytes : Type 0
WaitRefusesBytes = (rec : Record) (xs cells : List ℕ) (us : ℕ) → NoPacking rec xs → called_wait rec xs cells us ≡ altered (bytes_refusal rec (sized (length cells)) absent) xs cells

abbrev pub CutRefusesBytes : Type 0
CutRefusesBytes = (rec : Record) (xs cells pattern : List ℕ) → NoPacking rec xs → called_cut rec xs cells pattern ≡ altered (bytes_refusal rec (sized (length cells)) absent) xs cells

abbrev pub CycleRefusesBytes : Type 0
CycleRefusesBytes = (rec : Record) (xs : List ℕ) → NoPacking rec xs → called_cycle rec xs ≡ answered (bytes_refusal rec absent absent) xs

-- ---- a refused call leaves everything as it was, and *from, *count and *fold 0; but on model 3 the answer 17 clears WEL in the state bytes
abbrev pub RefusedFrameStays : Type 0
RefusedFrameStays =
    (rec : Record) (xs cells : List ℕ) (f : Sent)
    → ((called_frame rec xs cells f).number ≡ 0 → ⊥)
    → ((model_of rec.model).latch_falls ≡ false) ⊎ ((called_frame rec xs cells f).number ≡ 17 → ⊥)
    → called_frame rec xs cells f ≡ called (called_frame rec xs cells f).number xs f.wear f.out 0 0 0

abbrev pub RefusedFrameClears : Type 0
RefusedFrameClears =
    (rec : Record) (xs cells : List ℕ) (f : Sent)
    → (model_of rec.model).latch_falls ≡ true
    → (called_frame rec xs cells f).number ≡ 17
    → called_frame rec xs cells f ≡ called 17 (packed (latched (unpack_of xs) false) (page_in xs)) f.wear f.out 0 0 0

abbrev pub RefusedWaitStays : Type 0
RefusedWaitStays =
    (rec : Record) (xs cells : List ℕ) (us : ℕ)
    → ((called_wait rec xs cells us).number ≡ 0 → ⊥)
    → called_wait rec xs cells us ≡ altered (called_wait rec xs cells us).number xs cells

abbrev pub RefusedCutStays : Type 0
RefusedCutStays =
    (rec : Record) (xs cells pattern : List ℕ)
    → ((called_cut rec xs cells pattern).number ≡ 0 → ⊥)
    → called_cut rec xs cells pattern ≡ altered (called_cut rec xs cells pattern).number xs cells

abbrev pub RefusedCycleStays : Type 0
RefusedCycleStays = (rec : Record) (xs : List ℕ) → ((called_cycle rec xs).number ≡ 0 → ⊥) → (called_cycle rec xs).state ≡ xs

-- ---- what the next call finds in the bytes is the state and the page data that the chip was left with, whatever the answer
abbrev pub FrameCarries : Type 0
FrameCarries =
    (rec : Record) (xs cells : List ℕ) (f : Sent)
    → chip_in (called_frame rec xs cells f).state cells ≡ chip_of (frame_of rec (chip_in xs cells) f).reply.state (frame_of rec (chip_in xs cells) f).page cells

abbrev pub WaitCarries : Type 0
WaitCarries =
    (rec : Record) (xs cells : List ℕ) (us : ℕ)
    → chip_in (called_wait rec xs cells us).state (called_wait rec xs cells us).cells ≡ (wait_of rec (chip_in xs cells) us).chip

abbrev pub CutCarries : Type 0
CutCarries =
    (rec : Record) (xs cells pattern : List ℕ)
    → chip_in (called_cut rec xs cells pattern).state (called_cut rec xs cells pattern).cells ≡ (power_cut_of rec (chip_in xs cells) pattern).chip

abbrev pub CycleCarries : Type 0
CycleCarries =
    (rec : Record) (xs cells : List ℕ)
    → chip_in (called_cycle rec xs).state cells ≡ chip_of (power_of rec (unpack_of xs) (page_in xs)).state (page_in xs) cells

-- ---- no second answer: two results of one call that satisfy the contract are equal in every part
abbrev pub OneCalled : Type 0
OneCalled =
    (c : Called) (n m : ℕ) (xs ys wear wear' out out' : List ℕ) (from from' count count' fold fold' : ℕ)
    → Leaves c n xs wear out from count fold
    → Leaves c m ys wear' out' from' count' fold'
    → called n xs wear out from count fold ≡ called m ys wear' out' from' count' fold'

abbrev pub OneAltered : Type 0
OneAltered = (c : Altered) (n m : ℕ) (xs ys cells cells' : List ℕ) → Alters c n xs cells → Alters c m ys cells' → altered n xs cells ≡ altered m ys cells'

abbrev pub OneAnswered : Type 0
OneAnswered = (c : Answered) (n m : ℕ) (xs ys : List ℕ) → Answers c n xs → Answers c m ys → answered n xs ≡ answered m ys

-- of a report, whose places are one after the other
abbrev pub OneReported : Type 0
OneReported =
    (c : Reported) (n m a a' b b' d d' e e' f f' g g' : ℕ) → Reports c n a b d e f g → Reports c m a' b' d' e' f' g'
    → reported n a b d e f g ≡ reported m a' b' d' e' f' g'

-- a refused report leaves its places as they were
abbrev pub RefusedReportStays : Type 0
RefusedReportStays =
    (wear : List ℕ) (a b d e f g : ℕ) → ((called_report wear a b d e f g).number ≡ 0 → ⊥) → called_report wear a b d e f g ≡ reported 24 a b d e f g
