-- What is shown of the pins (Req 07), the promises of its page in their order; proofs/ proves each under its name in small letters.
use Rattle.std.specs.Prelude.{Bool, true, false, cond, List, [], ◌∷◌, ◌++◌, ◌≡◌, ℕ, ◌+◌, ◌%◌, ◌≤◌, ◌<◌, length, get_or, Err}
use Rattle.answers.specs.declared.Refusal.TheVariants.{BadFrame, InHold}
use Rattle.answers.specs.Answers.{Done}
use Rattle.parts.specs.Parts.{Bytes, lay}
use Rattle.pins.specs.declared.Front.{Front}
use Rattle.pins.specs.declared.Stepped.{Stepped}
use Rattle.pins.specs.Pins.{clock_of, wp_of, is_held, frame_limit, Told, silent, refused, handed, answer_of, told_by, is_ready, no_frame, frame_told, idle, Sampled, stepped_of, Senses}
use Rattle.pins_run.specs.declared.Ran.{Ran}
use Rattle.pins_run.specs.Runs.{Captured, ran_to, ends, run_of, ran_of, Captures}
use Rattle.pins_promises.specs.Samples.{FallToRise, none_held, last_held, unheld, deselected, bits_at, whole_of, byte_bits, AreBits, samples_for}

-- ---- 1: at most one byte of the buffer changes in a sample, the one at the place of the whole bytes so far; the rest of it is the contract of `pins::step`
abbrev pub OneByte : Type 0
OneByte = (f : Front) (l : ℕ) (buffer : List ℕ) → (length (stepped_of f l buffer).buffer ≡ length buffer)
    × ((k : ℕ) → (k ≡ f.bytes → ⊥) → get_or (stepped_of f l buffer).buffer k 0 ≡ get_or buffer k 0)

-- ---- 2: from a fall to the next rise, none held, what is handed over is the bits at the rising clocks, as whole bytes and tail, with the fall's WP#
abbrev pub HandsOver : Type 0
HandsOver = (f : Front) (fall : ℕ) (between : List ℕ) (rise : ℕ) (rest buffer : List ℕ)
    → FallToRise f fall between rise → none_held f.held (fall ∷ between) ≡ true
    → length (whole_of (bits_at (clock_of fall) between)) ≤ frame_limit → length (whole_of (bits_at (clock_of fall) between)) ≤ length buffer
    → run_of f (fall ∷ (between ++ (rise ∷ rest))) buffer
    ≡ ran_to (length between + 2) (idle rise (is_held false rise)) (handed (length (whole_of (bits_at (clock_of fall) between))) (length (bits_at (clock_of fall) between) % 8) (wp_of fall))
    (lay buffer 0 (whole_of (bits_at (clock_of fall) between)))

-- those that do not fit are answered 4
abbrev pub Outgrows : Type 0
Outgrows = (f : Front) (fall : ℕ) (between : List ℕ) (rise : ℕ) (rest buffer : List ℕ)
    → FallToRise f fall between rise → none_held f.held (fall ∷ between) ≡ true
    → (length (whole_of (bits_at (clock_of fall) between)) ≤ frame_limit → length (whole_of (bits_at (clock_of fall) between)) ≤ length buffer → ⊥)
    → (run_of f (fall ∷ (between ++ (rise ∷ rest))) buffer).told ≡ refused BadFrame

-- and whole bytes with fewer than eight bits more are the bytes: `whole_of` is what it says
abbrev pub SpellsBytes : Type 0
SpellsBytes = (bytes tail : List ℕ) → Bytes bytes → length tail < 8 → (whole_of (byte_bits bytes ++ tail) ≡ bytes) × (length (byte_bits bytes ++ tail) % 8 ≡ length tail)

-- for every frame there are such samples, two a bit
abbrev pub InReach : Type 0
InReach = (f : Front) (bytes tail : List ℕ) (wp : Bool) (buffer : List ℕ)
    → f.select ≡ true → Bytes bytes → AreBits tail → length tail < 8 → length bytes ≤ frame_limit → length bytes ≤ length buffer
    → run_of f (samples_for bytes tail wp) buffer
    ≡ ran_to (length (samples_for bytes tail wp)) (idle 17 false) (handed (length bytes) (length tail) wp) (lay buffer 0 bytes)

-- ---- 3: held samples after the fall may be taken out, where the fall is not held and the last of them is not
pub record SameEnd (r r' : Captured) : Type 0 where
  pub front-is : r.front ≡ r'.front
  pub told_is : r.told ≡ r'.told
  pub buffer-is : r.buffer ≡ r'.buffer

abbrev pub TakenOut : Type 0
TakenOut = (f : Front) (fall : ℕ) (between : List ℕ) (rise : ℕ) (rest buffer : List ℕ)
    → FallToRise f fall between rise → is_held f.held fall ≡ false → last_held false between ≡ false
    → SameEnd (run_of f (fall ∷ (between ++ (rise ∷ rest))) buffer) (run_of f (fall ∷ (unheld false between ++ (rise ∷ rest))) buffer)

-- what is left is such samples, none held
abbrev pub NoHoldLeft : Type 0
NoHoldLeft = (f : Front) (fall : ℕ) (between : List ℕ) (rise : ℕ) → FallToRise f fall between rise → is_held f.held fall ≡ false
    → FallToRise f fall (unheld false between) rise × (none_held f.held (fall ∷ unheld false between) ≡ true)

-- ---- 4: a run, cut anywhere
abbrev pub plus : ℕ → Captured → Captured
plus n r = ran_to (n + r.used) r.front r.told r.buffer

abbrev pub CutAnywhere : Type 0
CutAnywhere = (f : Front) (xs ys buffer : List ℕ)
    → ran_of f (xs ++ ys) buffer
    ≡ cond (ends (ran_of f xs buffer).told) (ran_of f xs buffer) (plus (ran_of f xs buffer).used (ran_of (ran_of f xs buffer).front ys (ran_of f xs buffer).buffer))

-- nothing is told but the answer: no frame is handed over, and what is told of one, its bytes, tail and WP#, is zeros
pub record AnswersAlone (t : Told) : Type 0 where
  pub alone : t ≡ told_by (answer_of t) silent
  pub none : is_ready t ≡ false
  pub zeros : frame_told t ≡ no_frame

-- ---- 5: dropped is dropped. A run that is refused tells its answer and nothing else; and after a rise, 34 and 4 among the answers, the front is as if CS# had stayed high
abbrev pub Dropped : Type 0
Dropped = (f : Front) (fall : ℕ) (between : List ℕ) (rise : ℕ) (rest buffer : List ℕ)
    → FallToRise f fall between rise
    → ((answer_of (run_of f (fall ∷ (between ++ (rise ∷ rest))) buffer).told ≡ Done → ⊥)
    → AnswersAlone (run_of f (fall ∷ (between ++ (rise ∷ rest))) buffer).told)
    × ((run_of f (fall ∷ (between ++ (rise ∷ rest))) buffer).front ≡ (run_of f (deselected (fall ∷ (between ++ (rise ∷ [])))) buffer).front)

-- 34 exactly if the last sample before the rise is held
abbrev pub RefusesHeld : Type 0
RefusesHeld = (f : Front) (fall : ℕ) (between : List ℕ) (rise : ℕ) (rest buffer : List ℕ)
    → FallToRise f fall between rise
    → (last_held f.held (fall ∷ between) ≡ true → (run_of f (fall ∷ (between ++ (rise ∷ rest))) buffer).told ≡ refused InHold)
    × (answer_of (run_of f (fall ∷ (between ++ (rise ∷ rest))) buffer).told ≡ Err InHold → last_held f.held (fall ∷ between) ≡ true)

-- where no frame is handed over nothing but the answer is told, and a frame that is handed over is answered 0
pub record TellsOneThing (t : Told) : Type 0 where
  pub no-frame : is_ready t ≡ false → AnswersAlone t
  pub a-frame : is_ready t ≡ true → answer_of t ≡ Done

abbrev pub OneThing : Type 0
OneThing = (f : Front) (l : ℕ) (ls buffer : List ℕ) → TellsOneThing (stepped_of f l buffer).told × TellsOneThing (ran_of f ls buffer).told

-- ---- no second answer: two results that satisfy a contract are equal in every part
abbrev pub OneSensed : Type 0
OneSensed = (e : Sampled) (r t : Stepped) (xs ys : List ℕ) → Senses e r xs → Senses e t ys → (r ≡ t) × (xs ≡ ys)

abbrev pub OneCaptured : Type 0
OneCaptured = (e : Captured) (r t : Ran) (xs ys : List ℕ) → Captures e r xs → Captures e t ys → (r ≡ t) × (xs ≡ ys)
