-- The pins (Req 07): what one sample of levels does (holds: 000 L133-143; bits on the rising clock: 000 L186; WP# and other edges where CS# moves: house).
use Rattle.std.specs.Prelude.{Bool, true, false, not, ◌&&◌, ◌||◌, cond, List, [], ◌∷◌, ◌≡◌, ℕ, ◌+◌, ◌*◌, ◌/◌, ◌%◌, ◌^◌, ◌<◌, ◌≤◌, eqb, leb, ltb, length, set, Option, Some, None, Result, Ok, Err}
use Rattle.answers.specs.declared.Refusal.{Refusal}
use Rattle.answers.specs.declared.Refusal.TheVariants.{BadState, BadFrame, InHold}
use Rattle.answers.specs.Answers.{Answer, Done}
use Rattle.answers.specs.Tables.{Rung, ◌gives◌, first_of}
use Rattle.pins.specs.declared.Frame.{Frame}
use Rattle.pins.specs.declared.Front.{Front}
use Rattle.pins.specs.declared.Stepped.{Stepped}

-- ---- the levels of a sample: bit 0 CS#, 1 SCLK, 2 SI, 3 WP#, 4 HOLD#; SI as the bit that it sends
abbrev pub select_of : ℕ → Bool
select_of l = eqb (l % 2) 1

abbrev pub clock_of : ℕ → Bool
clock_of l = eqb (l / 2 % 2) 1

abbrev pub si_of : ℕ → ℕ
si_of l = l / 4 % 2

abbrev pub wp_of : ℕ → Bool
wp_of l = eqb (l / 8 % 2) 1

abbrev pub hold_of : ℕ → Bool
hold_of l = eqb (l / 16 % 2) 1

-- SCLK low: held exactly if HOLD# is low; SCLK high: as the sample before (house)
abbrev pub is_held : Bool → ℕ → Bool
is_held before l = cond (clock_of l) before (not (hold_of l))

-- no frame has more whole bytes (01)
abbrev pub frame_limit : ℕ
frame_limit = 65541

-- ---- the fronts that samples lead to: bits of a byte begun and their value, at most 65,541 whole bytes; with CS# high nothing but the levels, and of a frame that
-- has outgrown nothing but WP#
unfoldable pub front_ok : Front → Bool
front_ok f =
    leb f.bits 7 && (ltb f.value (2 ^ f.bits) && (leb f.bytes frame_limit
    && ((not f.select || (not f.wp && not f.outgrown))
    && (not (f.select || f.outgrown) || (eqb f.bits 0 && eqb f.bytes 0)))))

-- the same as facts
pub record Sound (f : Front) : Type 0 where
  pub few : f.bits ≤ 7
  pub short : f.value < 2 ^ f.bits
  pub most_bytes : f.bytes ≤ frame_limit
  pub high-wp : f.select ≡ true → f.wp ≡ false
  pub high-out : f.select ≡ true → f.outgrown ≡ false
  pub high-none : f.select ≡ true → (f.bits ≡ 0) × (f.bytes ≡ 0)
  pub out_none : f.outgrown ≡ true → (f.bits ≡ 0) × (f.bytes ≡ 0)

-- ---- what is told of a sample: nothing, a refusal alone, or a frame of so many whole bytes, tail bits and that WP#
abbrev pub Told : Type 0
Told = Result (Option Frame) Refusal

abbrev pub silent : Told
silent = Ok None

abbrev pub refused : Refusal → Told
refused r = Err r

abbrev pub handed : ℕ → ℕ → Bool → Told
handed bytes tail wp = Ok (Some (record { bytes = bytes; tail = tail; wp = wp }))

-- its answer; what is told where that is the answer, t if nothing is refused
abbrev pub answer_of : Told → Answer
answer_of (Ok x) = Done
answer_of (Err r) = Err r

abbrev pub told_by : Answer → Told → Told
told_by (Ok x) t = t
told_by (Err r) t = refused r

-- whether a frame is handed over, and that frame; where none is, zeros
abbrev pub is_ready : Told → Bool
is_ready (Ok (Some f)) = true
is_ready (Ok None) = false
is_ready (Err r) = false

abbrev pub no_frame : Frame
no_frame = record { bytes = 0; tail = 0; wp = false }

abbrev pub frame_told : Told → Frame
frame_told (Ok (Some f)) = f
frame_told (Ok None) = no_frame
frame_told (Err r) = no_frame

-- ---- the front after a sample
abbrev pub idle : ℕ → Bool → Front
idle l held = record { select = true; clock = clock_of l; held = held; wp = false; outgrown = false; bits = 0; value = 0; bytes = 0 }

abbrev pub in_frame : Bool → ℕ → Bool → Bool → ℕ → ℕ → ℕ → Front
in_frame wp l held outgrown bits value bytes =
    record { select = false; clock = clock_of l; held = held; wp = wp; outgrown = outgrown; bits = bits; value = value; bytes = bytes }

-- a frame begins: no byte, no bit
abbrev pub fallen : ℕ → Bool → Front
fallen l held = in_frame (wp_of l) l held false 0 0 0

-- ---- a front, what is told, and the buffer
pub record Sampled : Type 0 where
  pub front : Front
  pub told : Told
  pub buffer : List ℕ

abbrev pub sampled : Front → Told → List ℕ → Sampled
sampled f t b = record { front = f; told = t; buffer = b }

-- ---- CS# rises: the refusals in their order, 34 if the sample before was held, 4 if the frame has outgrown or the buffer lent is shorter; or else the frame
abbrev pub rise_rows : Front → ℕ → List Rung
rise_rows f room = (f.held gives InHold) ∷ ((f.outgrown || ltb room f.bytes) gives BadFrame) ∷ []

unfoldable pub risen_of : Front → ℕ → Told
risen_of f room = told_by (first_of (rise_rows f room)) (handed f.bytes f.bits f.wp)

-- ---- a bit is taken, high bit first; the eighth makes a byte, which goes to its place where it fits, and otherwise the frame has outgrown
unfoldable pub bit_taken : Front → ℕ → List ℕ → Sampled
bit_taken f l buffer =
    let held = is_held f.held l in
    let value = 2 * f.value + si_of l in
    cond (ltb f.bits 7) (sampled (in_frame f.wp l held false (f.bits + 1) value f.bytes) silent buffer)
    (cond (ltb f.bytes frame_limit && ltb f.bytes (length buffer)) (sampled (in_frame f.wp l held false 0 0 (f.bytes + 1)) silent (set buffer f.bytes value))
    (sampled (in_frame f.wp l held true 0 0 0) silent buffer))

-- CS# stays low: a rising clock takes a bit, in a sample that is not held, of a frame that has not outgrown
abbrev pub takes_bit : Front → ℕ → Bool
takes_bit f l = not f.clock && (clock_of l && (not (is_held f.held l) && not f.outgrown))

unfoldable pub clocked_of : Front → ℕ → List ℕ → Sampled
clocked_of f l buffer =
    cond (takes_bit f l) (bit_taken f l buffer) (sampled (in_frame f.wp l (is_held f.held l) f.outgrown f.bits f.value f.bytes) silent buffer)

-- ---- the table: CS# before and now
unfoldable pub step_of : Front → ℕ → List ℕ → Sampled
step_of f l buffer =
    let held = is_held f.held l in
    cond f.select
    (cond (select_of l) (sampled (idle l held) silent buffer) (sampled (fallen l held) silent buffer))
    (cond (select_of l) (sampled (idle l held) (risen_of f (length buffer)) buffer) (clocked_of f l buffer))

-- a front that is not right: 3, and nothing changes
unfoldable pub stepped_of : Front → ℕ → List ℕ → Sampled
stepped_of f l buffer = cond (front_ok f) (step_of f l buffer) (sampled f (refused BadState) buffer)

-- ---- what a function's result and the buffer at exit have to be
pub record Senses (e : Sampled) (r : Stepped) (after : List ℕ) : Type 0 where
  pub front-is : r.front ≡ e.front
  pub told_is : r.told ≡ e.told
  pub buffer-is : after ≡ e.buffer

pub record Clocks (e : Sampled) (r : Front) (after : List ℕ) : Type 0 where
  pub front-is : r ≡ e.front
  pub buffer-is : after ≡ e.buffer
