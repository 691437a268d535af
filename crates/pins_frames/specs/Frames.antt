-- Sampled frames and the frame call (Req 07): the call on what samples hand over is the call on the frame that they send; proofs/Frames.antt proves each under its name in
-- small letters.
use Rattle.std.specs.Prelude.{true, false, List, ◌∷◌, ◌++◌, ◌≡◌, ℕ, ◌≤◌, ◌<◌, length, take, replicate}
use Rattle.parts.specs.Parts.{Bytes}
use Rattle.states.specs.States.{Chip}
use Rattle.states.specs.declared.Record.{Record}
use Rattle.chip.specs.Frames.{Sent, sent_of, frame_of}
use Rattle.pins.specs.declared.Front.{Front}
use Rattle.pins.specs.Pins.{clock_of, wp_of, is_held, frame_limit, is_ready, frame_told}
use Rattle.pins_run.specs.Runs.{Captured, run_of}
use Rattle.pins_promises.specs.Samples.{FallToRise, none_held, last_held, unheld, bits_at, byte_bits, samples_for}

-- what a run hands over, as the frame call takes it: the whole bytes at the head of the buffer, the tail bits and WP#. The strict setting, the wear table and the output are
-- the caller's, here those of s
abbrev pub handed_over : Captured → Sent → Sent
handed_over r s = sent_of (take (frame_told r.told).bytes r.buffer) (frame_told r.told).tail (frame_told r.told).wp s.strict s.wear s.out

-- the bits are those of the frame's bytes and of its tail, and the WP# level is the fall's
pub record Sends (s : Sent) (fall : ℕ) (bits : List ℕ) : Type 0 where
  pub tail : List ℕ
  pub sent : bits ≡ byte_bits s.bytes ++ tail
  pub long : length tail ≡ s.tail
  pub level : wp_of fall ≡ s.wp

-- a frame that a front can hand over: bytes, at most 65,541 of them and as many as the buffer has places, and at most seven tail bits
pub record Fits (s : Sent) (buffer : List ℕ) : Type 0 where
  pub bytes : Bytes s.bytes
  pub short : length s.bytes ≤ frame_limit
  pub room : length s.bytes ≤ length buffer
  pub few : s.tail < 8

-- ---- a sampled frame that fits and has no hold gives just what the frame call gives
abbrev pub SampledFrame : Type 0
SampledFrame = (rec : Record) (x : Chip) (s : Sent) (f : Front) (fall : ℕ) (between : List ℕ) (rise : ℕ) (rest buffer : List ℕ)
    → FallToRise f fall between rise → none_held f.held (fall ∷ between) ≡ true
    → Sends s fall (bits_at (clock_of fall) between) → Fits s buffer
    → (is_ready (run_of f (fall ∷ (between ++ (rise ∷ rest))) buffer).told ≡ true)
    × (frame_of rec x (handed_over (run_of f (fall ∷ (between ++ (rise ∷ rest))) buffer) s) ≡ frame_of rec x s)

-- ---- with holds that begin after the fall and end before the rise, what it gives without the held samples
abbrev pub HeldFrame : Type 0
HeldFrame = (rec : Record) (x : Chip) (s : Sent) (f : Front) (fall : ℕ) (between : List ℕ) (rise : ℕ) (rest buffer : List ℕ)
    → FallToRise f fall between rise → is_held f.held fall ≡ false → last_held false between ≡ false
    → Sends s fall (bits_at (clock_of fall) (unheld false between)) → Fits s buffer
    → (is_ready (run_of f (fall ∷ (between ++ (rise ∷ rest))) buffer).told ≡ true)
    × (frame_of rec x (handed_over (run_of f (fall ∷ (between ++ (rise ∷ rest))) buffer) s) ≡ frame_of rec x s)

-- ---- nothing is out of reach: every frame that fits is sent by samples, two a bit, the tail's bits 0
abbrev pub EveryFrame : Type 0
EveryFrame = (rec : Record) (x : Chip) (s : Sent) (f : Front) (buffer : List ℕ) → f.select ≡ true → Fits s buffer
    → (is_ready (run_of f (samples_for s.bytes (replicate s.tail 0) s.wp) buffer).told ≡ true)
    × (frame_of rec x (handed_over (run_of f (samples_for s.bytes (replicate s.tail 0) s.wp) buffer) s) ≡ frame_of rec x s)
