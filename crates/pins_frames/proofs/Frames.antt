-- The promises of specs/Frames.antt.
use mathlib.Core.Path.{◌≡◌, sym, ap, subst, ◌∙◌}
use mathlib.Core.Bool.{Bool, true, false}
use mathlib.Core.List.{List, ◌∷◌, ◌++◌}
use Prim.Native.Nat.{ℕ, zero, suc, ◌+◌, ◌%◌, ◌≤◌, ◌<◌}
use native.Mathlib.Omega.{arith}
use lib.ListN.{length, take, drop, get_or, replicate, length-replicate}
use lib.Seq.{take-append_seam}
use Rattle.parts.specs.Parts.{lay}
use Rattle.states.specs.States.{Chip}
use Rattle.states.specs.declared.Record.{Record}
use Rattle.chip.specs.Frames.{Sent, sent_of, frame_of}
use Rattle.pins.specs.Pins.{Told, is_ready, frame_told, clock_of, wp_of, frame_limit, handed}
use Rattle.pins_run.specs.Runs.{Captured, run_of}
use Rattle.pins_promises.specs.Samples.{unheld, bits_at, whole_of, samples_for}
use Rattle.pins_promises.proofs.Handed.{hands-over}
use Rattle.pins_promises.proofs.Reach.{spells-bytes, in_reach}
use Rattle.pins_promises.proofs.Out.{taken_out, no-hold-left}
use Rattle.pins_frames.specs.Frames.{handed_over, SampledFrame, HeldFrame, EveryFrame}

-- ---- the head of the buffer
head-laid : (buffer ys : List ℕ) → take (length ys) (lay buffer 0 ys) ≡ ys
unfolding lay
head-laid buffer ys = take-append_seam ys (drop (0 + length ys) buffer)

-- ---- a run that hands the frame s over
abbrev given : Told → List ℕ → Sent → Sent
given t b s = sent_of (take (frame_told t).bytes b) (frame_told t).tail (frame_told t).wp s.strict s.wear s.out

same_sent : (s : Sent) (t : Told) (b buffer : List ℕ) → t ≡ handed (length s.bytes) s.tail s.wp → b ≡ lay buffer 0 s.bytes → given t b s ≡ s
same_sent s t b buffer e k =
    ap (λ (u : Told). given u b s) e ∙ ap (λ (ys : List ℕ). given (handed (length s.bytes) s.tail s.wp) ys s) k
    ∙ ap (λ (ys : List ℕ). sent_of ys s.tail s.wp s.strict s.wear s.out) (head-laid buffer s.bytes)

module _ (rec : Record) (x : Chip) (s : Sent) (buffer : List ℕ) where
  abbrev Alike : Captured → Type 0
  Alike r = (is_ready r.told ≡ true) × (frame_of rec x (handed_over r s) ≡ frame_of rec x s)

  alike : (r : Captured) → r.told ≡ handed (length s.bytes) s.tail s.wp → r.buffer ≡ lay buffer 0 s.bytes → Alike r
  alike r e k = (ap is_ready e, ap (λ (f : Sent). frame_of rec x f) (same_sent s r.told r.buffer buffer e k))

-- ---- the promises
pub sampled-frame : SampledFrame
sampled-frame rec x s f fall between rise rest buffer w none e fits =
    let bits : List ℕ = bits_at (clock_of fall) between in
    let k = spells-bytes s.bytes e.tail fits.bytes (subst (λ (n : ℕ). n < 8) (sym e.long) fits.few) in
    let whole : whole_of bits ≡ s.bytes = ap whole_of e.sent ∙ k.0 in
    let count : length (whole_of bits) ≡ length s.bytes = ap length whole in
    let tail : length bits % 8 ≡ s.tail = ap (λ (ys : List ℕ). length ys % 8) e.sent ∙ k.1 ∙ e.long in
    let r = hands-over f fall between rise rest buffer w none (subst (λ (n : ℕ). n ≤ frame_limit) (sym count) fits.short) (subst (λ (n : ℕ). n ≤ length buffer) (sym count) fits.room) in
    alike rec x s buffer (run_of f (fall ∷ (between ++ (rise ∷ rest))) buffer)
    (ap (λ (c : Captured). c.told) r ∙ ap (λ (n : ℕ). handed n (length bits % 8) (wp_of fall)) count ∙ ap (λ (n : ℕ). handed (length s.bytes) n (wp_of fall)) tail
    ∙ ap (λ (b : Bool). handed (length s.bytes) s.tail b) e.level)
    (ap (λ (c : Captured). c.buffer) r ∙ ap (lay buffer 0) whole)

pub held-frame : HeldFrame
held-frame rec x s f fall between rise rest buffer w nh last e fits =
    let left = no-hold-left f fall between rise w nh in
    let same = taken_out f fall between rise rest buffer w nh last in
    let k = sampled-frame rec x s f fall (unheld false between) rise rest buffer left.0 left.1 e fits in (
      ap is_ready same.told_is ∙ k.0,
      ap (λ (t : Told). frame_of rec x (given t (run_of f (fall ∷ (between ++ (rise ∷ rest))) buffer).buffer s)) same.told_is
          ∙ ap (λ (b : List ℕ). frame_of rec x (given (run_of f (fall ∷ (unheld false between ++ (rise ∷ rest))) buffer).told b s)) same.buffer-is ∙ k.1,
    )

zeros-below : (n k : ℕ) → get_or (replicate n 0) k 0 < 2
zeros-below zero k = omega arith
zeros-below (suc n) zero = omega arith
zeros-below (suc n) (suc k) = zeros-below n k

pub every-frame : EveryFrame
every-frame rec x s f buffer p fits =
    let tail : List ℕ = replicate s.tail 0 in
    let long : length tail ≡ s.tail = length-replicate s.tail 0 in
    let r = in_reach f s.bytes tail s.wp buffer p fits.bytes (record { below = zeros-below s.tail }) (subst (λ (n : ℕ). n < 8) (sym long) fits.few) fits.short fits.room in
    alike rec x s buffer (run_of f (samples_for s.bytes tail s.wp) buffer)
    (ap (λ (c : Captured). c.told) r ∙ ap (λ (n : ℕ). handed (length s.bytes) n s.wp) long)
    (ap (λ (c : Captured). c.buffer) r)
