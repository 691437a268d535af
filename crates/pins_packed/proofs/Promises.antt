-- The promises of specs/Promises.antt.
use mathlib.Core.Path.{◌≡◌, refl, sym, ap, ◌∙◌}
use mathlib.Core.Bool.{true, false}
use mathlib.Core.List.{List}
use Prim.Native.Nat.{ℕ}
use Rattle.answers.specs.declared.Refusal.TheVariants.{BadState}
use Rattle.pins.proofs.Choices.{on-true, on-false}
use Rattle.pins.specs.Pins.{Told, refused, front_ok, step_of, Sound}
use Rattle.pins.proofs.Table.{sound, ok, step-sound}
use Rattle.pins_run.specs.Runs.{run_of}
use Rattle.pins_run.proofs.Going.{run_sound}
use Rattle.pins_packed.specs.declared.Probe.{Probe}
use Rattle.pins_packed.specs.Fronts.{front_packed, front_in, is_front, Probed, probed, sample_of, samples_of}
use Rattle.pins_packed.specs.Promises.{UnpacksFront, PacksFront, StartsIdle, RefusesFront, CarriesFront, OneProbed}
use Rattle.pins_packed.proofs.Fronts.{parts, read-pack, packed-front, pack-read}

-- ---- a sample and a run on the eight bytes
module _ (xs : List ℕ) (l : ℕ) (ls b : List ℕ) where
  sample-wrong : is_front xs ≡ false → sample_of xs l b ≡ probed xs (refused BadState) b 0
  unfolding sample_of
  sample-wrong w = on-false (is_front xs) _ _ w

  sample-right : is_front xs ≡ true → sample_of xs l b ≡ probed (front_packed (step_of (front_in xs) l b).front) (step_of (front_in xs) l b).told (step_of (front_in xs) l b).buffer 1
  unfolding sample_of
  sample-right w = on-true (is_front xs) _ _ w

  samples-wrong : is_front xs ≡ false → samples_of xs ls b ≡ probed xs (refused BadState) b 0
  unfolding samples_of
  samples-wrong w = on-false (is_front xs) _ _ w

  samples-right : is_front xs ≡ true → samples_of xs ls b ≡ probed (front_packed (run_of (front_in xs) ls b).front) (run_of (front_in xs) ls b).told (run_of (front_in xs) ls b).buffer (run_of (front_in xs) ls b).used
  unfolding samples_of
  samples-right w = on-true (is_front xs) _ _ w

-- ---- the promises
pub unpacks-front : UnpacksFront
unpacks-front f k = let e : front_in (front_packed f) ≡ f = read-pack f (sound f k) in (packed-front f k e, e)

pub packs-front : PacksFront
packs-front xs w k = pack-read xs w (parts xs k)

pub starts-idle : StartsIdle
unfolding is_front front_in front_ok
starts-idle = (refl, refl)

pub refuses-front : RefusesFront
refuses-front xs l ls b w = (sample-wrong xs l ls b w, samples-wrong xs l ls b w)

pub carries-front : CarriesFront
carries-front xs l ls b w =
    let s : Sound (front_in xs) = sound (front_in xs) (parts xs w).right in
    let one = unpacks-front (step_of (front_in xs) l b).front (ok _ (step-sound (front_in xs) l b s)) in
    let all = unpacks-front (run_of (front_in xs) ls b).front (ok _ (run_sound 0 (front_in xs) ls b s)) in
    let e = ap (λ (c : Probed). c.front) (sample-right xs l ls b w) in
    let g = ap (λ (c : Probed). c.front) (samples-right xs l ls b w) in
    (ap is_front e ∙ one.0, ap front_in e ∙ one.1, ap is_front g ∙ all.0, ap front_in g ∙ all.1)

abbrev probe : Told → ℕ → Probe
probe t n = record { told = t; used = n }

pub one-probed : OneProbed
one-probed c r t front front' frame frame' p q = (
  ap (λ (x : Told). probe x r.used) (p.told_is ∙ sym q.told_is) ∙ ap (λ (n : ℕ). probe t.told n) (p.used-is ∙ sym q.used-is),
  p.front-is ∙ sym q.front-is,
  p.frame_is ∙ sym q.frame_is,
)
