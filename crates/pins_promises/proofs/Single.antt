-- A sample changes at most one byte, and no contract has a second answer.
use mathlib.Core.Path.{◌≡◌, refl, sym, ap, ◌∙◌}
use mathlib.Core.Bool.{Bool, true, false, ◌&&◌}
use mathlib.Core.List.{List}
use Prim.Native.Nat.{ℕ}
use lib.Dec.{ltb}
use lib.ListN.{length, get_or}
use lib.Seq.{get_or-set_other}
use Rattle.pins.specs.declared.Front.{Front}
use Rattle.pins.specs.declared.Stepped.{Stepped}
use Rattle.pins_run.specs.declared.Ran.{Ran}
use Rattle.pins.specs.Pins.{Told, select_of, frame_limit, front_ok, Sampled, takes_bit, clocked_of, bit_taken, step_of, stepped_of}
use Rattle.pins_promises.specs.Promises.{OneByte, OneSensed, OneCaptured}
use Rattle.pins.proofs.Table.{step-high, step-fall, step-rise, step-low, step-length}

-- ---- one byte
clocked-other : (f : Front) (l : ℕ) (buffer : List ℕ) (k : ℕ) → (k ≡ f.bytes → ⊥) → get_or (clocked_of f l buffer).buffer k 0 ≡ get_or buffer k 0
unfolding clocked_of bit_taken
clocked-other f l buffer k n = go (takes_bit f l) refl (ltb f.bits 7) refl (ltb f.bytes frame_limit && ltb f.bytes (length buffer)) refl
  where
    go : (a : Bool) → takes_bit f l ≡ a → (b : Bool) → ltb f.bits 7 ≡ b → (c : Bool) → (ltb f.bytes frame_limit && ltb f.bytes (length buffer)) ≡ c → get_or (clocked_of f l buffer).buffer k 0 ≡ get_or buffer k 0
    go false p b q c r = rw p
    go true p true q c r = rw (p, q)
    go true p false q true r = rw (p, q, r) (get_or-set_other buffer f.bytes k _ 0 n)
    go true p false q false r = rw (p, q, r)

step_other : (f : Front) (l : ℕ) (buffer : List ℕ) (k : ℕ) → (k ≡ f.bytes → ⊥) → get_or (step_of f l buffer).buffer k 0 ≡ get_or buffer k 0
step_other f l buffer k n = go f.select refl (select_of l) refl
  where
    on : (e : Sampled) → step_of f l buffer ≡ e → get_or e.buffer k 0 ≡ get_or buffer k 0 → get_or (step_of f l buffer).buffer k 0 ≡ get_or buffer k 0
    on e p h = ap (λ (x : Sampled). get_or x.buffer k 0) p ∙ h

    go : (a : Bool) → f.select ≡ a → (b : Bool) → select_of l ≡ b → get_or (step_of f l buffer).buffer k 0 ≡ get_or buffer k 0
    go true p true q = on _ (step-high f l buffer p q) refl
    go true p false q = on _ (step-fall f l buffer p q) refl
    go false p true q = on _ (step-rise f l buffer p q) refl
    go false p false q = on _ (step-low f l buffer p q) (clocked-other f l buffer k n)

pub one_byte : OneByte
unfolding stepped_of
one_byte f l buffer = go (front_ok f) refl
  where
    go : (t : Bool) → front_ok f ≡ t → (length (stepped_of f l buffer).buffer ≡ length buffer) × ((k : ℕ) → (k ≡ f.bytes → ⊥) → get_or (stepped_of f l buffer).buffer k 0 ≡ get_or buffer k 0)
    go true p = rw p (step-length f l buffer, step_other f l buffer)
    go false p = rw p (refl, λ k n. refl)

-- ---- no second answer
abbrev stepped : Front → Told → Stepped
stepped f t = record { front = f; told = t }

abbrev ran : Front → Told → ℕ → Ran
ran f t n = record { front = f; told = t; used = n }

pub one-sensed : OneSensed
one-sensed e r t xs ys p q =
    (ap (λ (x : Front). stepped x r.told) (p.front-is ∙ sym q.front-is) ∙ ap (λ (x : Told). stepped t.front x) (p.told_is ∙ sym q.told_is), p.buffer-is ∙ sym q.buffer-is)

pub one-captured : OneCaptured
one-captured e r t xs ys p q = (
  ap (λ (x : Front). ran x r.told r.used) (p.front-is ∙ sym q.front-is) ∙ ap (λ (x : Told). ran t.front x r.used) (p.told_is ∙ sym q.told_is)
      ∙ ap (λ (x : ℕ). ran t.front t.told x) (p.used-is ∙ sym q.used-is),
  p.buffer-is ∙ sym q.buffer-is,
)
