-- Laws of one sample: the rows of the table, and that a front that is right stays so.
use mathlib.Core.Path.{◌≡◌, refl, sym, ap, subst, ◌∙◌}
use mathlib.Core.Bool.{Bool, true, false, not, ◌&&◌, ◌||◌, true≢false, false≢true}
use mathlib.Core.List.{List}
use Prim.Native.Nat.{ℕ, ◌+◌, ◌*◌, ◌%◌, ◌^◌, ◌≤◌, ◌<◌}
use native.Mathlib.Nat.{two-pow-succ}
use native.Mathlib.Numerals.{add-one}
use native.Mathlib.Omega.{arith}
use lib.Dec.{eqb, leb, ltb}
use lib.ListN.{length, length-set}
use lib.Pow.{pow_mono}
use borrow.Author.Tests.{not-true, ltb-true, leb-true, eqb-true, le-leb, lt-ltb}
use Rattle.units.proofs.Bools.{both}
use Rattle.pins.specs.declared.Front.{Front}
use Rattle.pins.specs.Pins.{select_of, si_of, wp_of, is_held, frame_limit, front_ok, Sound, silent, idle, in_frame, fallen, Sampled, sampled, risen_of, bit_taken, takes_bit, clocked_of, step_of}
use Rattle.pins.proofs.Choices.{on-true, on-false}

-- ---- powers of two
power : (n : ℕ) → n ≤ 7 → 2 ^ n ≤ 128
power n h = pow_mono h

pub shifted : (n : ℕ) → n ≤ 7 → 1 * 2 ^ n % 4294967296 ≡ 2 ^ n
shifted n h = let p : 2 ^ n ≤ 128 = power n h in omega arith

-- ---- the fronts that are right
or-true : (a b : Bool) → (not a || b) ≡ true → a ≡ true → b ≡ true
or-true true b e h = e
or-true false b e h = absurd (true≢false (sym h))

nothing : (a b : ℕ) → (eqb a 0 && eqb b 0) ≡ true → (a ≡ 0) × (b ≡ 0)
nothing a b e = let k = both (eqb a 0) (eqb b 0) e in (eqb-true a 0 k.0, eqb-true b 0 k.1)

pub sound : (f : Front) → front_ok f ≡ true → Sound f
unfolding front_ok
sound f e =
    let none = eqb f.bits 0 && eqb f.bytes 0 in
    let free = not f.wp && not f.outgrown in
    let k1 = both (leb f.bits 7) _ e in
    let k2 = both (ltb f.value (2 ^ f.bits)) _ k1.1 in
    let k3 = both (leb f.bytes frame_limit) _ k2.1 in
    let k4 = both (not f.select || free) _ k3.1 in
    let high : (f.select ≡ true → free ≡ true) = or-true f.select free k4.0 in
    let some : ((f.select || f.outgrown) ≡ true → none ≡ true) = or-true (f.select || f.outgrown) none k4.1 in
    record {
      few = leb-true f.bits 7 k1.0;
      short = ltb-true f.value (2 ^ f.bits) k2.0;
      most_bytes = leb-true f.bytes frame_limit k3.0;
      high-wp = λ h. not-true f.wp (both (not f.wp) (not f.outgrown) (high h)).0;
      high-out = λ h. not-true f.outgrown (both (not f.wp) (not f.outgrown) (high h)).1;
      high-none = λ h. nothing f.bits f.bytes (some (rw h refl));
      out_none = λ h. nothing f.bits f.bytes (some (or_right f.select f.outgrown h));
    }
  where
    or_right : (a b : Bool) → b ≡ true → (a || b) ≡ true
    or_right true b h = refl
    or_right false b h = h

pub ok : (f : Front) → Sound f → front_ok f ≡ true
unfolding front_ok
ok f s = rw (le-leb f.bits 7 s.few, lt-ltb f.value (2 ^ f.bits) s.short, le-leb f.bytes frame_limit s.most_bytes) (go f.select refl f.outgrown refl)
  where
    go : (a : Bool) → f.select ≡ a → (b : Bool) → f.outgrown ≡ b → ((not f.select || (not f.wp && not f.outgrown)) && (not (f.select || f.outgrown) || (eqb f.bits 0 && eqb f.bytes 0))) ≡ true
    go true p b q = rw (p, s.high-wp p, s.high-out p, (s.high-none p).0, (s.high-none p).1)
    go false p true q = rw (p, q, (s.out_none q).0, (s.out_none q).1)
    go false p false q = rw (p, q)

-- ---- a bit fits its byte
pub bit-fits : (f : Front) (l : ℕ) → Sound f → 2 * f.value + si_of l < 256
bit-fits f l s = let p : 2 ^ f.bits ≤ 128 = power f.bits s.few in omega (arith, s.short)

pub bit-short : (f : Front) (l : ℕ) → Sound f → 2 * f.value + si_of l < 2 ^ (f.bits + 1)
bit-short f l s = rw (add-one f.bits, two-pow-succ f.bits) (omega (arith, s.short))

-- ---- the table
pub clocked_silent : (f : Front) (l : ℕ) (buffer : List ℕ) → (clocked_of f l buffer).told ≡ silent
unfolding clocked_of bit_taken
clocked_silent f l buffer = go (takes_bit f l) refl (ltb f.bits 7) refl (ltb f.bytes frame_limit && ltb f.bytes (length buffer)) refl
  where
    go : (a : Bool) → takes_bit f l ≡ a → (b : Bool) → ltb f.bits 7 ≡ b → (c : Bool) → (ltb f.bytes frame_limit && ltb f.bytes (length buffer)) ≡ c → (clocked_of f l buffer).told ≡ silent
    go false p b q c r = rw p
    go true p true q c r = rw (p, q)
    go true p false q true r = rw (p, q, r)
    go true p false q false r = rw (p, q, r)

module _ (f : Front) (l : ℕ) (buffer : List ℕ) where
  abbrev held_now : Bool
  held_now = is_held f.held l

  pub step-high : f.select ≡ true → select_of l ≡ true → step_of f l buffer ≡ sampled (idle l held_now) silent buffer
  unfolding step_of
  step-high p q = on-true f.select _ _ p ∙ on-true (select_of l) _ _ q

  pub step-fall : f.select ≡ true → select_of l ≡ false → step_of f l buffer ≡ sampled (fallen l held_now) silent buffer
  unfolding step_of
  step-fall p q = on-true f.select _ _ p ∙ on-false (select_of l) _ _ q

  pub step-rise : f.select ≡ false → select_of l ≡ true → step_of f l buffer ≡ sampled (idle l held_now) (risen_of f (length buffer)) buffer
  unfolding step_of
  step-rise p q = on-false f.select _ _ p ∙ on-true (select_of l) _ _ q

  pub step-low : f.select ≡ false → select_of l ≡ false → step_of f l buffer ≡ clocked_of f l buffer
  unfolding step_of
  step-low p q = on-false f.select _ _ p ∙ on-false (select_of l) _ _ q

-- ---- a front that is right stays so
idle-sound : (l : ℕ) (held : Bool) → Sound (idle l held)
idle-sound l held =
    record {
      few = omega arith;
      short = omega arith;
      most_bytes = omega arith;
      high-wp = λ h. refl;
      high-out = λ h. refl;
      high-none = λ h. (refl, refl);
      out_none = λ h. (refl, refl);
    }

frame-sound : (wp : Bool) (l : ℕ) (held out : Bool) (bits value bytes : ℕ) → bits ≤ 7 → value < 2 ^ bits → bytes ≤ frame_limit → (out ≡ true → (bits ≡ 0) × (bytes ≡ 0))
    → Sound (in_frame wp l held out bits value bytes)
frame-sound wp l held out bits value bytes a b c d =
    record {
      few = a;
      short = b;
      most_bytes = c;
      high-wp = λ h. absurd (false≢true h);
      high-out = λ h. absurd (false≢true h);
      high-none = λ h. absurd (false≢true h);
      out_none = d;
    }

clocked-sound : (f : Front) (l : ℕ) (buffer : List ℕ) → Sound f → Sound (clocked_of f l buffer).front
unfolding clocked_of bit_taken
clocked-sound f l buffer s = go (takes_bit f l) refl (ltb f.bits 7) refl (ltb f.bytes frame_limit && ltb f.bytes (length buffer)) refl
  where
    held : Bool
    held = is_held f.held l

    go : (a : Bool) → takes_bit f l ≡ a → (b : Bool) → ltb f.bits 7 ≡ b → (c : Bool) → (ltb f.bytes frame_limit && ltb f.bytes (length buffer)) ≡ c → Sound (clocked_of f l buffer).front
    go false p b q c r = rw p (frame-sound f.wp l held f.outgrown f.bits f.value f.bytes s.few s.short s.most_bytes s.out_none)
    go true p true q c r = rw (p, q) (frame-sound f.wp l held false (f.bits + 1) (2 * f.value + si_of l) f.bytes (omega (arith, ltb-true f.bits 7 q)) (bit-short f l s) s.most_bytes (λ h. absurd (false≢true h)))
    go true p false q true r =
        rw (p, q, r) (frame-sound f.wp l held false 0 0 (f.bytes + 1) (omega arith) (omega arith) (omega (arith, ltb-true f.bytes frame_limit (both (ltb f.bytes frame_limit) (ltb f.bytes (length buffer)) r).0)) (λ h. absurd (false≢true h)))
    go true p false q false r = rw (p, q, r) (frame-sound f.wp l held true 0 0 0 (omega arith) (omega arith) (omega arith) (λ h. (refl, refl)))

pub step-sound : (f : Front) (l : ℕ) (buffer : List ℕ) → Sound f → Sound (step_of f l buffer).front
step-sound f l buffer s = go f.select refl (select_of l) refl
  where
    on : (e : Sampled) → step_of f l buffer ≡ e → Sound e.front → Sound (step_of f l buffer).front
    on e p h = subst (λ (x : Sampled). Sound x.front) (sym p) h

    go : (a : Bool) → f.select ≡ a → (b : Bool) → select_of l ≡ b → Sound (step_of f l buffer).front
    go true p true q = on _ (step-high f l buffer p q) (idle-sound l (is_held f.held l))
    go true p false q = on _ (step-fall f l buffer p q) (frame-sound (wp_of l) l (is_held f.held l) false 0 0 0 (omega arith) (omega arith) (omega arith) (λ h. absurd (false≢true h)))
    go false p true q = on _ (step-rise f l buffer p q) (idle-sound l (is_held f.held l))
    go false p false q = on _ (step-low f l buffer p q) (clocked-sound f l buffer s)

-- ---- the buffer keeps its length
clocked-length : (f : Front) (l : ℕ) (buffer : List ℕ) → length (clocked_of f l buffer).buffer ≡ length buffer
unfolding clocked_of bit_taken
clocked-length f l buffer = go (takes_bit f l) refl (ltb f.bits 7) refl (ltb f.bytes frame_limit && ltb f.bytes (length buffer)) refl
  where
    go : (a : Bool) → takes_bit f l ≡ a → (b : Bool) → ltb f.bits 7 ≡ b → (c : Bool) → (ltb f.bytes frame_limit && ltb f.bytes (length buffer)) ≡ c → length (clocked_of f l buffer).buffer ≡ length buffer
    go false p b q c r = rw p
    go true p true q c r = rw (p, q)
    go true p false q true r = rw (p, q, r) (simp length-set)
    go true p false q false r = rw (p, q, r)

pub step-length : (f : Front) (l : ℕ) (buffer : List ℕ) → length (step_of f l buffer).buffer ≡ length buffer
step-length f l buffer = go f.select refl (select_of l) refl
  where
    on : (e : Sampled) → step_of f l buffer ≡ e → length e.buffer ≡ length buffer → length (step_of f l buffer).buffer ≡ length buffer
    on e p h = ap (λ (x : Sampled). length x.buffer) p ∙ h

    go : (a : Bool) → f.select ≡ a → (b : Bool) → select_of l ≡ b → length (step_of f l buffer).buffer ≡ length buffer
    go true p true q = on _ (step-high f l buffer p q) refl
    go true p false q = on _ (step-fall f l buffer p q) refl
    go false p true q = on _ (step-rise f l buffer p q) refl
    go false p false q = on _ (step-low f l buffer p q) (clocked-length f l buffer)
