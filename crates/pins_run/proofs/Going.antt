-- Laws of a run: samples that tell nothing, and the way from one front to a later one.
use mathlib.Core.Path.{◌≡◌, refl, sym, ap, subst, ◌∙◌}
use mathlib.Core.Bool.{Bool, true, false, not, ◌&&◌, ◌||◌, beq, true≢false, false≢true}
use mathlib.Core.List.{List, [], ◌∷◌}
use Prim.Native.Nat.{ℕ, suc, ◌+◌, ◌-◌, ◌*◌, ◌^◌, ◌≤◌, ◌<◌}
use native.Mathlib.Nat.{add-zero}
use native.Mathlib.Numerals.{add-one}
use native.Mathlib.Omega.{arith}
use lib.Dec.{eqb, ltb}
use Rattle.std.specs.Prelude.{Option, Some, None, MatchOption, ⊤}
use Rattle.std.specs.Option.{option_eq}
use Rattle.std.proofs.lemmas.List.{drop-drop}
use lib.ListN.{length, take, drop, get_or, set, drop_of_length-le, length-drop}
use lib.Seq.{drop-cons, take-length}
use borrow.Author.Tests.{eqb-true, lt-ltb, le-ltb}
use Rattle.pins.specs.declared.Front.{Front}
use Rattle.pins.specs.declared.Stepped.{Stepped}
use Rattle.pins.specs.Pins.{select_of, clock_of, si_of, hold_of, is_held, frame_limit, Sound, silent, in_frame, Sampled, sampled, takes_bit, clocked_of, bit_taken, step_of, Senses}
use Rattle.pins_run.specs.Runs.{Captured, ran_to, ends, run_from, run_of, Captures, Reaches}
use Rattle.pins.proofs.Choices.{on-true, on-false}
use Rattle.pins.proofs.Table.{step-high, step-low, step-sound, step-length}

-- ---- one sample of a run
pub run-silent : (n : ℕ) (f g : Front) (l : ℕ) (ls buffer : List ℕ) {after : List ℕ} → step_of f l buffer ≡ sampled g silent after → run_from n f (l ∷ ls) buffer ≡ run_from (suc n) g ls after
unfolding run_from
run-silent n f g l ls buffer e = rw e

pub run_on : (n : ℕ) (f : Front) (l : ℕ) (ls buffer : List ℕ) → ends (step_of f l buffer).told ≡ false → run_from n f (l ∷ ls) buffer ≡ run_from (suc n) (step_of f l buffer).front ls (step_of f l buffer).buffer
unfolding run_from
run_on n f l ls buffer e = on-false _ _ _ e

pub run_end : (n : ℕ) (f : Front) (l : ℕ) (ls buffer : List ℕ) → ends (step_of f l buffer).told ≡ true
    → run_from n f (l ∷ ls) buffer ≡ ran_to (suc n) (step_of f l buffer).front (step_of f l buffer).told (step_of f l buffer).buffer
unfolding run_from
run_end n f l ls buffer e = on-true _ _ _ e

-- a front that is right stays so
pub run_sound : (n : ℕ) (f : Front) (ls b : List ℕ) → Sound f → Sound (run_from n f ls b).front
unfolding run_from
run_sound n f [] b s = s
run_sound n f (l ∷ ls) b s = go (ends (step_of f l b).told) refl (step-sound f l b s) (run_sound (suc n) (step_of f l b).front ls (step_of f l b).buffer (step-sound f l b s))
  where
    go : (t : Bool) → ends (step_of f l b).told ≡ t → Sound (step_of f l b).front → Sound (run_from (suc n) (step_of f l b).front ls (step_of f l b).buffer).front → Sound (run_from n f (l ∷ ls) b).front
    go true p h ih = subst (λ (r : Captured). Sound r.front) (sym (run_end n f l ls b p)) h
    go false p h ih = subst (λ (r : Captured). Sound r.front) (sym (run_on n f l ls b p)) ih

-- ---- samples that change the levels alone
abbrev pub moved : Front → ℕ → Front
moved g l = record { select = g.select; clock = clock_of l; held = is_held g.held l; wp = g.wp; outgrown = g.outgrown; bits = g.bits; value = g.value; bytes = g.bytes }

abbrev pub made : Bool → Bool → Bool → Bool → Bool → ℕ → ℕ → ℕ → Front
made a c h w o n v k = record { select = a; clock = c; held = h; wp = w; outgrown = o; bits = n; value = v; bytes = k }

same-level : (a b : Bool) (g : Front) (l : ℕ) → g.select ≡ a → g.wp ≡ false → g.outgrown ≡ false → g.bits ≡ 0 → g.value ≡ 0 → g.bytes ≡ 0
    → made a (clock_of l) b false false 0 0 0 ≡ made g.select (clock_of l) b g.wp g.outgrown g.bits g.value g.bytes
same-level a b g l s w o n v k = rw (s, w, o, n, v, k)

pub step_kept : (g : Front) (l : ℕ) (buffer : List ℕ) → g.select ≡ false → select_of l ≡ false → takes_bit g l ≡ false → step_of g l buffer ≡ sampled (moved g l) silent buffer
unfolding clocked_of
step_kept g l buffer p q t =
    step-low g l buffer p q ∙ on-false (takes_bit g l) _ _ t
    ∙ ap (λ (x : Bool). sampled (made x (clock_of l) (is_held g.held l) g.wp g.outgrown g.bits g.value g.bytes) silent buffer) (sym p)

pub step-byte : (g : Front) (l : ℕ) → g.select ≡ false → select_of l ≡ false → takes_bit g l ≡ true → 7 ≤ g.bits
    → (buffer : List ℕ) → (ltb g.bytes frame_limit && ltb g.bytes (length buffer)) ≡ true
    → step_of g l buffer ≡ sampled (in_frame g.wp l (is_held g.held l) false 0 0 (g.bytes + 1)) silent (set buffer g.bytes (2 * g.value + si_of l))
unfolding clocked_of bit_taken
step-byte g l p q t h buffer r =
    step-low g l buffer p q ∙ on-true (takes_bit g l) _ _ t ∙ on-false (ltb g.bits 7) _ _ (le-ltb g.bits 7 h) ∙ on-true (ltb g.bytes frame_limit && ltb g.bytes (length buffer)) _ _ r

pub step-still : (g : Front) (l : ℕ) → Sound g → select_of l ≡ g.select → (g.select ≡ false → takes_bit g l ≡ false) → (buffer : List ℕ) → step_of g l buffer ≡ sampled (moved g l) silent buffer
step-still g l s e t buffer = go g.select refl
  where
    go : (a : Bool) → g.select ≡ a → step_of g l buffer ≡ sampled (moved g l) silent buffer
    go true p =
        let z = s.high-none p in
        let one : 2 ^ g.bits ≡ 1 = rw z.0 in
        let v : g.value ≡ 0 = omega (arith, s.short) in
        step-high g l buffer p (e ∙ p) ∙ ap (λ (x : Front). sampled x silent buffer) (same-level true (is_held g.held l) g l p (s.high-wp p) (s.high-out p) z.0 v z.1)
    go false p = step_kept g l buffer p (e ∙ p) (t p)

pub step-bit : (g : Front) (l : ℕ) → g.select ≡ false → select_of l ≡ false → takes_bit g l ≡ true → g.bits < 7
    → (buffer : List ℕ) → step_of g l buffer ≡ sampled (in_frame g.wp l (is_held g.held l) false (g.bits + 1) (2 * g.value + si_of l) g.bytes) silent buffer
unfolding clocked_of bit_taken
step-bit g l p q t h buffer = step-low g l buffer p q ∙ on-true (takes_bit g l) _ _ t ∙ on-true (ltb g.bits 7) _ _ (lt-ltb g.bits 7 h)

-- ---- the way
pub reach-none : (f : Front) (ls b : List ℕ) → Sound f → Reaches f ls b f ls b
reach-none f ls b s = record { taken = 0; long = omega arith; rest_is = refl; right = s; same = refl; on = λ n. rw (add-zero n) }

pub reach-then : {f g h : Front} {ls left end b₀ b b' : List ℕ} → Reaches f ls b₀ g left b → Reaches g left b h end b' → Reaches f ls b₀ h end b'
reach-then {f} {g} {h} {ls} {left} {end} {b₀} {b} {b'} p q =
    record {
      taken = p.taken + q.taken;
      long = omega (arith, p.long, q.long);
      rest_is = q.rest_is ∙ ap (drop q.taken) p.rest_is ∙ drop-drop q.taken p.taken ls;
      right = q.right;
      same = q.same ∙ p.same;
      on = λ n. p.on n ∙ q.on (n + p.taken) ∙ ap (λ (k : ℕ). run_from k h end b') {x = n + p.taken + q.taken} {y = n + (p.taken + q.taken)} (omega arith);
    }

-- a sample that tells nothing
one-on : (g g' : Front) (x : ℕ) (after b b' : List ℕ) → Sound g → step_of g x b ≡ sampled g' silent b' → Reaches g (x ∷ after) b g' after b'
one-on g g' x after b b' s e =
    record {
      taken = 1;
      long = omega arith;
      rest_is = refl;
      right = subst Sound (ap (λ (y : Sampled). y.front) e) (step-sound g x b s);
      same = sym (ap (λ (y : Sampled). length y.buffer) e) ∙ step-length g x b;
      on = λ n. run-silent n g g' x after b e ∙ ap (λ (k : ℕ). run_from k g' after b') (sym (add-one n));
    }

reach-on : (f g g' : Front) (ls b₀ b b' : List ℕ) (i x : ℕ) → Reaches f ls b₀ g (drop i ls) b → i < length ls → x ≡ get_or ls i 0 → step_of g x b ≡ sampled g' silent b' → Reaches f ls b₀ g' (drop (i + 1) ls) b'
reach-on f g g' ls b₀ b b' i x r l v e =
    let p : drop i ls ≡ x ∷ drop (i + 1) ls = drop-cons ls i 0 l ∙ ap (λ (y : ℕ). y ∷ drop (suc i) ls) (sym v) ∙ ap (λ (k : ℕ). x ∷ drop k ls) (sym (add-one i)) in
    reach-then r (subst (λ (z : List ℕ). Reaches g z b g' (drop (i + 1) ls) b') (sym p) (one-on g g' x (drop (i + 1) ls) b b' r.right e))

-- where a loop ends before its end, and at its end
pub reach-here : {f g : Front} {ls b₀ b : List ℕ} (i : ℕ) → Reaches f ls b₀ g (drop i ls) b → Reaches f ls b₀ g (take (length ls - i) (drop i ls)) b
reach-here {f} {g} {ls} {b₀} {b} i r =
    let e : take (length ls - i) (drop i ls) ≡ drop i ls = ap (λ (n : ℕ). take n (drop i ls)) (sym (length-drop i ls)) ∙ take-length (drop i ls) in
    subst (λ (z : List ℕ). Reaches f ls b₀ g z b) (sym e) r

pub reach-all : {f g : Front} {ls b₀ b : List ℕ} {i : ℕ} → length ls ≤ i → Reaches f ls b₀ g (drop i ls) b → Reaches f ls b₀ g [] b
reach-all {f} {g} {ls} {b₀} {b} l r = subst (λ (z : List ℕ). Reaches f ls b₀ g z b) (drop_of_length-le ls l) r

-- ---- samples that take no bit
-- a sample's hold, with the same levels again
held-again : (before : Bool) (x : ℕ) → is_held (is_held before x) x ≡ is_held before x
held-again before x = go (clock_of x) refl
  where
    go : (c : Bool) → clock_of x ≡ c → is_held (is_held before x) x ≡ is_held before x
    go true p = on-true (clock_of x) _ (not (hold_of x)) p
    go false p = on-false (clock_of x) _ (not (hold_of x)) p ∙ sym (on-false (clock_of x) before (not (hold_of x)) p)

never-takes : (a b c s d : Bool) → (s || d) ≡ true → s ≡ false → (not a && (b && (not c && not d))) ≡ false
never-takes true b c s d t p = refl
never-takes false false c s d t p = refl
never-takes false true true s d t p = refl
never-takes false true false true d t p = absurd (true≢false p)
never-takes false true false false true t p = refl
never-takes false true false false false t p = absurd (false≢true t)

-- the sample of those levels changes nothing
abbrev pub Settled : Option ℕ → Front → Type 0
Settled last g = MatchOption last ⊤ (λ (x : ℕ). (b : List ℕ) → step_of g x b ≡ sampled g silent b)

-- a front at rest: the run goes on from it, whatever the buffer, no sample of its level of CS# takes a bit, and the last one's levels change nothing
pub record Rests (f : Front) (ls : List ℕ) (g : Front) (i : ℕ) (last : Option ℕ) : Type 0 where
  pub on : (b : List ℕ) → Reaches f ls b g (drop i ls) b
  pub still : (g.select || g.outgrown) ≡ true
  pub settled : Settled last g

pub rests-first : (f : Front) (ls : List ℕ) → Sound f → (f.select || f.outgrown) ≡ true → Rests f ls f 0 None
rests-first f ls s t = record { on = λ b. reach-none f ls b s; still = t; settled = tt }

again : (last : Option ℕ) (x : ℕ) (g : Front) → option_eq eqb last (Some x) ≡ true → Settled last g → (b : List ℕ) → step_of g x b ≡ sampled g silent b
again None x g e s = absurd (false≢true e)
again (Some y) x g e s = subst (λ (z : ℕ). (b : List ℕ) → step_of g z b ≡ sampled g silent b) (eqb-true y x e) s

alike : (a b : Bool) → not (beq a b) ≡ false → a ≡ b
alike true true e = refl
alike true false e = absurd (true≢false e)
alike false true e = absurd (true≢false e)
alike false false e = refl

module _ (f : Front) (ls : List ℕ) (g : Front) (i : ℕ) (last : Option ℕ) (r : Rests f ls g i last) (l : i < length ls) where
  abbrev now : ℕ
  now = get_or ls i 0

  pub rests-same : option_eq eqb last (Some now) ≡ true → Rests f ls g (i + 1) last
  rests-same e = record { on = λ b. reach-on f g g ls b b b i now (r.on b) l refl (again last now g e r.settled b); still = r.still; settled = r.settled }

  module _ (x : ℕ) (v : x ≡ now) (select clock held : Bool) (e : select ≡ select_of x) (h : not (beq select g.select) ≡ false) (c : clock ≡ clock_of x) (k : held ≡ is_held g.held x) where
    abbrev g' : Front
    g' = made g.select clock held g.wp g.outgrown g.bits g.value g.bytes

    same_select : select_of x ≡ g.select
    same_select = sym e ∙ alike select g.select h

    as-moved : moved g x ≡ g'
    as-moved = rw (c, k)

    on : (b : List ℕ) → Reaches f ls b g' (drop (i + 1) ls) b
    on b =
        reach-on f g g' ls b b b i x (r.on b) l v
        (step-still g x (r.on b).right same_select (never-takes g.clock (clock_of x) (is_held g.held x) g.select g.outgrown r.still) b ∙ ap (λ (y : Front). sampled y silent b) as-moved)

    twice : moved g' x ≡ g'
    twice = rw (c, k, held-again g.held x)

    pub rests-moved : Rests f ls g' (i + 1) (Some now)
    rests-moved =
        record {
          on = on;
          still = r.still;
          settled = λ b. ap (λ (n : ℕ). step_of g' n b) (sym v)
              ∙ step-still g' x (on b).right same_select (never-takes clock (clock_of x) (is_held held x) g.select g.outgrown r.still) b
              ∙ ap (λ (y : Front). sampled y silent b) twice;
        }

-- ---- samples within a frame
abbrev pub counted : Front → ℕ → Front
counted g bytes = made g.select g.clock g.held g.wp g.outgrown g.bits g.value bytes

pub record Gathers (f : Front) (ls b₀ : List ℕ) (g : Front) (bytes i : ℕ) (b : List ℕ) : Type 0 where
  pub on : Reaches f ls b₀ (counted g bytes) (drop i ls) b
  pub low : g.select ≡ false
  pub fits : g.outgrown ≡ false

module _ (f : Front) (ls b₀ : List ℕ) (g₀ : Front) (bytes i : ℕ) (b : List ℕ) (r : Gathers f ls b₀ g₀ bytes i b) (l : i < length ls) (x : ℕ) (v : x ≡ get_or ls i 0) (e : select_of x ≡ false) where
  abbrev g : Front
  g = counted g₀ bytes

  -- SCLK low takes no bit
  pub frame-low : (hold : Bool) → hold ≡ hold_of x → clock_of x ≡ false → Gathers f ls b₀ (made g.select false (not hold) g.wp g.outgrown g.bits g.value g₀.bytes) bytes (i + 1) b
  frame-low hold h c =
      record {
        on = reach-on f g _ ls b₀ b b i x r.on l v (step_kept g x b r.low e (rw c (none g.clock)) ∙ ap (λ (y : Front). sampled y silent b) (rw (c, h)));
        low = r.low;
        fits = r.fits;
      }
    where
      none : (a : Bool) → (not a && false) ≡ false
      none true = refl
      none false = refl

  module _ (c : clock_of x ≡ true) where
    pub frame-high : (g.clock || g.held) ≡ true → Gathers f ls b₀ (made g.select true g.held g.wp g.outgrown g.bits g.value g₀.bytes) bytes (i + 1) b
    frame-high t =
        record {
          on = reach-on f g _ ls b₀ b b i x r.on l v (step_kept g x b r.low e (rw c (none g.clock g.held _ t)) ∙ ap (λ (y : Front). sampled y silent b) (rw c));
          low = r.low;
          fits = r.fits;
        }
      where
        none : (a b d : Bool) → (a || b) ≡ true → (not a && (not b && d)) ≡ false
        none true b d h = refl
        none false true d h = refl
        none false false d h = absurd (false≢true h)

    module _ (t : g.clock ≡ false) (u : g.held ≡ false) where
      took : takes_bit g x ≡ true
      took = rw (c, t, u, r.fits)

      framed : (n v k : ℕ) → in_frame g.wp x (is_held g.held x) false n v k ≡ made g.select true g.held g.wp g.outgrown n v k
      framed n v k = rw (c, r.low, r.fits)

      pub frame-bit : (bit : ℕ) → bit ≡ si_of x → g.bits < 7 → Gathers f ls b₀ (made g.select true g.held g.wp g.outgrown (g.bits + 1) (2 * g.value + bit) g₀.bytes) bytes (i + 1) b
      frame-bit bit d n =
          record {
            on = reach-on f g _ ls b₀ b b i x r.on l v (step-bit g x r.low e took n b ∙ ap (λ (y : Front). sampled y silent b) (framed (g.bits + 1) (2 * g.value + si_of x) g.bytes ∙ rw d));
            low = r.low;
            fits = r.fits;
          }

      pub frame_byte : (bit : ℕ) → bit ≡ si_of x → 7 ≤ g.bits → g.bytes < frame_limit → g.bytes < length b
          → Gathers f ls b₀ (made g.select true g.held g.wp g.outgrown 0 0 g₀.bytes) (bytes + 1) (i + 1) (set b g.bytes (2 * g.value + bit))
      frame_byte bit d n k m =
          record {
            on = reach-on f g _ ls b₀ b (set b g.bytes (2 * g.value + bit)) i x r.on l v
                (step-byte g x r.low e took n b (rw (lt-ltb g.bytes frame_limit k, lt-ltb g.bytes (length b) m)) ∙ rw (framed 0 0 (g.bytes + 1), d));
            low = r.low;
            fits = r.fits;
          }

-- ---- the run from its start
module _ (f : Front) (ls b₀ : List ℕ) (g : Front) (b : List ℕ) where
  pub way_end : (left : List ℕ) → length left ≡ 0 → Reaches f ls b₀ g left b → Captures (run_of f ls b₀) (record { front = g; told = silent; used = length ls }) b
  unfolding run_from
  way_end [] z w =
      let p : run_of f ls b₀ ≡ ran_to (0 + w.taken) g silent b = w.on 0 in
      record { front-is = rw p; told_is = rw p; used-is = rw p (omega (arith, w.long)); buffer-is = rw p }
  way_end (x ∷ left) z w = absurd (omega arith)

  module _ (left after : List ℕ) (x y : ℕ) (q : left ≡ y ∷ after) (v : x ≡ y) (r : Reaches f ls b₀ g left b) (s : Stepped) (b' : List ℕ) (k : Senses (step_of g x b) s b') where
    w : Reaches f ls b₀ g (x ∷ after) b
    w = subst (λ (z : List ℕ). Reaches f ls b₀ g z b) (q ∙ ap (λ (z : ℕ). z ∷ after) (sym v)) r

    pub way-left : length after < length ls
    way-left = omega (arith, w.long)

    pub way-length : length b' ≡ length b₀
    way-length = ap length k.buffer-is ∙ step-length g x b ∙ w.same

    pub way-stop : ends s.told ≡ true → Captures (run_of f ls b₀) (record { front = s.front; told = s.told; used = length ls - length after }) b'
    way-stop t =
        let h : Sampled = step_of g x b in
        let p : run_of f ls b₀ ≡ ran_to (suc (0 + w.taken)) h.front h.told h.buffer = w.on 0 ∙ run_end (0 + w.taken) g x after b (ap ends (sym k.told_is) ∙ t) in
        record { front-is = rw p k.front-is; told_is = rw p k.told_is; used-is = rw p (omega (arith, w.long)); buffer-is = rw p k.buffer-is }

    pub way_on : ends s.told ≡ false → Reaches f ls b₀ s.front after b'
    way_on t =
        let h : Sampled = step_of g x b in
        record {
          taken = w.taken + 1;
          long = omega (arith, w.long);
          rest_is = ap (drop 1) w.rest_is ∙ drop-drop 1 w.taken ls;
          right = subst Sound (sym k.front-is) (step-sound g x b w.right);
          same = way-length;
          on = λ n. w.on n ∙ run_on (n + w.taken) g x after b (ap ends (sym k.told_is) ∙ t)
              ∙ ap (λ (y : Front). run_from (suc (n + w.taken)) y after h.buffer) (sym k.front-is)
              ∙ ap (λ (y : List ℕ). run_from (suc (n + w.taken)) s.front after y) (sym k.buffer-is)
              ∙ ap (λ (m : ℕ). run_from m s.front after b') {x = suc (n + w.taken)} {y = n + (w.taken + 1)} (omega arith);
        }
