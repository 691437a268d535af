-- Held samples taken out.
use mathlib.Core.Path.{◌≡◌, refl, sym, ap, ◌∙◌}
use mathlib.Core.Bool.{Bool, true, false, not, ◌&&◌, true≢false}
use mathlib.Core.List.{List, [], ◌∷◌, ◌++◌}
use Prim.Native.Nat.{ℕ, suc}
use lib.Dec.{ltb}
use lib.ListN.{length}
use borrow.Author.Tests.{not-true}
use Rattle.pins.specs.declared.Front.{Front}
use Rattle.pins.specs.Pins.{select_of, clock_of, hold_of, is_held, frame_limit, silent, fallen, Sampled, sampled, takes_bit, clocked_of, bit_taken, step_of}
use Rattle.pins_run.specs.Runs.{Captured, ends, run_from}
use Rattle.pins_promises.specs.Samples.{all_low, none_held, last_held, unheld}
use Rattle.pins_promises.specs.Promises.{SameEnd, TakenOut, NoHoldLeft}
use Rattle.units.proofs.Bools.{both}
use Rattle.pins.proofs.Choices.{on-true, on-false}
use Rattle.pins.proofs.Table.{step-fall, step-low, clocked_silent}
use Rattle.pins_run.proofs.Going.{run-silent, run_on, moved, made, step_kept}

-- a front with another clock, held or not
abbrev turned : Front → Bool → Bool → Front
turned f clock held = made f.select clock held f.wp f.outgrown f.bits f.value f.bytes

-- ---- held samples taken out
used-only : (n m : ℕ) (f : Front) (ls b : List ℕ) → SameEnd (run_from n f ls b) (run_from m f ls b)
unfolding run_from
used-only n m f [] b = record { front-is = refl; told_is = refl; buffer-is = refl }
used-only n m f (l ∷ ls) b = go (ends (step_of f l b).told) refl (used-only (suc n) (suc m) (step_of f l b).front ls (step_of f l b).buffer)
  where
    go : (t : Bool) → ends (step_of f l b).told ≡ t → SameEnd (run_from (suc n) (step_of f l b).front ls (step_of f l b).buffer) (run_from (suc m) (step_of f l b).front ls (step_of f l b).buffer)
        → SameEnd (run_from n f (l ∷ ls) b) (run_from m f (l ∷ ls) b)
    go true p ih = rw p (record { front-is = refl; told_is = refl; buffer-is = refl })
    go false p ih = rw p ih

same-as : {r r' s s' : Captured} → r ≡ r' → s ≡ s' → SameEnd r' s' → SameEnd r s
same-as e f h =
    record {
      front-is = ap (λ (x : Captured). x.front) e ∙ h.front-is ∙ sym (ap (λ (x : Captured). x.front) f);
      told_is = ap (λ (x : Captured). x.told) e ∙ h.told_is ∙ sym (ap (λ (x : Captured). x.told) f);
      buffer-is = ap (λ (x : Captured). x.buffer) e ∙ h.buffer-is ∙ sym (ap (λ (x : Captured). x.buffer) f);
    }

-- the front after a sample within a frame
pub low-front : (f : Front) (l : ℕ) (b : List ℕ) → ((clocked_of f l b).front.select ≡ false) × ((clocked_of f l b).front.held ≡ is_held f.held l)
unfolding clocked_of bit_taken
low-front f l b = go (takes_bit f l) refl (ltb f.bits 7) refl (ltb f.bytes frame_limit && ltb f.bytes (length b)) refl
  where
    go : (a : Bool) → takes_bit f l ≡ a → (c : Bool) → ltb f.bits 7 ≡ c → (d : Bool) → (ltb f.bytes frame_limit && ltb f.bytes (length b)) ≡ d
        → ((clocked_of f l b).front.select ≡ false) × ((clocked_of f l b).front.held ≡ is_held f.held l)
    go false p c q d r = (rw p, rw p)
    go true p true q d r = (rw (p, q), rw (p, q))
    go true p false q true r = (rw (p, q, r), rw (p, q, r))
    go true p false q false r = (rw (p, q, r), rw (p, q, r))

abbrev Out : ℕ → ℕ → Front → Front → List ℕ → List ℕ → List ℕ → List ℕ → Type 0
Out n m f g ls ms rest b = SameEnd (run_from n f (ls ++ rest) b) (run_from m g (ms ++ rest) b)

-- no clock in a sample with SCLK low, none taken in one that is held
no-take : (a b c d : Bool) → (b ≡ true → c ≡ true) → (not a && (b && (not c && d))) ≡ false
no-take true b c d h = refl
no-take false true c d h = rw (h refl)
no-take false false c d h = refl

-- g is f with another clock and no hold; where f is not held it is f itself
abbrev Outs : List ℕ → List ℕ → Type 0
Outs ls rest = (h : Bool) (n m : ℕ) (f : Front) (c : Bool) (b : List ℕ) → f.select ≡ false → f.held ≡ h → (h ≡ false → c ≡ f.clock) → all_low ls ≡ true → last_held h ls ≡ false
    → Out n m f (turned f c false) ls (unheld h ls) rest b

itself : (f : Front) (c : Bool) → f.held ≡ false → c ≡ f.clock → turned f c false ≡ f
itself f c h k = ap (λ (x : Bool). turned f x false) k ∙ ap (λ (x : Bool). turned f f.clock x) (sym h)

module _ (l : ℕ) (ls rest : List ℕ) (ih : Outs ls rest) (n m : ℕ) (f : Front) (b : List ℕ) (s : f.select ≡ false) (low : all_low (l ∷ ls) ≡ true) where
  lo : select_of l ≡ false
  lo = not-true (select_of l) (both (not (select_of l)) (all_low ls) low).0

  lows : all_low ls ≡ true
  lows = (both (not (select_of l)) (all_low ls) low).1

  held_kept : is_held f.held l ≡ true → step_of f l b ≡ sampled (moved f l) silent b
  held_kept p = step_kept f l b s lo (no-take f.clock (clock_of l) (is_held f.held l) (not f.outgrown) (λ k. p))

  out-free : f.held ≡ false → last_held false (l ∷ ls) ≡ false → Out n m f f (l ∷ ls) (unheld false (l ∷ ls)) rest b
  out-free h last = go (is_held false l) refl
    where
      hd : is_held f.held l ≡ is_held false l
      hd = ap (λ (x : Bool). is_held x l) h

      go : (t : Bool) → is_held false l ≡ t → Out n m f f (l ∷ ls) (unheld false (l ∷ ls)) rest b
      go true p =
          let g : Front = moved f l in
          let back : turned g f.clock false ≡ f = itself f f.clock h refl in
          same-as (run-silent n f g l (ls ++ rest) b (held_kept (hd ∙ p)))
          (ap (λ (z : List ℕ). run_from m f (z ++ rest) b) (on-true (is_held false l) _ _ p) ∙ ap (λ (x : Front). run_from m x (unheld true ls ++ rest) b) (sym back))
          (ih true (suc n) m g f.clock b s (hd ∙ p) (λ z. absurd (true≢false z)) lows (rw p at last))
      go false p =
          let e : step_of f l b ≡ clocked_of f l b = step-low f l b s lo in
          let q : ends (step_of f l b).told ≡ false = ap (λ (x : Sampled). ends x.told) e ∙ ap ends (clocked_silent f l b) in
          let k = low-front f l b in
          let g : Front = (step_of f l b).front in
          let gh : g.held ≡ false = ap (λ (x : Sampled). x.front.held) e ∙ k.1 ∙ hd ∙ p in
          same-as (run_on n f l (ls ++ rest) b q)
          (ap (λ (z : List ℕ). run_from m f (z ++ rest) b) (on-false (is_held false l) _ _ p) ∙ run_on m f l (unheld false ls ++ rest) b q
          ∙ ap (λ (x : Front). run_from (suc m) x (unheld false ls ++ rest) (step_of f l b).buffer) (sym (itself g g.clock gh refl)))
          (ih false (suc n) (suc m) g g.clock (step_of f l b).buffer (ap (λ (x : Sampled). x.front.select) e ∙ k.0) gh (λ z. refl) lows (rw p at last))

  out-held : (c : Bool) → f.held ≡ true → last_held true (l ∷ ls) ≡ false → Out n m f (turned f c false) (l ∷ ls) (unheld true (l ∷ ls)) rest b
  out-held c h last = go (is_held true l) refl
    where
      hd : is_held f.held l ≡ is_held true l
      hd = ap (λ (x : Bool). is_held x l) h

      f' : Front
      f' = turned f c false

      low-clock : (x : Bool) → clock_of l ≡ x → is_held true l ≡ false → clock_of l ≡ false
      low-clock true k p = absurd (true≢false (sym (on-true (clock_of l) true (not (hold_of l)) k) ∙ p))
      low-clock false k p = k

      go : (t : Bool) → is_held true l ≡ t → Out n m f f' (l ∷ ls) (unheld true (l ∷ ls)) rest b
      go true p =
          same-as (run-silent n f (moved f l) l (ls ++ rest) b (held_kept (hd ∙ p))) (ap (λ (z : List ℕ). run_from m f' (z ++ rest) b) (on-true (is_held true l) _ _ p))
          (ih true (suc n) m (moved f l) c b s (hd ∙ p) (λ z. absurd (true≢false z)) lows (rw p at last))
      go false p =
          let k : clock_of l ≡ false = low-clock (clock_of l) refl p in
          let none : (clock_of l ≡ true → ⊥) = λ (z : clock_of l ≡ true). true≢false (sym z ∙ k) in
          let e : step_of f l b ≡ sampled (moved f l) silent b = step_kept f l b s lo (no-take f.clock (clock_of l) (is_held f.held l) (not f.outgrown) (λ z. absurd (none z))) in
          let e' : step_of f' l b ≡ sampled (moved f' l) silent b = step_kept f' l b s lo (no-take c (clock_of l) (is_held false l) (not f.outgrown) (λ z. absurd (none z))) in
          let same : moved f' l ≡ turned (moved f l) (clock_of l) false = rw (k, sym-hold k p) in
          same-as (run-silent n f (moved f l) l (ls ++ rest) b e)
          (ap (λ (z : List ℕ). run_from m f' (z ++ rest) b) (on-false (is_held true l) _ _ p) ∙ run-silent m f' (moved f' l) l (unheld false ls ++ rest) b e' ∙ ap (λ (x : Front). run_from (suc m) x (unheld false ls ++ rest) b) same)
          (ih false (suc n) (suc m) (moved f l) (clock_of l) b s (hd ∙ p) (λ z. refl) lows (rw p at last))
        where
          sym-hold : clock_of l ≡ false → is_held true l ≡ false → not (hold_of l) ≡ false
          sym-hold k p = sym (on-false (clock_of l) true (not (hold_of l)) k) ∙ p

outs : (ls rest : List ℕ) → Outs ls rest
outs [] rest true n m f c b s h k low last = absurd (true≢false last)
outs [] rest false n m f c b s h k low last = same-as refl (ap (λ (x : Front). run_from m x rest b) (itself f c h (k refl))) (used-only n m f rest b)
outs (l ∷ ls) rest true n m f c b s h k low last = out-held l ls rest (outs ls rest) n m f b s low c h last
outs (l ∷ ls) rest false n m f c b s h k low last =
    same-as refl (ap (λ (x : Front). run_from m x (unheld false (l ∷ ls) ++ rest) b) (itself f c h (k refl))) (out-free l ls rest (outs ls rest) n m f b s low h last)

pub taken_out : TakenOut
taken_out f fall between rise rest b w nh last =
    let g : Front = fallen fall (is_held f.held fall) in
    let e : step_of f fall b ≡ sampled g silent b = step-fall f fall b w.high w.falls in
    same-as (run-silent 0 f g fall (between ++ (rise ∷ rest)) b e) (run-silent 0 f g fall (unheld false between ++ (rise ∷ rest)) b e ∙ ap (λ (x : Front). run_from 1 x (unheld false between ++ (rise ∷ rest)) b) (sym (itself g g.clock nh refl)))
    (outs between (rise ∷ rest) false 1 1 g g.clock b refl nh (λ z. refl) w.low last)

-- ---- what is left
left-low : (h : Bool) (ls : List ℕ) → all_low ls ≡ true → all_low (unheld h ls) ≡ true
left-low h [] low = refl
left-low h (l ∷ ls) low = let k = both (not (select_of l)) (all_low ls) low in go (is_held h l) refl k.0 (left-low true ls k.1) (left-low false ls k.1)
  where
    go : (t : Bool) → is_held h l ≡ t → not (select_of l) ≡ true → all_low (unheld true ls) ≡ true → all_low (unheld false ls) ≡ true → all_low (unheld h (l ∷ ls)) ≡ true
    go true p k taken kept = rw p taken
    go false p k taken kept = rw (p, k) kept

-- a sample that is not held is not held where the one before was not either
free : (h : Bool) (l : ℕ) → is_held h l ≡ false → is_held false l ≡ false
free h l p = go (clock_of l) refl
  where
    go : (c : Bool) → clock_of l ≡ c → is_held false l ≡ false
    go true k = rw k
    go false k = on-false (clock_of l) _ _ k ∙ sym (on-false (clock_of l) h (not (hold_of l)) k) ∙ p

left-free : (h : Bool) (ls : List ℕ) → none_held false (unheld h ls) ≡ true
left-free h [] = refl
left-free h (l ∷ ls) = go (is_held h l) refl (left-free true ls) (left-free false ls)
  where
    go : (t : Bool) → is_held h l ≡ t → none_held false (unheld true ls) ≡ true → none_held false (unheld false ls) ≡ true → none_held false (unheld h (l ∷ ls)) ≡ true
    go true p taken kept = rw p taken
    go false p taken kept = rw (p, free h l p) kept

pub no-hold-left : NoHoldLeft
no-hold-left f fall between rise w nh =
    (record { high = w.high; falls = w.falls; low = left-low false between w.low; rises = w.rises }, rw nh (left-free false between))
