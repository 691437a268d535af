-- What a rise leaves and tells, whatever the answer.
use mathlib.Core.Path.{◌≡◌, refl, sym, ap, subst, ◌∙◌}
use mathlib.Core.Bool.{Bool, true, false, not, ◌||◌, cond, false≢true, true≢false}
use mathlib.Core.List.{List, [], ◌∷◌, ◌++◌}
use Prim.Native.Nat.{ℕ, suc, ◌+◌, ◌*◌, ◌/◌, ◌%◌}
use native.Mathlib.Omega.{arith}
use lib.Dec.{eqb, ltb}
use lib.ListN.{length}
use borrow.Author.Tests.{not-true, eq-eqb}
use Rattle.std.specs.Prelude.{Err}
use Rattle.answers.specs.declared.Refusal.{Refusal}
use Rattle.answers.specs.declared.Refusal.TheVariants.{BadFrame, InHold, BadState}
use Rattle.answers.specs.Answers.{Answer, Done, number_of}
use Rattle.answers.specs.Tables.{◌gives◌, first_of}
use Rattle.pins.specs.declared.Front.{Front}
use Rattle.pins.specs.Pins.{Told, select_of, clock_of, hold_of, is_held, silent, refused, handed, answer_of, told_by, idle, fallen, Sampled, sampled, risen_of, clocked_of, step_of, front_ok, stepped_of}
use Rattle.pins_run.specs.Runs.{Captured, ran_to, ends, run_from, run_of, ran_of}
use Rattle.pins_promises.specs.Samples.{FallToRise, all_low, last_held, deselected}
use Rattle.pins_promises.specs.Promises.{AnswersAlone, Dropped, RefusesHeld, TellsOneThing, OneThing}
use Rattle.units.proofs.Bools.{both}
use Rattle.pins.proofs.Table.{step-high, step-fall, step-rise, step-low, clocked_silent}
use Rattle.pins_run.proofs.Going.{run-silent, run_on, run_end, made}
use Rattle.pins_promises.proofs.Out.{low-front}

-- ---- a refusal tells its answer alone
refused_alone : (r : Refusal) → AnswersAlone (refused r)
refused_alone r = record { alone = refl; none = refl; zeros = refl }

-- ---- what a frame comes to when CS# rises
record Rises (held : Bool) (t : Told) : Type 0 where
  last : ends t ≡ true
  refuses : (answer_of t ≡ Done → ⊥) → AnswersAlone t
  is-34 : held ≡ true → t ≡ refused InHold
  only-34 : answer_of t ≡ Err InHold → held ≡ true

abbrev answer_by : Bool → Bool → Answer
answer_by h o = first_of ((h gives InHold) ∷ (o gives BadFrame) ∷ [])

abbrev told_at : Bool → Bool → ℕ → ℕ → Bool → Told
told_at h o bytes tail wp = told_by (answer_by h o) (handed bytes tail wp)

by_tests : (h o : Bool) (bytes tail : ℕ) (wp : Bool) → Rises h (told_at h o bytes tail wp)
by_tests true o bytes tail wp = record { last = refl; refuses = λ z. refused_alone InHold; is-34 = λ z. refl; only-34 = λ z. refl }
by_tests false true bytes tail wp =
    record {
      last = refl;
      refuses = λ z. refused_alone BadFrame;
      is-34 = λ z. absurd (false≢true z);
      only-34 = λ z. absurd (let e : 4 ≡ 34 = ap number_of z in omega arith);
    }
by_tests false false bytes tail wp =
    record {
      last = refl;
      refuses = λ z. absurd (z refl);
      is-34 = λ z. absurd (false≢true z);
      only-34 = λ z. absurd (let e : 0 ≡ 34 = ap number_of z in omega arith);
    }

rise-tells : (g : Front) (room : ℕ) → Rises g.held (risen_of g room)
unfolding risen_of
rise-tells g room = by_tests g.held (g.outgrown || ltb room g.bytes) g.bytes g.bits g.wp

-- ---- one thing is told
silent_one : TellsOneThing silent
silent_one = record { no-frame = λ z. record { alone = refl; none = refl; zeros = refl }; a-frame = λ z. refl }

refused-one : (r : Refusal) → TellsOneThing (refused r)
refused-one r = record { no-frame = λ z. refused_alone r; a-frame = λ z. absurd (false≢true z) }

one-by : (h o : Bool) (bytes tail : ℕ) (wp : Bool) → TellsOneThing (told_at h o bytes tail wp)
one-by true o bytes tail wp = refused-one InHold
one-by false true bytes tail wp = refused-one BadFrame
one-by false false bytes tail wp = record { no-frame = λ z. absurd (true≢false z); a-frame = λ z. refl }

rise_one : (g : Front) (room : ℕ) → TellsOneThing (risen_of g room)
unfolding risen_of
rise_one g room = one-by g.held (g.outgrown || ltb room g.bytes) g.bytes g.bits g.wp

step-one : (f : Front) (l : ℕ) (b : List ℕ) → TellsOneThing (step_of f l b).told
step-one f l b = go f.select refl (select_of l) refl
  where
    on : (e : Sampled) → step_of f l b ≡ e → TellsOneThing e.told → TellsOneThing (step_of f l b).told
    on e p h = subst (λ (x : Sampled). TellsOneThing x.told) (sym p) h

    go : (a : Bool) → f.select ≡ a → (c : Bool) → select_of l ≡ c → TellsOneThing (step_of f l b).told
    go true p true q = on _ (step-high f l b p q) silent_one
    go true p false q = on _ (step-fall f l b p q) silent_one
    go false p true q = on _ (step-rise f l b p q) (rise_one f (length b))
    go false p false q = on _ (step-low f l b p q) (subst TellsOneThing (sym (clocked_silent f l b)) silent_one)

run-one : (n : ℕ) (f : Front) (ls b : List ℕ) → TellsOneThing (run_from n f ls b).told
unfolding run_from
run-one n f [] b = silent_one
run-one n f (l ∷ ls) b = go (ends (step_of f l b).told) refl (step-one f l b) (run-one (suc n) (step_of f l b).front ls (step_of f l b).buffer)
  where
    go : (t : Bool) → ends (step_of f l b).told ≡ t → TellsOneThing (step_of f l b).told → TellsOneThing (run_from (suc n) (step_of f l b).front ls (step_of f l b).buffer).told
        → TellsOneThing (run_from n f (l ∷ ls) b).told
    go true p h ih = subst (λ (r : Captured). TellsOneThing r.told) (sym (run_end n f l ls b p)) h
    go false p h ih = subst (λ (r : Captured). TellsOneThing r.told) (sym (run_on n f l ls b p)) ih

pub one-thing : OneThing
unfolding stepped_of ran_of
one-thing f l ls b = go (front_ok f) refl
  where
    go : (t : Bool) → front_ok f ≡ t → TellsOneThing (stepped_of f l b).told × TellsOneThing (ran_of f ls b).told
    go true p = rw p (step-one f l b, run-one 0 f ls b)
    go false p = rw p (refused-one BadState, refused-one BadState)

-- ---- a run up to the rise
record Risen (held : Bool) (rise : ℕ) (r : Captured) : Type 0 where
  front-is : r.front ≡ idle rise (is_held held rise)
  tells : Rises held r.told

at-rise : (n : ℕ) (g : Front) (rise : ℕ) (rest b : List ℕ) → g.select ≡ false → select_of rise ≡ true → Risen g.held rise (run_from n g (rise ∷ rest) b)
at-rise n g rise rest b s q =
    let e : step_of g rise b ≡ sampled (idle rise (is_held g.held rise)) (risen_of g (length b)) b = step-rise g rise b s q in
    let k : Rises g.held (risen_of g (length b)) = rise-tells g (length b) in
    let r : run_from n g (rise ∷ rest) b ≡ ran_to (suc n) (idle rise (is_held g.held rise)) (risen_of g (length b)) b =
    run_end n g rise rest b (ap (λ (x : Sampled). ends x.told) e ∙ k.last) ∙ ap (λ (x : Sampled). ran_to (suc n) x.front x.told x.buffer) e in
    subst (λ (x : Captured). Risen g.held rise x) (sym r) (record { front-is = refl; tells = k })

up-to-rise : (n : ℕ) (g : Front) (ls : List ℕ) (rise : ℕ) (rest b : List ℕ) → g.select ≡ false → all_low ls ≡ true → select_of rise ≡ true
    → Risen (last_held g.held ls) rise (run_from n g (ls ++ (rise ∷ rest)) b)
up-to-rise n g [] rise rest b s low q = at-rise n g rise rest b s q
up-to-rise n g (l ∷ ls) rise rest b s low q =
    let c = both (not (select_of l)) (all_low ls) low in
    let e : step_of g l b ≡ clocked_of g l b = step-low g l b s (not-true (select_of l) c.0) in
    let k = low-front g l b in
    let g' : Front = (step_of g l b).front in
    let gs : g'.select ≡ false = ap (λ (x : Sampled). x.front.select) e ∙ k.0 in
    let gh : g'.held ≡ is_held g.held l = ap (λ (x : Sampled). x.front.held) e ∙ k.1 in
    let r : run_from n g (l ∷ (ls ++ (rise ∷ rest))) b ≡ run_from (suc n) g' (ls ++ (rise ∷ rest)) (step_of g l b).buffer =
    run_on n g l (ls ++ (rise ∷ rest)) b (ap (λ (x : Sampled). ends x.told) e ∙ ap ends (clocked_silent g l b)) in
    subst (λ (x : Captured). Risen (last_held (is_held g.held l) ls) rise x) (sym r)
    (subst (λ (h : Bool). Risen (last_held h ls) rise (run_from (suc n) g' (ls ++ (rise ∷ rest)) (step_of g l b).buffer)) gh
    (up-to-rise (suc n) g' ls rise rest (step_of g l b).buffer gs c.1 q))

from-fall : (f : Front) (fall : ℕ) (between : List ℕ) (rise : ℕ) (rest b : List ℕ) → FallToRise f fall between rise
    → Risen (last_held f.held (fall ∷ between)) rise (run_of f (fall ∷ (between ++ (rise ∷ rest))) b)
from-fall f fall between rise rest b w =
    let g : Front = fallen fall (is_held f.held fall) in
    let r : run_of f (fall ∷ (between ++ (rise ∷ rest))) b ≡ run_from 1 g (between ++ (rise ∷ rest)) b =
    run-silent 0 f g fall (between ++ (rise ∷ rest)) b (step-fall f fall b w.high w.falls) in
    subst (λ (x : Captured). Risen (last_held (is_held f.held fall) between) rise x) (sym r) (up-to-rise 1 g between rise rest b refl w.low w.rises)

-- ---- CS# high throughout
abbrev up : ℕ → ℕ
up l = l / 2 * 2 + 1

up-select : (l : ℕ) → select_of (up l) ≡ true
up-select l = eq-eqb (up l % 2) 1 (omega arith)

up-clock : (l : ℕ) → clock_of (up l) ≡ clock_of l
up-clock l = let e : up l / 2 ≡ l / 2 = omega arith in ap (λ (x : ℕ). eqb (x % 2) 1) e

up-held : (h : Bool) (l : ℕ) → is_held h (up l) ≡ is_held h l
up-held h l =
    let e : up l / 16 ≡ l / 16 = omega arith in
    let k : hold_of (up l) ≡ hold_of l = ap (λ (x : ℕ). eqb (x % 2) 1) e in
    ap (λ (c : Bool). cond c h (not (hold_of (up l)))) (up-clock l) ∙ ap (λ (x : Bool). cond (clock_of l) h (not x)) k

stays-high : (n : ℕ) (f : Front) (ls : List ℕ) (rise : ℕ) (b : List ℕ) → f.select ≡ true → (run_from n f (deselected (ls ++ (rise ∷ []))) b).front ≡ idle rise (is_held (last_held f.held ls) rise)
unfolding run_from
stays-high n f [] rise b s =
    ap (λ (x : Captured). x.front) (run-silent n f (idle (up rise) (is_held f.held (up rise))) (up rise) [] b (step-high f (up rise) b s (up-select rise)))
    ∙ ap (λ (c : Bool). made true c (is_held f.held (up rise)) false false 0 0 0) (up-clock rise) ∙ ap (λ (h : Bool). idle rise h) (up-held f.held rise)
stays-high n f (l ∷ ls) rise b s =
    let g : Front = idle (up l) (is_held f.held (up l)) in
    ap (λ (x : Captured). x.front) (run-silent n f g (up l) (deselected (ls ++ (rise ∷ []))) b (step-high f (up l) b s (up-select l)))
    ∙ stays-high (suc n) g ls rise b refl ∙ ap (λ (h : Bool). idle rise (is_held (last_held h ls) rise)) (up-held f.held l)

-- ---- the promises
pub dropped : Dropped
dropped f fall between rise rest b w =
    let r = from-fall f fall between rise rest b w in
    (r.tells.refuses, r.front-is ∙ sym (stays-high 0 f (fall ∷ between) rise b w.high))

pub refuses-held : RefusesHeld
refuses-held f fall between rise rest b w = let r = from-fall f fall between rise rest b w in (r.tells.is-34, r.tells.only-34)
