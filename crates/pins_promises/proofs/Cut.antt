-- A run, cut anywhere.
use mathlib.Core.Path.{◌≡◌, refl, sym, ap, ◌∙◌}
use mathlib.Core.Bool.{Bool, true, false, cond}
use mathlib.Core.List.{List, [], ◌∷◌, ◌++◌}
use Prim.Native.Nat.{ℕ, suc, ◌+◌}
use native.Mathlib.Nat.{add-zero, add-suc}
use Rattle.answers.specs.declared.Refusal.TheVariants.{BadState}
use Rattle.pins.specs.declared.Front.{Front}
use Rattle.pins.specs.Pins.{front_ok, refused, step_of}
use Rattle.pins_run.specs.Runs.{Captured, ran_to, ends, run_from, run_of, ran_of}
use Rattle.pins_promises.specs.Promises.{plus, CutAnywhere}
use Rattle.pins.proofs.Choices.{on-true, on-false}
use Rattle.pins.proofs.Table.{sound, ok}
use Rattle.pins_run.proofs.Going.{run_on, run_end, run_sound}

-- ---- a run, cut anywhere
run-cut : (n : ℕ) (f : Front) (xs ys b : List ℕ) → run_from n f (xs ++ ys) b ≡ cond (ends (run_from n f xs b).told) (run_from n f xs b) (run_from (run_from n f xs b).used (run_from n f xs b).front ys (run_from n f xs b).buffer)
unfolding run_from
run-cut n f [] ys b = refl
run-cut n f (x ∷ xs) ys b = go (ends (step_of f x b).told) refl (run-cut (suc n) (step_of f x b).front xs ys (step_of f x b).buffer)
  where
    rest : Captured → Captured
    rest r = cond (ends r.told) r (run_from r.used r.front ys r.buffer)

    go : (t : Bool) → ends (step_of f x b).told ≡ t → run_from (suc n) (step_of f x b).front (xs ++ ys) (step_of f x b).buffer ≡ rest (run_from (suc n) (step_of f x b).front xs (step_of f x b).buffer)
        → run_from n f ((x ∷ xs) ++ ys) b ≡ cond (ends (run_from n f (x ∷ xs) b).told) (run_from n f (x ∷ xs) b) (run_from (run_from n f (x ∷ xs) b).used (run_from n f (x ∷ xs) b).front ys (run_from n f (x ∷ xs) b).buffer)
    go true p ih =
        let e = run_end n f x xs b p in
        run_end n f x (xs ++ ys) b p ∙ sym (ap (λ (r : Captured). cond (ends r.told) r (run_from r.used r.front ys r.buffer)) e ∙ on-true _ _ _ p)
    go false p ih =
        let e = run_on n f x xs b p in
        run_on n f x (xs ++ ys) b p ∙ ih ∙ sym (ap (λ (r : Captured). cond (ends r.told) r (run_from r.used r.front ys r.buffer)) e)

run-plus : (m n : ℕ) (f : Front) (ls b : List ℕ) → run_from (m + n) f ls b ≡ plus m (run_from n f ls b)
unfolding run_from
run-plus m n f [] b = refl
run-plus m n f (l ∷ ls) b = go (ends (step_of f l b).told) refl (run-plus m (suc n) (step_of f l b).front ls (step_of f l b).buffer)
  where
    go : (t : Bool) → ends (step_of f l b).told ≡ t → run_from (m + suc n) (step_of f l b).front ls (step_of f l b).buffer ≡ plus m (run_from (suc n) (step_of f l b).front ls (step_of f l b).buffer)
        → run_from (m + n) f (l ∷ ls) b ≡ plus m (run_from n f (l ∷ ls) b)
    go true p ih = run_end (m + n) f l ls b p ∙ ap (λ (k : ℕ). ran_to k (step_of f l b).front (step_of f l b).told (step_of f l b).buffer) (sym (add-suc m n)) ∙ sym (ap (plus m) (run_end n f l ls b p))
    go false p ih = run_on (m + n) f l ls b p ∙ ap (λ (k : ℕ). run_from k (step_of f l b).front ls (step_of f l b).buffer) (sym (add-suc m n)) ∙ ih ∙ sym (ap (plus m) (run_on n f l ls b p))

right-ran : (f : Front) (ls b : List ℕ) → front_ok f ≡ true → ran_of f ls b ≡ run_of f ls b
unfolding ran_of
right-ran f ls b p = on-true (front_ok f) _ _ p

wrong-ran : (f : Front) (ls b : List ℕ) → front_ok f ≡ false → ran_of f ls b ≡ ran_to 0 f (refused BadState) b
unfolding ran_of
wrong-ran f ls b p = on-false (front_ok f) _ _ p

abbrev gone : Captured → List ℕ → Captured
gone r ys = cond (ends r.told) r (plus r.used (ran_of r.front ys r.buffer))

pub cut-anywhere : CutAnywhere
cut-anywhere f xs ys b = go (front_ok f) refl
  where
    go : (t : Bool) → front_ok f ≡ t → ran_of f (xs ++ ys) b ≡ gone (ran_of f xs b) ys
    go false p = wrong-ran f (xs ++ ys) b p ∙ sym (ap (λ (r : Captured). gone r ys) (wrong-ran f xs b p))
    go true p =
        let r : Captured = run_of f xs b in
        let k : ran_of r.front ys r.buffer ≡ run_of r.front ys r.buffer = right-ran r.front ys r.buffer (ok r.front (run_sound 0 f xs b (sound f p))) in
        let later : run_from r.used r.front ys r.buffer ≡ plus r.used (ran_of r.front ys r.buffer) =
        ap (λ (n : ℕ). run_from n r.front ys r.buffer) (sym (add-zero r.used)) ∙ run-plus r.used 0 r.front ys r.buffer ∙ ap (plus r.used) (sym k) in
        right-ran f (xs ++ ys) b p ∙ run-cut 0 f xs ys b ∙ ap (λ (x : Captured). cond (ends r.told) r x) later ∙ sym (ap (λ (x : Captured). gone x ys) (right-ran f xs b p))
