-- From a fall to the next rise, none held: what is handed over.
use mathlib.Core.Path.{◌≡◌, refl, ap, ◌∙◌}
use mathlib.Core.Bool.{Bool, true, false, not, ◌&&◌, cond}
use mathlib.Core.List.{List, [], ◌∷◌, ◌++◌}
use Prim.Native.Nat.{ℕ, suc, ◌+◌, ◌*◌, ◌%◌, ◌≤◌, ◌<◌}
use native.Mathlib.Nat.{zero-add}
use native.Mathlib.Numerals.{add-one}
use native.Mathlib.Omega.{arith}
use lib.Dec.{ltb}
use lib.ListN.{length, set, length-set}
use lib.Seq.{sets, sets-eq}
use borrow.Author.Tests.{not-true, ltb-true, ltb-false, lt-ltb, le-ltb}
use Rattle.parts.specs.Parts.{lay}
use Rattle.std.specs.Prelude.{Err}
use Rattle.answers.specs.declared.Refusal.TheVariants.{BadFrame}
use Rattle.answers.specs.Answers.{Done}
use Rattle.pins.specs.declared.Front.{Front}
use Rattle.pins.specs.Pins.{Told, select_of, clock_of, si_of, wp_of, is_held, frame_limit, silent, handed, told_by, idle, Sampled, sampled, risen_of, step_of}
use Rattle.pins_run.specs.Runs.{ran_to, ends, run_from}
use Rattle.pins_promises.specs.Samples.{FallToRise, all_low, none_held, bits_at, bytes_from, whole_of}
use Rattle.pins_promises.specs.Promises.{HandsOver}
use Rattle.units.proofs.Bools.{both}
use Rattle.pins.proofs.Table.{step-fall, step-rise}
use Rattle.pins_run.proofs.Going.{run-silent, run_end, made}
use Rattle.pins_promises.proofs.Within.{at, Low, first_low, no-clock, one-bit, whole_byte}

-- ---- from a fall to a rise
rises : (n k : ℕ) (clock wp : Bool) (bits value rise : ℕ) (rest buffer : List ℕ) → select_of rise ≡ true → k ≤ length buffer
    → run_from n (at clock wp bits value k) (rise ∷ rest) buffer ≡ ran_to (suc n) (idle rise (is_held false rise)) (handed k bits wp) buffer
unfolding risen_of
rises n k clock wp bits value rise rest buffer q h =
    let f : Front = at clock wp bits value k in
    let e : step_of f rise buffer ≡ sampled (idle rise (is_held false rise)) (handed k bits wp) buffer =
    step-rise f rise buffer refl q ∙ ap (λ (t : Told). sampled (idle rise (is_held false rise)) t buffer)
    (ap (λ (o : Bool). told_by (cond o (Err BadFrame) Done) (handed k bits wp)) (le-ltb (length buffer) k h)) in
    run_end n f rise rest buffer (ap (λ (x : Sampled). ends x.told) e) ∙ ap (λ (x : Sampled). ran_to (suc n) x.front x.told x.buffer) e

turn : (a b : ℕ) → a < 7 → (a + 1 + b) % 8 ≡ (a + suc b) % 8
turn a b h = ap (λ (x : ℕ). x % 8) {x = a + 1 + b} {y = a + suc b} (omega arith)

Collected : ℕ → Bool → Bool → ℕ → ℕ → ℕ → List ℕ → ℕ → List ℕ → List ℕ → Type 0
Collected n clock wp bits value k ls rise rest buffer =
    k + length (bytes_from bits value (bits_at clock ls)) ≤ frame_limit → k + length (bytes_from bits value (bits_at clock ls)) ≤ length buffer
    → run_from n (at clock wp bits value k) (ls ++ (rise ∷ rest)) buffer
    ≡ ran_to (n + length ls + 1) (idle rise (is_held false rise)) (handed (k + length (bytes_from bits value (bits_at clock ls))) ((bits + length (bits_at clock ls)) % 8) wp)
    (sets buffer k (bytes_from bits value (bits_at clock ls)))

collect : (n : ℕ) (clock wp : Bool) (bits value k : ℕ) (ls : List ℕ) (rise : ℕ) (rest buffer : List ℕ) → bits ≤ 7 → all_low ls ≡ true → none_held false ls ≡ true → select_of rise ≡ true
    → Collected n clock wp bits value k ls rise rest buffer
unfolding Collected
collect n clock wp bits value k [] rise rest buffer few low none q m h =
    let z : k + 0 ≡ k = omega arith in
    let t : (bits + 0) % 8 ≡ bits = omega arith in
    let s : n + 0 + 1 ≡ suc n = omega arith in
    rw (z, t, s) (rises n k clock wp bits value rise rest buffer q (omega arith))
collect n clock wp bits value k (l ∷ ls) rise rest buffer few low none q m₀ h₀ =
    let w = first_low l ls low none in
    go w (not clock && clock_of l) refl (ltb bits 7) refl (λ c v n' k' b' x. collect (suc n) c wp n' v k' ls rise rest b' x w.lows w.frees q) m₀ h₀
  where
    more : n + length (l ∷ ls) + 1 ≡ suc n + length ls + 1
    more = omega arith

    go : Low l ls → (t : Bool) → (not clock && clock_of l) ≡ t → (s : Bool) → ltb bits 7 ≡ s → ((c : Bool) (v n' k' : ℕ) (b' : List ℕ) → n' ≤ 7 → Collected (suc n) c wp n' v k' ls rise rest b')
        → Collected n clock wp bits value k (l ∷ ls) rise rest buffer
    go w false p s r ih m h =
        rw (p, more)
        (run-silent n _ _ l (ls ++ (rise ∷ rest)) buffer (no-clock clock wp l buffer w.low w.free bits value k p)
        ∙ ih (clock_of l) value bits k buffer few (rw p at m) (rw p at h))
    go w true p true r ih m h =
        rw (p, r, more, ← (turn bits (length (bits_at (clock_of l) ls)) (ltb-true bits 7 r)))
        (run-silent n _ _ l (ls ++ (rise ∷ rest)) buffer (one-bit clock wp l buffer w.low w.free bits value k p r)
        ∙ ih (clock_of l) (2 * value + si_of l) (bits + 1) k buffer (omega (arith, ltb-true bits 7 r)) (rw (p, r) at m) (rw (p, r) at h))
    go w true p false r ih m h =
        let v : ℕ = 2 * value + si_of l in
        let seven : bits ≡ 7 = omega (arith, ltb-false bits 7 r) in
        let m' : k + suc (length (bytes_from 0 0 (bits_at (clock_of l) ls))) ≤ frame_limit = rw (p, r) at m in
        let h' : k + suc (length (bytes_from 0 0 (bits_at (clock_of l) ls))) ≤ length buffer = rw (p, r) at h in
        let fits : (ltb k frame_limit && ltb k (length buffer)) ≡ true = rw (lt-ltb k frame_limit (omega arith), lt-ltb k (length buffer) (omega arith)) in
        let len : length (set buffer k v) ≡ length buffer = simp length-set in
        let count : k + suc (length (bytes_from 0 0 (bits_at (clock_of l) ls))) ≡ k + 1 + length (bytes_from 0 0 (bits_at (clock_of l) ls)) = omega arith in
        let tail : (bits + suc (length (bits_at (clock_of l) ls))) % 8 ≡ (0 + length (bits_at (clock_of l) ls)) % 8 = rw seven (omega arith) in
        rw (p, r, more, count, tail)
        (run-silent n _ _ l (ls ++ (rise ∷ rest)) buffer (whole_byte clock wp l buffer w.low w.free bits value k p r fits)
        ∙ ih (clock_of l) 0 0 (k + 1) (set buffer k v) (omega arith) (omega arith) (omega arith)
        ∙ ap
        (λ (x : ℕ).
        ran_to (suc n + length ls + 1) (idle rise (is_held false rise))
        (handed (k + 1 + length (bytes_from 0 0 (bits_at (clock_of l) ls))) ((0 + length (bits_at (clock_of l) ls)) % 8) wp)
        (sets (set buffer k v) x (bytes_from 0 0 (bits_at (clock_of l) ls))))
        (add-one k))

-- the fall, not held
pub falls_at : (f : Front) (fall : ℕ) (between : List ℕ) (rise : ℕ) (rest buffer : List ℕ) → FallToRise f fall between rise → is_held f.held fall ≡ false
    → run_from 0 f (fall ∷ (between ++ (rise ∷ rest))) buffer ≡ run_from 1 (at (clock_of fall) (wp_of fall) 0 0 0) (between ++ (rise ∷ rest)) buffer
falls_at f fall between rise rest buffer w nh =
    run-silent 0 f (at (clock_of fall) (wp_of fall) 0 0 0) fall (between ++ (rise ∷ rest)) buffer
    (step-fall f fall buffer w.high w.falls ∙ ap (λ (x : Bool). sampled (made false (clock_of fall) x (wp_of fall) false 0 0 0) silent buffer) nh)

laid : (buffer ys : List ℕ) → length ys ≤ length buffer → sets buffer 0 ys ≡ lay buffer 0 ys
unfolding lay
laid buffer ys h = sets-eq ys buffer 0 (omega arith)

pub hands-over : HandsOver
unfolding Collected
hands-over f fall between rise rest buffer w none m h =
    let b = both (not (is_held f.held fall)) (none_held (is_held f.held fall) between) none in
    let nh : is_held f.held fall ≡ false = not-true (is_held f.held fall) b.0 in
    let bits : List ℕ = bits_at (clock_of fall) between in
    falls_at f fall between rise rest buffer w nh
    ∙ collect 1 (clock_of fall) (wp_of fall) 0 0 0 between rise rest buffer (omega arith) w.low (rw nh at b.1) w.rises (omega arith) (omega arith)
    ∙ ap (λ (x : ℕ). ran_to x (idle rise (is_held false rise)) (handed (0 + length (whole_of bits)) ((0 + length bits) % 8) (wp_of fall)) (sets buffer 0 (whole_of bits))) {x = 1 + length between + 1} {y = length between + 2} (omega arith)
    ∙ ap (λ (x : ℕ). ran_to (length between + 2) (idle rise (is_held false rise)) (handed x ((0 + length bits) % 8) (wp_of fall)) (sets buffer 0 (whole_of bits))) (zero-add (length (whole_of bits)))
    ∙ ap (λ (x : ℕ). ran_to (length between + 2) (idle rise (is_held false rise)) (handed (length (whole_of bits)) (x % 8) (wp_of fall)) (sets buffer 0 (whole_of bits))) (zero-add (length bits))
    ∙ ap (λ (x : List ℕ). ran_to (length between + 2) (idle rise (is_held false rise)) (handed (length (whole_of bits)) (length bits % 8) (wp_of fall)) x) (laid buffer (whole_of bits) h)
