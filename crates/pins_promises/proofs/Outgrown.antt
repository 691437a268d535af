-- From a fall to the next rise, none held: a frame that does not fit is answered 4.
use mathlib.Core.Path.{◌≡◌, refl, ap, ◌∙◌}
use mathlib.Core.Bool.{Bool, true, false, not, ◌&&◌}
use mathlib.Core.List.{List, [], ◌∷◌, ◌++◌}
use Prim.Native.Nat.{ℕ, suc, ◌+◌, ◌*◌, ◌≤◌, ◌<◌}
use native.Mathlib.Omega.{arith}
use lib.Dec.{ltb}
use lib.ListN.{length, set, length-set}
use borrow.Author.Tests.{not-true, ltb-true}
use Rattle.answers.specs.declared.Refusal.TheVariants.{BadFrame}
use Rattle.units.proofs.Bools.{both}
use Rattle.pins.specs.declared.Front.{Front}
use Rattle.pins.specs.Pins.{select_of, clock_of, si_of, wp_of, is_held, frame_limit, silent, refused, idle, Sampled, sampled, risen_of, step_of}
use Rattle.pins.proofs.Table.{step-rise}
use Rattle.pins_run.specs.Runs.{Captured, ends, run_from}
use Rattle.pins_run.proofs.Going.{run-silent, run_end}
use Rattle.pins_promises.specs.Samples.{all_low, none_held, bits_at, bytes_from}
use Rattle.pins_promises.specs.Promises.{Outgrows}
use Rattle.pins_promises.proofs.Within.{at, gone, Low, first_low, gone-on, no-clock, one-bit, whole_byte, one-over}
use Rattle.pins_promises.proofs.Handed.{falls_at}

-- ---- a frame that has outgrown
gone-rises : (n : ℕ) (clock wp : Bool) (rise : ℕ) (rest buffer : List ℕ) → select_of rise ≡ true → (run_from n (gone clock wp) (rise ∷ rest) buffer).told ≡ refused BadFrame
unfolding risen_of
gone-rises n clock wp rise rest buffer q =
    let e : step_of (gone clock wp) rise buffer ≡ sampled (idle rise (is_held false rise)) (refused BadFrame) buffer = step-rise (gone clock wp) rise buffer refl q in
    ap (λ (r : Captured). r.told) (run_end n (gone clock wp) rise rest buffer (ap (λ (x : Sampled). ends x.told) e)) ∙ ap (λ (x : Sampled). x.told) e

gone-stays : (n : ℕ) (clock wp : Bool) (ls : List ℕ) (rise : ℕ) (rest buffer : List ℕ) → all_low ls ≡ true → none_held false ls ≡ true → select_of rise ≡ true
    → (run_from n (gone clock wp) (ls ++ (rise ∷ rest)) buffer).told ≡ refused BadFrame
gone-stays n clock wp [] rise rest buffer low none q = gone-rises n clock wp rise rest buffer q
gone-stays n clock wp (l ∷ ls) rise rest buffer low none q =
    let w = first_low l ls low none in
    ap (λ (r : Captured). r.told) (run-silent n _ _ l (ls ++ (rise ∷ rest)) buffer (gone-on clock wp l buffer w.low w.free))
    ∙ gone-stays (suc n) (clock_of l) wp ls rise rest buffer w.lows w.frees q

-- ---- a frame that will not fit
Over : ℕ → Bool → Bool → ℕ → ℕ → ℕ → List ℕ → ℕ → List ℕ → List ℕ → Type 0
Over n clock wp bits value k ls rise rest buffer =
    (k + length (bytes_from bits value (bits_at clock ls)) ≤ frame_limit → k + length (bytes_from bits value (bits_at clock ls)) ≤ length buffer → ⊥)
    → (run_from n (at clock wp bits value k) (ls ++ (rise ∷ rest)) buffer).told ≡ refused BadFrame

over : (n : ℕ) (clock wp : Bool) (bits value k : ℕ) (ls : List ℕ) (rise : ℕ) (rest buffer : List ℕ) → bits ≤ 7 → k ≤ frame_limit → k ≤ length buffer
    → all_low ls ≡ true → none_held false ls ≡ true → select_of rise ≡ true → Over n clock wp bits value k ls rise rest buffer
unfolding Over
over n clock wp bits value k [] rise rest buffer few m r low none q h = absurd (h (omega arith) (omega arith))
over n clock wp bits value k (l ∷ ls) rise rest buffer few m r low none q h₀ =
    let w = first_low l ls low none in
    go w (not clock && clock_of l) refl (ltb bits 7) refl (ltb k frame_limit && ltb k (length buffer)) refl
    (λ c v n' k' b' x y z. over (suc n) c wp n' v k' ls rise rest b' x y z w.lows w.frees q)
    (λ c. gone-stays (suc n) c wp ls rise rest buffer w.lows w.frees q) h₀
  where
    goes : {g : Front} {b' : List ℕ} → step_of (at clock wp bits value k) l buffer ≡ sampled g silent b' → (run_from (suc n) g (ls ++ (rise ∷ rest)) b').told ≡ refused BadFrame
        → (run_from n (at clock wp bits value k) ((l ∷ ls) ++ (rise ∷ rest)) buffer).told ≡ refused BadFrame
    goes {g} e z = ap (λ (x : Captured). x.told) (run-silent n (at clock wp bits value k) g l (ls ++ (rise ∷ rest)) buffer e) ∙ z

    go : Low l ls → (t : Bool) → (not clock && clock_of l) ≡ t → (s : Bool) → ltb bits 7 ≡ s → (u : Bool) → (ltb k frame_limit && ltb k (length buffer)) ≡ u
        → ((c : Bool) (v n' k' : ℕ) (b' : List ℕ) → n' ≤ 7 → k' ≤ frame_limit → k' ≤ length b' → Over (suc n) c wp n' v k' ls rise rest b')
        → ((c : Bool) → (run_from (suc n) (gone c wp) (ls ++ (rise ∷ rest)) buffer).told ≡ refused BadFrame)
        → Over n clock wp bits value k (l ∷ ls) rise rest buffer
    go w false p s e u f ih out h = goes (no-clock clock wp l buffer w.low w.free bits value k p) (ih (clock_of l) value bits k buffer few m r (rw p at h))
    go w true p true e u f ih out h =
        goes (one-bit clock wp l buffer w.low w.free bits value k p e) (ih (clock_of l) (2 * value + si_of l) (bits + 1) k buffer (omega (arith, ltb-true bits 7 e)) m r (rw (p, e) at h))
    go w true p false e true f ih out h =
        let v : ℕ = 2 * value + si_of l in
        let room = both (ltb k frame_limit) (ltb k (length buffer)) f in
        let len : length (set buffer k v) ≡ length buffer = simp length-set in
        let h' : (k + suc (length (bytes_from 0 0 (bits_at (clock_of l) ls))) ≤ frame_limit → k + suc (length (bytes_from 0 0 (bits_at (clock_of l) ls))) ≤ length buffer → ⊥) = rw (p, e) at h in
        let below : k < length buffer = ltb-true k (length buffer) room.1 in
        goes (whole_byte clock wp l buffer w.low w.free bits value k p e f)
        (ih (clock_of l) 0 0 (k + 1) (set buffer k v) (omega arith) (omega (arith, ltb-true k frame_limit room.0)) (omega arith) (λ x y. h' (omega (arith, x)) (omega (arith, y))))
    go w true p false e false f ih out h = goes (one-over clock wp l buffer w.low w.free bits value k p e f) (out (clock_of l))

pub outgrows : Outgrows
unfolding Over
outgrows f fall between rise rest buffer w none h =
    let b = both (not (is_held f.held fall)) (none_held (is_held f.held fall) between) none in
    let nh : is_held f.held fall ≡ false = not-true (is_held f.held fall) b.0 in
    ap (λ (r : Captured). r.told) (falls_at f fall between rise rest buffer w nh)
    ∙ over 1 (clock_of fall) (wp_of fall) 0 0 0 between rise rest buffer (omega arith) (omega arith) (omega arith) w.low (rw nh at b.1) w.rises (λ x y. h (omega (arith, x)) (omega (arith, y)))
