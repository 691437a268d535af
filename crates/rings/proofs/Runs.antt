-- What the loops that read and repeat keep: straight runs of a ring, one after the other.
use mathlib.Core.Path.{◌≡◌, refl, sym, ap, ap₂, ◌∙◌}
use mathlib.Core.List.{List, ◌++◌}
use Prim.Native.Nat.{ℕ, zero, suc, ◌+◌, ◌-◌, ◌%◌, ◌≤◌, ◌<◌}
use native.Mathlib.Nat.{zero-add, add-zero, mod_self, mod-lt, mod-eq_of_lt, mod-add-mod, not-suc-le-zero}
use native.Mathlib.Omega.{arith}
use lib.ListN.{length, take, drop, get_or, length-drop}
use lib.Seq.{take_all, length-take-le}
use borrow.Rule.Slice.PartMut.{put_mid, same_len_mid, mid_len}
use Rattle.std.proofs.lemmas.List.{take_rest}
use Rattle.std.proofs.lemmas.Slice.{take-put_mid}
use Rattle.rings.specs.Ring.{ring}
use Rattle.rings.proofs.Ring.{ring-is, ring-add, ring-mod, ring-straight, ring-ring}
use Rattle.parts.proofs.Loop.{Done}

-- the first i elements of out are those of xs from address a on, and run is what follows in xs
pub record ReadTo (xs : List ℕ) (a i : ℕ) (out run : List ℕ) : Type 0 where
  pub some : 0 < length xs
  pub fits : i ≤ length out
  pub is : take i out ≡ ring xs a i
  pub follows : run ≡ drop ((a + i) % length xs) xs

pub read_none : (xs : List ℕ) (a : ℕ) (out : List ℕ) → a < length xs → ReadTo xs a 0 out (take (length xs - a) (drop a xs))
unfolding ring
read_none xs a out h =
    let here : a ≡ (a + 0) % length xs = sym (ap (λ (k : ℕ). k % length xs) (add-zero a) ∙ mod-eq_of_lt h) in
    record { some = omega arith; fits = omega arith; is = refl; follows = take_rest xs a ∙ ap (λ (k : ℕ). drop k xs) here }

-- how much follows
run_long : {xs : List ℕ} {a i : ℕ} {out run : List ℕ} → ReadTo xs a i out run → length run ≡ length xs - (a + i) % length xs
run_long {xs} {a} {i} h = ap length h.follows ∙ length-drop ((a + i) % length xs) xs

-- the front of what follows is a run of the ring
run_front : {xs : List ℕ} {a i : ℕ} {out run : List ℕ} (n : ℕ) → ReadTo xs a i out run → n ≤ length run → take n run ≡ ring xs (a + i) n
run_front {xs} {a} {i} {out} {run} n h l =
    let at = (a + i) % length xs in
    let below : at < length xs = mod-lt (a + i) h.some in
    ap (take n) h.follows ∙ sym (ring-straight xs at n (omega (arith, run_long h))) ∙ ring-mod xs (a + i) n

-- so much more is read, as a part that came back
read_part : {xs : List ℕ} {a i : ℕ} {out run : List ℕ} (next : ℕ) (ys : List ℕ) → ReadTo xs a i out run → i ≤ next → next ≤ length out → next - i ≤ length run → ys ≡ take (next - i) run
    → take next (put_mid i (next - i) out ys) ≡ ring xs a next
read_part {xs} {a} {i} {out} {run} next ys h l m n e =
    let long : length ys ≡ next - i = ap length e ∙ length-take-le (next - i) run n in
    let count : i + (next - i) ≡ next = omega arith in
    take-put_mid i (next - i) out ys next (omega arith) (omega arith)
    ∙ ap₂ (λ (y z : List ℕ). y ++ z) h.is (e ∙ run_front (next - i) h n)
    ∙ sym (ring-add xs a i (next - i)) ∙ ap (ring xs a) count

-- a run to the end of xs, after which the read goes on at 0
pub read_run : {xs : List ℕ} {a i : ℕ} {out run : List ℕ} (next : ℕ) (ys : List ℕ) → ReadTo xs a i out run → next ≡ i + length run → next ≤ length out → ys ≡ run
    → ReadTo xs a next (put_mid i (next - i) out ys) xs
read_run {xs} {a} {i} {out} {run} next ys h e m y =
    let n : next - i ≡ length run = omega arith in
    let all : run ≡ take (next - i) run = sym (take_all (next - i) run (omega arith)) in
    let at = (a + i) % length xs in
    let below : at < length xs = mod-lt (a + i) h.some in
    let goes_on : 0 ≡ (a + next) % length xs =
    sym (ap (λ (k : ℕ). k % length xs) {x = a + next} {y = a + i + length run} (omega arith) ∙ sym (mod-add-mod (a + i) (length xs) (length run))
    ∙ ap (λ (k : ℕ). k % length xs) {x = at + length run} {y = length xs} (omega (arith, run_long h)) ∙ mod_self (length xs)) in
    record {
      some = h.some;
      fits = rw (same_len_mid i (next - i) out ys (ap length y ∙ sym n ∙ sym (mid_len i next out m))) m;
      is = read_part next ys h (omega arith) m (omega arith) (y ∙ all);
      follows = ap (λ (k : ℕ). drop k xs) goes_on;
    }

-- the last run
pub read_last : {xs : List ℕ} {a i : ℕ} {out run : List ℕ} (n : ℕ) (ys : List ℕ) → ReadTo xs a i out run → n ≡ length out → n ≤ i + length run → ys ≡ take (n - i) run
    → put_mid i (n - i) out ys ≡ ring xs a n
read_last {xs} {a} {i} {out} {run} n ys h e m y =
    let l : i ≤ n = omega (arith, h.fits) in
    let count : length ys ≡ n - i = ap length y ∙ length-take-le (n - i) run (omega arith) in
    let long : length (put_mid i (n - i) out ys) ≡ n =
    same_len_mid i (n - i) out ys (count ∙ sym (mid_len i n out (omega arith))) ∙ sym e in
    sym (take_all n (put_mid i (n - i) out ys) (omega arith)) ∙ read_part n ys h l (omega arith) (omega arith) y

-- the loop that steps through a pattern
pub repeated : (p : List ℕ) (i : ℕ) (d xs : List ℕ) → Done (λ (k old : ℕ). get_or p (k % length p) 0) i d xs → length d ≤ i → xs ≡ ring p 0 (length d)
repeated p i d xs h l =
    ring-is p 0 (length d) xs h.same (λ k m. h.passed k (omega arith) ∙ ap (λ (n : ℕ). get_or p (n % length p) 0) (sym (zero-add k)))

-- the next place in the pattern
pub step : (i k n r : ℕ) → k ≡ i % n → r ≡ (k + 1) % n → r ≡ (i + 1) % n
step i k n r e f = f ∙ ap (λ (m : ℕ). (m + 1) % n) e ∙ mod-add-mod i n 1

-- 1, 2 and 3 divide 24
pub divides : (n : ℕ) → 0 < n → n ≤ 3 → 24 % n ≡ 0
divides zero l m = absurd (not-suc-le-zero l)
divides (suc zero) l m = refl
divides (suc (suc zero)) l m = refl
divides (suc (suc (suc zero))) l m = refl
divides (suc (suc (suc (suc n)))) l m = absurd (let z : 4 + n ≤ 3 = omega arith in omega arith)

-- read out of a block of 24 elements
pub block_read : (p block out : List ℕ) (n : ℕ) → 0 < length p → length p ≤ 3 → block ≡ ring p 0 24 → out ≡ ring block 0 n → out ≡ ring p 0 n
block_read p block out n l m e f = f ∙ ap (λ (z : List ℕ). ring z 0 n) e ∙ ring-ring p 24 n (omega arith) (divides (length p) l m)
