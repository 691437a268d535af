-- Laws of reads that roll over from the last address to 0.
use mathlib.Core.Path.{◌≡◌, refl, sym, ap, ◌∙◌}
use mathlib.Core.List.{List, [], ◌∷◌, ◌++◌}
use Prim.Native.Nat.{ℕ, zero, suc, ◌+◌, ◌-◌, ◌%◌, ◌≤◌, ◌<◌}
use native.Mathlib.Nat.{not-suc-le-zero, le_of_suc-le-suc, add-zero, zero-add, add-suc, suc-add, mod-lt, mod_self, mod-add-mod, mod-eq_of_lt, mod-mod_of_dvd, dvd_of_mod-eq-zero}
use native.Mathlib.Omega.{arith}
use lib.ListN.{length, get_or}
use lib.Seq.{ext_get_or}
use Rattle.parts.specs.Parts.{Bytes, part, lay}
use Rattle.rings.specs.Ring.{ring, RollsOver}
use Rattle.parts.proofs.Bytes.{bytes}
use Rattle.parts.proofs.Lay.{length_part, part_at, length-lay, part-lay}

pub ring-none : (xs : List ℕ) (at : ℕ) → ring xs at 0 ≡ []
unfolding ring
ring-none xs at = refl

pub length-ring : (xs : List ℕ) (at n : ℕ) → length (ring xs at n) ≡ n
unfolding ring
length-ring xs at zero = refl
length-ring xs at (suc n) = ap suc (length-ring xs (suc at) n)

-- byte k is the one at (at + k) mod the length
pub ring-at : (xs : List ℕ) (at n k : ℕ) → k < n → get_or (ring xs at n) k 0 ≡ get_or xs ((at + k) % length xs) 0
unfolding ring
ring-at xs at zero k l = absurd (not-suc-le-zero l)
ring-at xs at (suc n) zero l = ap (λ (m : ℕ). get_or xs (m % length xs) 0) (sym (add-zero at))
ring-at xs at (suc n) (suc k) l =
    ring-at xs (suc at) n k (le_of_suc-le-suc l) ∙ ap (λ (m : ℕ). get_or xs (m % length xs) 0) (suc-add at k ∙ sym (add-suc at k))

-- and nothing else is
pub ring-is : (xs : List ℕ) (at n : ℕ) (ys : List ℕ) → length ys ≡ n → ((k : ℕ) → k < n → get_or ys k 0 ≡ get_or xs ((at + k) % length xs) 0) → ys ≡ ring xs at n
ring-is xs at n ys e h =
    ext_get_or 0 ys (ring xs at n) (e ∙ sym (length-ring xs at n)) (λ k l. h k (omega arith) ∙ sym (ring-at xs at n k (omega arith)))

-- bytes read are bytes
pub bytes-ring : {xs : List ℕ} (at n : ℕ) → Bytes xs → Bytes (ring xs at n)
bytes-ring {xs} at n p = bytes (λ k l. rw (ring-at xs at n k (rw length-ring at l)) (p.below ((at + k) % length xs)))

-- n bytes, and m more from where they end
pub ring-add : (xs : List ℕ) (at n m : ℕ) → ring xs at (n + m) ≡ ring xs at n ++ ring xs (at + n) m
unfolding ring
ring-add xs at zero m = rw (zero-add, add-zero)
ring-add xs at (suc n) m = rw (suc-add, add-suc, ← suc-add) (ap (λ (z : List ℕ). get_or xs (at % length xs) 0 ∷ z) (ring-add xs (suc at) n m))

-- the address counts modulo the length
pub ring-mod : (xs : List ℕ) (at n : ℕ) → ring xs (at % length xs) n ≡ ring xs at n
ring-mod xs at n =
    ring-is xs at n (ring xs (at % length xs) n) (length-ring xs (at % length xs) n)
    (λ k l. ring-at xs (at % length xs) n k l ∙ ap (λ (m : ℕ). get_or xs m 0) (mod-add-mod at (length xs) k))

-- a straight run is a part
pub ring-straight : (xs : List ℕ) (at n : ℕ) → at + n ≤ length xs → ring xs at n ≡ part xs at n
ring-straight xs at n h =
    sym (ring-is xs at n (part xs at n) (length_part xs at n h)
    (λ k l. part_at xs at n k l ∙ ap (λ (m : ℕ). get_or xs m 0) (sym (mod-eq_of_lt {n = at + k} {m = length xs} (omega arith)))))

pub rolls-over : RollsOver
unfolding ring
rolls-over xs h =
    let e : suc (length xs - 1) ≡ length xs = omega arith in
    rw (e, mod_self, mod-eq_of_lt {n = length xs - 1} {m = length xs} (omega arith))

-- what was laid is read back
pub ring-lay : (xs : List ℕ) (at : ℕ) (ys : List ℕ) → at + length ys ≤ length xs → ring (lay xs at ys) at (length ys) ≡ ys
ring-lay xs at ys h = ring-straight (lay xs at ys) at (length ys) (omega (arith, length-lay xs at ys h)) ∙ part-lay xs at ys (omega arith)

-- the ring of a block that is the pattern over and over is the ring of the pattern
pub ring-ring : (xs : List ℕ) (size n : ℕ) → 0 < size → size % length xs ≡ 0 → ring (ring xs 0 size) 0 n ≡ ring xs 0 n
ring-ring xs size n p h =
    ring-is xs 0 n (ring (ring xs 0 size) 0 n) (length-ring (ring xs 0 size) 0 n)
    (λ k l. ring-at (ring xs 0 size) 0 n k l ∙ ap (λ (m : ℕ). get_or (ring xs 0 size) ((0 + k) % m) 0) (length-ring xs 0 size)
    ∙ ring-at xs 0 size ((0 + k) % size) (mod-lt _ p)
    ∙ ap (λ (m : ℕ). get_or xs m 0) (same k))
  where
    same : (k : ℕ) → (0 + (0 + k) % size) % length xs ≡ (0 + k) % length xs
    same k = simp zero-add (mod-mod_of_dvd (length xs) k (dvd_of_mod-eq-zero (length xs) h))
