-- Lists of bytes: what is made of bytes is bytes, and numbers in bytes.
use mathlib.Core.Path.{◌≡◌, refl}
use mathlib.Core.Bool.{Bool, true, false}
use mathlib.Core.List.{List, [], ◌∷◌, ◌++◌}
use Prim.Native.Nat.{ℕ, suc, ◌+◌, ◌*◌, ◌-◌, ◌/◌, ◌%◌, ◌^◌, ◌≤◌, ◌<◌}
use native.Mathlib.Omega.{arith}
use lib.Dec.{ltb}
use lib.ListN.{length, take, drop, get_or, replicate, length-take, length-replicate, get_or-replicate, get_or-append, get_or-eq_default}
use lib.Seq.{get_or-take, get_or-drop, get_or-append-add}
use borrow.Author.Tests.{ltb-true, ltb-false}
use Rattle.parts.specs.Parts.{Bytes, part, lay, bytes_of, spelt}

-- it is enough to look at the list's own indices
pub bytes : {xs : List ℕ} → ((k : ℕ) → k < length xs → get_or xs k 0 < 256) → Bytes xs
bytes {xs} h = record { below = λ k. at k (ltb k (length xs)) refl }
  where
    at : (k : ℕ) (t : Bool) → ltb k (length xs) ≡ t → get_or xs k 0 < 256
    at k true e = h k (ltb-true k (length xs) e)
    at k false e = rw (get_or-eq_default xs 0 (ltb-false k (length xs) e)) (omega arith)

pub bytes-replicate : (n v : ℕ) → v < 256 → Bytes (replicate n v)
bytes-replicate n v l = bytes (λ k m. rw (get_or-replicate n k v 0 (rw length-replicate at m)) l)

pub bytes-append : {xs ys : List ℕ} → Bytes xs → Bytes ys → Bytes (xs ++ ys)
bytes-append {xs} {ys} p q = record { below = λ k. at k (ltb k (length xs)) refl }
  where
    at : (k : ℕ) (t : Bool) → ltb k (length xs) ≡ t → get_or (xs ++ ys) k 0 < 256
    at k true e = rw (get_or-append xs ys 0 k (ltb-true k (length xs) e)) (p.below k)
    at k false e =
        let l : length xs ≤ k = ltb-false k (length xs) e in
        let i : k ≡ length xs + (k - length xs) = omega arith in
        rw (i, get_or-append-add xs ys (k - length xs) 0) (q.below (k - length xs))

pub bytes_take : (n : ℕ) {xs : List ℕ} → Bytes xs → Bytes (take n xs)
bytes_take n {xs} p = bytes (λ k m. rw (get_or-take n xs k 0 (omega (arith, rw length-take at m))) (p.below k))

pub bytes_drop : (n : ℕ) {xs : List ℕ} → Bytes xs → Bytes (drop n xs)
bytes_drop n {xs} p = record { below = λ k. rw (get_or-drop n xs k 0) (p.below (n + k)) }

pub bytes-part : (at n : ℕ) {xs : List ℕ} → Bytes xs → Bytes (part xs at n)
bytes-part at n p = bytes_take n (bytes_drop at p)

pub bytes-lay : (at : ℕ) {xs ys : List ℕ} → Bytes xs → Bytes ys → Bytes (lay xs at ys)
unfolding lay
bytes-lay at {xs} {ys} p q = bytes-append (bytes_take at p) (bytes-append q (bytes_drop (at + length ys) p))

-- ---- numbers, the low byte first
pub spelt-bytes : (x : ℕ) → x < 2 ^ 32 → spelt (bytes_of 4 x) ≡ x
spelt-bytes x h = omega arith

lowest : (b s : ℕ) → b < 256 → ((b + 256 * s) % 256 ≡ b) × ((b + 256 * s) / 256 ≡ s)
lowest b s h = (omega arith, omega arith)

pub bytes-spelt : (bs : List ℕ) → ((i : ℕ) → get_or bs i 0 < 256) → bytes_of (length bs) (spelt bs) ≡ bs
bytes-spelt [] h = refl
bytes-spelt (b ∷ bs) h =
    let k = lowest b (spelt bs) (h 0) in
    rw (k.0, k.1, bytes-spelt bs (λ (i : ℕ). h (suc i)))
