-- Laws of the packed state.
use mathlib.Core.Path.{◌≡◌, refl, sym, ap, ◌∙◌}
use mathlib.Core.Bool.{Bool, true, false, not, ◌&&◌, and-true, and_assoc}
use mathlib.Core.List.{List, [], ◌∷◌, ◌++◌, append_assoc}
use Prim.Native.Nat.{ℕ, zero, suc, ◌+◌, ◌/◌, ◌%◌, ◌^◌, ◌≤◌, ◌<◌}
use native.Mathlib.Omega.{arith}
use lib.Dec.{eqb, leb}
use lib.ListN.{length, get_or, take, drop, take-append-drop, length-set}
use borrow.Rule.Slice.PartMut.{put_mid}
use lib.Seq.{sets, sets-eq, take-add, drop-drop}
use mir.Val.{bool_byte}
use borrow.Author.Tests.{eqb-true, eq-eqb, ne_eqb}
use Rattle.parts.specs.Parts.{bytes_of, spelt}
use Rattle.parts.proofs.Bytes.{spelt-bytes, bytes-spelt}
use Rattle.units.proofs.Bools.{both}
use Rattle.states.specs.States.{flag, status_of}
use Rattle.states.specs.declared.State.{State}
use Rattle.packing.specs.Packing.{time_at, place_bytes, place_spelt, pack_of, packed, page_in, read_of, same, is_packing, no_state, unpack_of, busy_in}
use Rattle.packing.proofs.Bytes.{place-back, place-bytes, same_refl, same-eq, four-at}
use Rattle.packing.proofs.Status.{flag-byte, flag-back, srwd-back, bp-back, wel-back, status-test, flag-test}

-- a state that fits its sixteen bytes
pub record Small (s : State) : Type 0 where
  pub level : s.bp ≤ 15
  pub short : s.busy < 2 ^ 32
  pub brief : s.settle < 2 ^ 32
  pub near : s.address < 2 ^ 24

-- ---- packing
read-pack : (s : State) (page : List ℕ) → Small s → read_of (packed s page) ≡ s
unfolding read_of pack_of status_of
read-pack s page h =
    let w = not (eqb s.busy 0) in
    rw (srwd-back s.srwd s.wel w s.bp h.level, bp-back s.srwd s.wel w s.bp h.level, wel-back s.srwd s.wel w s.bp, flag-back s.asleep, spelt-bytes s.busy h.short, spelt-bytes s.settle h.brief, place-back s.address h.near)

-- the page data are what is packed after the state
pub page-packed : (s : State) (page : List ℕ) → page_in (packed s page) ≡ page
unfolding pack_of
page-packed s page = refl

-- the code's sixteen bytes, stored one after the other
abbrev time_bytes : ℕ → List ℕ → List ℕ
time_bytes us more = us % 256 ∷ us / 256 % 256 ∷ us / 65536 % 256 ∷ us / 16777216 % 256 ∷ more

time-bytes : (us : ℕ) (more : List ℕ) → time_bytes us more ≡ bytes_of 4 us ++ more
time-bytes us more =
    let two : us / 65536 % 256 ≡ us / 256 / 256 % 256 = omega arith in
    let three : us / 16777216 % 256 ≡ us / 256 / 256 / 256 % 256 = omega arith in
    rw (two, three)

abbrev operation_bytes : State → List ℕ
operation_bytes s = s.command ∷ place_bytes s.address

abbrev stores : State → ℕ → List ℕ
stores s status = status ∷ bool_byte s.asleep ∷ s.config ∷ 0 ∷ time_bytes s.busy (time_bytes s.settle (operation_bytes s))

stores-pack : (s : State) {status : ℕ} → status ≡ status_of s → stores s status ≡ pack_of s
unfolding pack_of
stores-pack s e =
    let times = ap (time_bytes s.busy) (time-bytes s.settle (operation_bytes s)) ∙ time-bytes s.busy (bytes_of 4 s.settle ++ operation_bytes s) in
    rw (e, flag-byte s.asleep) (ap (λ (us : List ℕ). status_of s ∷ flag s.asleep 1 ∷ s.config ∷ 0 ∷ us) times)

sixteen : (s : State) (xs : List ℕ) {status : ℕ} → length xs ≡ 272 → status ≡ status_of s → sets xs 0 (stores s status) ≡ packed s (page_in xs)
sixteen s xs {status} n e = sets-eq (stores s status) xs 0 (omega arith) ∙ ap (λ (ys : List ℕ). ys ++ page_in xs) (stores-pack s e)

-- a run of bytes laid into a list is stored one after the other
run-sets : (k : ℕ) (xs ys : List ℕ) → k + length ys ≤ length xs → put_mid k (length ys) xs ys ≡ sets xs k ys
run-sets k xs ys h = ap (λ (zs : List ℕ). take k xs ++ (ys ++ zs)) (drop-drop (length ys) k xs) ∙ sym (append_assoc (take k xs) ys (drop (k + length ys) xs)) ∙ sym (sets-eq ys xs k h)

pub stored : (s : State) (xs : List ℕ) {status : ℕ} {busy settle : List ℕ} → length xs ≡ 272 → status ≡ status_of s
    → busy ≡ time_bytes s.busy [] → settle ≡ time_bytes s.settle []
    → sets (put_mid 8 4 (put_mid 4 4 (sets xs 0 (status ∷ bool_byte s.asleep ∷ s.config ∷ 0 ∷ [])) busy) settle) 12 (operation_bytes s) ≡ packed s (page_in xs)
stored s xs {status} n e f g =
    let four : List ℕ = sets xs 0 (status ∷ bool_byte s.asleep ∷ s.config ∷ 0 ∷ []) in
    let eight : List ℕ = sets four 4 (time_bytes s.busy []) in
    rw (f, g)
    (ap (λ (zs : List ℕ). sets (put_mid 8 4 zs (time_bytes s.settle [])) 12 (operation_bytes s)) (run-sets 4 four (time_bytes s.busy []) (simp length-set (omega arith)))
    ∙ ap (λ (zs : List ℕ). sets zs 12 (operation_bytes s)) (run-sets 8 eight (time_bytes s.settle []) (simp length-set (omega arith)))
    ∙ sixteen s xs n e)

-- ---- what is a packing
packing-both : (xs : List ℕ) → is_packing xs ≡ true → (length xs ≡ 272) × (take 16 xs ≡ pack_of (read_of xs))
unfolding is_packing
packing-both xs e =
    let k = both (eqb (length xs) 272) (same (take 16 xs) (pack_of (read_of xs))) e in
    (eqb-true (length xs) 272 k.0, same-eq (take 16 xs) (pack_of (read_of xs)) k.1)

pub packing-length : (xs : List ℕ) → is_packing xs ≡ true → length xs ≡ 272
packing-length xs e = (packing-both xs e).0

packing-eq : (xs : List ℕ) → is_packing xs ≡ true → packed (read_of xs) (page_in xs) ≡ xs
packing-eq xs e = ap (λ (ys : List ℕ). ys ++ page_in xs) (sym (packing-both xs e).1) ∙ take-append-drop 16 xs

is-packing : (s : State) (page : List ℕ) → Small s → length page ≡ 256 → is_packing (packed s page) ≡ true
unfolding is_packing pack_of
is-packing s page h n = rw (read-pack s page h, n) (same_refl (pack_of s))

-- ---- unpacking
pub unpack-read : (xs : List ℕ) → is_packing xs ≡ true → unpack_of xs ≡ read_of xs
unfolding unpack_of
unpack-read xs e = rw e

pub unpack-none : (xs : List ℕ) → is_packing xs ≡ false → unpack_of xs ≡ no_state
unfolding unpack_of
unpack-none xs e = rw e

pub pack-unpack : (xs : List ℕ) → is_packing xs ≡ true → packed (unpack_of xs) (page_in xs) ≡ xs
pack-unpack xs e = ap (λ (s : State). packed s (page_in xs)) (unpack-read xs e) ∙ packing-eq xs e

pub unpack-pack : (s : State) (page : List ℕ) → Small s → length page ≡ 256 → unpack_of (packed s page) ≡ s
unpack-pack s page h n = unpack-read (packed s page) (is-packing s page h n) ∙ read-pack s page h

-- ---- the tests of the code
pub wrong-length : (xs : List ℕ) → (length xs ≡ 272 → ⊥) → is_packing xs ≡ false
wrong-length xs n = go (is_packing xs) refl
  where
    go : (b : Bool) → is_packing xs ≡ b → is_packing xs ≡ false
    go true e = absurd (n (packing-length xs e))
    go false e = e

-- bit 6, WIP, the flag and the zero
abbrev tests : List ℕ → ℕ → Bool
tests xs wip =
    eqb (get_or xs 0 0 / 64 % 2) 0
    && (eqb (get_or xs 0 0 % 2) wip && (leb (get_or xs 1 0) 1 && eqb (get_or xs 3 0) 0))

-- twelve bytes are those of the two times and the operation that they spell
module _ (ts : List ℕ) (n : 12 ≤ length ts) (h : (i : ℕ) → get_or ts i 0 < 256) where
  four : (k : ℕ) → 4 + k ≤ 12 → bytes_of 4 (time_at k ts) ≡ take 4 (drop k ts)
  four k l = rw (four-at ts k (omega arith)) (bytes-spelt (get_or ts k 0 ∷ get_or ts (suc k) 0 ∷ get_or ts (suc (suc k)) 0 ∷ get_or ts (suc (suc (suc k))) 0 ∷ []) below)
    where
      below : (i : ℕ) → get_or (get_or ts k 0 ∷ get_or ts (suc k) 0 ∷ get_or ts (suc (suc k)) 0 ∷ get_or ts (suc (suc (suc k))) 0 ∷ []) i 0 < 256
      below zero = h k
      below (suc zero) = h (suc k)
      below (suc (suc zero)) = h (suc (suc k))
      below (suc (suc (suc zero))) = h (suc (suc (suc k)))
      below (suc (suc (suc (suc i)))) = omega arith

  spelt-place : get_or ts 8 0 ∷ place_bytes (place_spelt (get_or ts 9 0) (get_or ts 10 0) (get_or ts 11 0)) ≡ take 4 (drop 8 ts)
  spelt-place = ap (λ (us : List ℕ). get_or ts 8 0 ∷ us) (place-bytes (get_or ts 9 0) (get_or ts 10 0) (get_or ts 11 0) (h 9) (h 10) (h 11)) ∙ sym (four-at ts 8 n)

  three-fours : take 4 ts ++ (take 4 (drop 4 ts) ++ take 4 (drop 8 ts)) ≡ take 12 ts
  three-fours =
      ap (λ (us : List ℕ). take 4 ts ++ (take 4 (drop 4 ts) ++ take 4 us)) (sym (drop-drop 4 4 ts))
      ∙ ap (λ (us : List ℕ). take 4 ts ++ us) (sym (take-add 4 4 (drop 4 ts)))
      ∙ sym (take-add 4 8 ts)

  twelve : bytes_of 4 (time_at 0 ts) ++ (bytes_of 4 (time_at 4 ts) ++ (get_or ts 8 0 ∷ place_bytes (place_spelt (get_or ts 9 0) (get_or ts 10 0) (get_or ts 11 0)))) ≡ take 12 ts
  twelve =
      ap (λ (us : List ℕ). bytes_of 4 (time_at 0 ts) ++ (bytes_of 4 (time_at 4 ts) ++ us)) spelt-place
      ∙ ap (λ (us : List ℕ). bytes_of 4 (time_at 0 ts) ++ (us ++ take 4 (drop 8 ts))) (four 4 (omega arith))
      ∙ ap (λ (us : List ℕ). us ++ (take 4 (drop 4 ts) ++ take 4 (drop 8 ts))) (four 0 (omega arith))
      ∙ three-fours

tests-right : (xs : List ℕ) → length xs ≡ 272 → ((i : ℕ) → get_or xs i 0 < 256) → is_packing xs ≡ tests xs (flag (not (eqb (time_at 4 xs) 0)) 1)
unfolding is_packing pack_of read_of status_of
tests-right [] n h = absurd (omega arith)
tests-right (a ∷ []) n h = absurd (omega arith)
tests-right (a ∷ b ∷ []) n h = absurd (omega arith)
tests-right (a ∷ b ∷ c ∷ []) n h = absurd (omega arith)
tests-right (a ∷ b ∷ c ∷ d ∷ ts) n h =
    let e = twelve ts (omega arith) (λ (i : ℕ). h (suc (suc (suc (suc i))))) in
    rw (eq-eqb (length (a ∷ b ∷ c ∷ d ∷ ts)) 272 n, e, same_refl (take 12 ts), flag-test b, eq-eqb c c refl, status-test a (h 0) (not (eqb (time_at 0 ts) 0)), and-true, and_assoc)

-- the busy time
busy-whole : (xs : List ℕ) → length xs ≡ 272 → busy_in xs ≡ time_at 4 xs
unfolding busy_in
busy-whole xs n = rw (eq-eqb (length xs) 272 n)

pub busy-spelt : (xs : List ℕ) {time : ℕ} → length xs ≡ 272 → time ≡ spelt (get_or xs 4 0 ∷ get_or xs 5 0 ∷ get_or xs 6 0 ∷ get_or xs 7 0 ∷ []) → time ≡ busy_in xs
busy-spelt xs n e = e ∙ sym (busy-whole xs n ∙ ap spelt (four-at xs 4 (omega arith)))

pub busy-none : (xs : List ℕ) → (length xs ≡ 272 → ⊥) → 0 ≡ busy_in xs
unfolding busy_in
busy-none xs n = rw (ne_eqb (length xs) 272 n)

module _ (xs : List ℕ) (n : length xs ≡ 272) {time : ℕ} (e : time ≡ busy_in xs) where
  pub tested : ((i : ℕ) → get_or xs i 0 < 256) → tests xs (bool_byte (not (eqb time 0))) ≡ is_packing xs
  tested h = rw (flag-byte (not (eqb time 0)), e ∙ busy-whole xs n) (sym (tests-right xs n h))

  pub spells : {settle place : ℕ} → settle ≡ spelt (get_or xs 8 0 ∷ get_or xs 9 0 ∷ get_or xs 10 0 ∷ get_or xs 11 0 ∷ [])
      → place ≡ place_spelt (get_or xs 13 0) (get_or xs 14 0) (get_or xs 15 0)
      → record { srwd = leb 128 (get_or xs 0 0); bp = get_or xs 0 0 / 4 % 16; config = get_or xs 2 0; wel = eqb (get_or xs 0 0 / 2 % 2) 1; asleep = eqb (get_or xs 1 0) 1; busy = time; settle = settle; command = get_or xs 12 0; address = place }
      ≡ read_of xs
  unfolding read_of
  spells s p = rw (e ∙ busy-whole xs n, s, p, four-at xs 8 (omega arith))
