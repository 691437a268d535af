-- The laws of hex and decimal text. No contract cites this file.
use mathlib.Core.Path.{◌≡◌, refl, sym, ap, ◌∙◌}
use mathlib.Core.Bool.{Bool, true, false}
use mathlib.Core.List.{List, [], ◌∷◌, ◌++◌, append_assoc, append-nil}
use Prim.Native.Nat.{ℕ, zero, suc, ◌+◌, ◌-◌, ◌*◌, ◌/◌, ◌%◌, ◌^◌, ◌≤◌, ◌<◌}
use native.Mathlib.Nat.{pow-suc}
use native.Mathlib.Numerals.{add-one}
use native.Mathlib.Omega.{arith}
use lib.Dec.{ltb}
use lib.ListN.{length, get_or, take, drop, set, length-append, length-drop, length-set, drop_of_length-le}
use lib.Seq.{take_all, take-suc, take-length}
use borrow.Author.Tests.{lt-ltb, le-ltb, ltb-false}
use Rattle.std.proofs.lemmas.List.{drop-set}
use Rattle.text.specs.Text.{digit_of, hex_text, decimal_in, decimal_text}
use Rattle.text.specs.Put.{Put}
use Rattle.text.proofs.PutLaws.{put_then, put_as}

-- ---- hex
pub length-hex_text : (s : List ℕ) → length (hex_text s) ≡ 2 * length s
length-hex_text [] = refl
length-hex_text (b ∷ s) = let h : length (hex_text s) ≡ 2 * length s = length-hex_text s in omega arith

hex_text-append : (s t : List ℕ) → hex_text (s ++ t) ≡ hex_text s ++ hex_text t
hex_text-append [] t = refl
hex_text-append (b ∷ s) t = ap (λ (z : List ℕ). digit_of (b / 16) ∷ digit_of (b % 16) ∷ z) (hex_text-append s t)

-- the first i bytes of s are put in hex, and one more
pub hex-more : {d : List ℕ} {at : ℕ} {e : List ℕ} {m : ℕ} {f : List ℕ} {h : ℕ} {g : List ℕ} {r : ℕ} (s : List ℕ) (i x y : ℕ) → Put (hex_text (take i s)) d at e m → Put (x ∷ []) e m f h → Put (y ∷ []) f h g r
    → x ≡ digit_of (get_or s i 0 / 16) → y ≡ digit_of (get_or s i 0 % 16) → i < length s → Put (hex_text (take (i + 1) s)) d at g r
hex-more s i x y p q t hx hy l =
    put_as (put_then (put_then p q) t)
    (append_assoc (hex_text (take i s)) (x ∷ []) (y ∷ [])
    ∙ ap (λ (z : ℕ). hex_text (take i s) ++ (z ∷ y ∷ [])) hx ∙ ap (λ (z : ℕ). hex_text (take i s) ++ (digit_of (get_or s i 0 / 16) ∷ z ∷ [])) hy
    ∙ sym (hex_text-append (take i s) (get_or s i 0 ∷ []))
    ∙ ap hex_text (sym (take-suc s i 0 l) ∙ ap (λ (n : ℕ). take n s) (sym (add-one i))))

pub hex-done : {d : List ℕ} {at : ℕ} {e : List ℕ} {m : ℕ} (s : List ℕ) (i : ℕ) → Put (hex_text (take i s)) d at e m → i ≡ length s → Put (hex_text s) d at e m
hex-done s i p l = put_as p (ap hex_text (ap (λ (n : ℕ). take n s) l ∙ take-length s))

-- ---- decimal
few : (m n : ℕ) → length (decimal_in m n) ≤ m
few zero n = omega arith
few (suc m) n = go (ltb n 10) refl (few m (n / 10))
  where
    go : (t : Bool) → ltb n 10 ≡ t → length (decimal_in m (n / 10)) ≤ m → length (decimal_in (suc m) n) ≤ suc m
    go true p h = rw p (omega arith)
    go false p h = rw p (simp length-append (omega arith))

-- more room makes no more digits
enough : (m n : ℕ) → 0 < m → n < 10 ^ m → decimal_in (suc m) n ≡ decimal_in m n
enough zero n l h = absurd (omega arith)
enough (suc m) n l h = go (ltb n 10) refl
    (λ b. let p : 10 ^ suc m ≡ 10 ^ m * 10 = pow-suc 10 m in enough m (n / 10) (some m h b) (omega arith))
  where
    some : (m : ℕ) → n < 10 ^ suc m → 10 ≤ n → 0 < m
    some zero h b = absurd (omega arith)
    some (suc m) h b = omega arith

    go : (t : Bool) → ltb n 10 ≡ t → (10 ≤ n → decimal_in (suc m) (n / 10) ≡ decimal_in m (n / 10)) → decimal_in (suc (suc m)) n ≡ decimal_in (suc m) n
    go true p e = rw p
    go false p e = let b : 10 ≤ n = ltb-false n 10 p in rw (p, e b)

pub decimal-few : (n : ℕ) → length (decimal_text n) ≤ 20
unfolding decimal_text
decimal-few n = few 20 n

-- a number below ten is its digit, and any other that of its tenth and its last digit
pub decimal-one : (n : ℕ) → n < 10 → decimal_text n ≡ (48 + n) ∷ []
unfolding decimal_text
decimal-one n l = rw (lt-ltb n 10 l)

pub decimal-more : (n : ℕ) → 10 ≤ n → n < 10 ^ 20 → decimal_text n ≡ decimal_text (n / 10) ++ ((48 + n % 10) ∷ [])
unfolding decimal_text
decimal-more n l h = rw (le-ltb n 10 l) (ap (λ (z : List ℕ). z ++ ((48 + n % 10) ∷ [])) (sym (enough 19 (n / 10) (omega arith) (omega arith))))

-- there is at least one
pub places-some : (n : ℕ) → 1 ≤ length (decimal_text n)
unfolding decimal_text
places-some n = go (ltb n 10) refl
  where
    go : (t : Bool) → ltb n 10 ≡ t → 1 ≤ length (decimal_in 20 n)
    go true p = rw p (omega arith)
    go false p = rw p (simp length-append (omega arith))

-- ---- a number that is written from its last digit back
-- the last digits of n stand in twenty bytes from `start` on, and those before them are the digits of rest
pub record Spelt (n rest start : ℕ) (room : List ℕ) : Type 0 where
  pub twenty : length room ≡ 20
  pub within : start ≤ 20
  pub is : decimal_text n ≡ decimal_text rest ++ drop start room

pub spelt-none : (n : ℕ) (room : List ℕ) → length room ≡ 20 → Spelt n n 20 room
spelt-none n room l = record {
  twenty = l;
  within = omega arith;
  is = sym (ap (λ (z : List ℕ). decimal_text n ++ z) (drop_of_length-le room {i = 20} (omega arith)) ∙ append-nil (decimal_text n));
}

-- there is room for one more
pub spelt-room : {n rest start : ℕ} {room : List ℕ} → Spelt n rest start room → 0 < start
spelt-room {n} {rest} {start} {room} p =
    let l : length room ≡ 20 = p.twenty in
    let e : length (decimal_text n) ≡ length (decimal_text rest) + (length room - start) = ap length p.is ∙ simp (length-append, length-drop) in
    let a : length (decimal_text n) ≤ 20 = decimal-few n in
    let b : 1 ≤ length (decimal_text rest) = places-some rest in
    let w : start ≤ 20 = p.within in
    omega arith

-- a digit is written before them
spelt-one : (start digit : ℕ) (room : List ℕ) → 0 < start → start ≤ length room → drop (start - 1) (set room (start - 1) digit) ≡ digit ∷ drop start room
spelt-one start digit room some l =
    let e : start - 1 + 1 ≡ start = omega arith in
    drop-set room (start - 1) digit (omega arith) ∙ ap (λ (k : ℕ). digit ∷ drop k room) e

-- the last of the rest
pub spelt_back : {n rest start : ℕ} {room : List ℕ} → Spelt n rest start room → 10 ≤ rest → rest < 10 ^ 20 → Spelt n (rest / 10) (start - 1) (set room (start - 1) (48 + rest % 10))
spelt_back {n} {rest} {start} {room} p l h =
    let some : 0 < start = spelt-room p in
    let w : start ≤ 20 = p.within in
    let t : length room ≡ 20 = p.twenty in
    record {
      twenty = length-set room (start - 1) (48 + rest % 10) ∙ t;
      within = omega arith;
      is =
          p.is ∙ ap (λ (z : List ℕ). z ++ drop start room) (decimal-more rest l h)
          ∙ append_assoc (decimal_text (rest / 10)) ((48 + rest % 10) ∷ []) (drop start room)
          ∙ ap (λ (z : List ℕ). decimal_text (rest / 10) ++ z) (sym (spelt-one start (48 + rest % 10) room some (omega arith)));
    }

-- and the first of all
pub spelt-all : {n rest start : ℕ} {room : List ℕ} → Spelt n rest start room → rest < 10 → take (20 - (start - 1)) (drop (start - 1) (set room (start - 1) (48 + rest))) ≡ decimal_text n
spelt-all {n} {rest} {start} {room} p l =
    let w : start ≤ 20 = p.within in
    let t : length room ≡ 20 = p.twenty in
    let is : drop (start - 1) (set room (start - 1) (48 + rest)) ≡ decimal_text n =
    spelt-one start (48 + rest) room (spelt-room p) (omega arith) ∙ ap (λ (z : List ℕ). z ++ drop start room) (sym (decimal-one rest l)) ∙ sym p.is in
    take_all (20 - (start - 1)) (drop (start - 1) (set room (start - 1) (48 + rest))) (simp (length-drop, length-set) (omega arith)) ∙ is
