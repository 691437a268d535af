-- The laws of hex digits and their bytes. No contract cites this file.
use mathlib.Core.Path.{◌≡◌, refl, sym, ap, ◌∙◌, subst}
use mathlib.Core.Bool.{Bool, true, false, ◌&&◌}
use mathlib.Core.List.{List, [], ◌∷◌, ◌++◌}
use Prim.Native.Nat.{ℕ, zero, suc, ◌+◌, ◌-◌, ◌*◌, ◌/◌, ◌≤◌, ◌<◌, min}
use native.Mathlib.Nat.{not-suc-le-zero, le_of_suc-le-suc}
use native.Mathlib.Numerals.{add-one}
use native.Mathlib.Omega.{arith}
use lib.Dec.{leb}
use lib.ListN.{length, get_or, drop, take, set, length-take, length-drop, drop_of_length-le}
use lib.Seq.{drop-cons, take-suc, set_at, length-take-le, append_snoc, take-nil, take_all}
use borrow.Author.Tests.{leb-true}
use Rattle.script.specs.Hex.{is_digit, is_capital, nibble_of, hex_bytes, Unhexed, OneUnhexed}

pub and_left : (t u : Bool) → (t && u) ≡ true → t ≡ true
and_left true u e = refl
and_left false u e = e

pub and_right : (t u : Bool) → (t && u) ≡ true → u ≡ true
and_right true u e = e
and_right false u e = cc

pub and-false : (t : Bool) → (t && false) ≡ false
and-false true = refl
and-false false = refl

-- ---- digits
pub digit-range : (b : ℕ) → is_digit b ≡ true → (48 ≤ b) × (b ≤ 57)
unfolding is_digit
digit-range b e = (leb-true 48 b (and_left (leb 48 b) (leb b 57) e), leb-true b 57 (and_right (leb 48 b) (leb b 57) e))

pub capital-range : (b : ℕ) → is_capital b ≡ true → (65 ≤ b) × (b ≤ 70)
unfolding is_capital
capital-range b e = (leb-true 65 b (and_left (leb 65 b) (leb b 70) e), leb-true b 70 (and_right (leb 65 b) (leb b 70) e))

pub nibble-digit : (b : ℕ) → is_digit b ≡ true → b - 48 ≡ nibble_of b
unfolding nibble_of
nibble-digit b e = rw e

pub nibble-capital : (b : ℕ) → is_digit b ≡ false → is_capital b ≡ true → b - 55 ≡ nibble_of b
unfolding nibble_of
nibble-capital b e f = rw (e, f)

-- ---- the bytes of digits
pub length-hex_bytes : (s : List ℕ) → length (hex_bytes s) ≡ length s / 2
length-hex_bytes [] = refl
length-hex_bytes (a ∷ []) = refl
length-hex_bytes (a ∷ b ∷ s) = let h : length (hex_bytes s) ≡ length s / 2 = length-hex_bytes s in omega arith

pub get_or-hex_bytes : (s : List ℕ) (k : ℕ) → k < length (hex_bytes s) → nibble_of (get_or s (2 * k) 0) * 16 + nibble_of (get_or s (2 * k + 1) 0) ≡ get_or (hex_bytes s) k 0
get_or-hex_bytes [] k l = absurd (not-suc-le-zero l)
get_or-hex_bytes (a ∷ []) k l = absurd (not-suc-le-zero l)
get_or-hex_bytes (a ∷ b ∷ s) zero l = refl
get_or-hex_bytes (a ∷ b ∷ s) (suc k) l =
    ap (λ (n : ℕ). nibble_of (get_or (a ∷ b ∷ s) n 0) * 16 + nibble_of (get_or (a ∷ b ∷ s) (2 * suc k + 1) 0)) {x = 2 * suc k} {y = suc (suc (2 * k))} (omega arith)
    ∙ ap (λ (n : ℕ). nibble_of (get_or s (2 * k) 0) * 16 + nibble_of (get_or (a ∷ b ∷ s) n 0)) {x = 2 * suc k + 1} {y = suc (suc (2 * k + 1))} (omega arith)
    ∙ get_or-hex_bytes s k (le_of_suc-le-suc l)

-- one more byte of bs at the front of d
pub front-more : (bs d xs : List ℕ) (k v : ℕ) → xs ≡ take k bs ++ drop k d → k < length bs → k < length d → v ≡ get_or bs k 0
    → set xs k v ≡ take (k + 1) bs ++ drop (k + 1) d
front-more bs d xs k v h l m e =
    ap (λ (z : List ℕ). set z k v) (h ∙ ap (λ (z : List ℕ). take k bs ++ z) (drop-cons d k 0 m))
    ∙ set_at (take k bs) (get_or d k 0) (drop (suc k) d) v k (length-take-le k bs (omega arith))
    ∙ ap (λ (z : ℕ). take k bs ++ (z ∷ drop (suc k) d)) e
    ∙ sym (append_snoc (take k bs) (get_or bs k 0) (drop (suc k) d))
    ∙ ap (λ (z : List ℕ). z ++ drop (suc k) d) (sym (take-suc bs k 0 l))
    ∙ ap (λ (n : ℕ). take n bs ++ drop n d) (sym (add-one k))

pub unhexed-count : (s d : List ℕ) (n : ℕ) → n ≡ min (length s / 2) (length d) → n ≡ length (take (length d) (hex_bytes s))
unhexed-count s d n e =
    let h : length (hex_bytes s) ≡ length s / 2 = length-hex_bytes s in
    let l : length (take (length d) (hex_bytes s)) ≡ min (length d) (length (hex_bytes s)) = length-take (length d) (hex_bytes s) in
    omega arith

pub one-unhexed : OneUnhexed
one-unhexed digits d e e' r r' p q =
    let n : r ≡ r' = p.count ∙ sym q.count in
    (p.is ∙ ap (λ (k : ℕ). take k (hex_bytes digits) ++ drop k d) n ∙ sym q.is, n)
