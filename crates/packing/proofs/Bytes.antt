-- Laws of bytes: three bytes as an address, lists that are the same, four bytes of a list.
use mathlib.Core.Path.{◌≡◌, refl}
use mathlib.Core.Bool.{true, false≢true}
use mathlib.Core.List.{List, [], ◌∷◌}
use Prim.Native.Nat.{ℕ, suc, ◌+◌, ◌/◌, ◌%◌, ◌^◌, ◌<◌, ◌≤◌}
use native.Mathlib.Omega.{arith}
use lib.Dec.{eqb}
use lib.ListN.{length, get_or, take, drop}
use lib.Seq.{drop-cons}
use borrow.Author.Tests.{eqb-true, eq-eqb}
use Rattle.units.proofs.Bools.{both}
use Rattle.packing.specs.Packing.{place_bytes, place_spelt, same}

-- ---- three bytes, the high byte first
pub place-back : (x : ℕ) → x < 2 ^ 24 → place_spelt (x / 65536 % 256) (x / 256 % 256) (x % 256) ≡ x
place-back x h = omega arith

pub place-bytes : (a b c : ℕ) → a < 256 → b < 256 → c < 256 → place_bytes (place_spelt a b c) ≡ a ∷ b ∷ c ∷ []
place-bytes a b c k l m =
    let high : place_spelt a b c / 65536 % 256 ≡ a = omega arith in
    let middle : place_spelt a b c / 256 % 256 ≡ b = omega arith in
    let low : place_spelt a b c % 256 ≡ c = omega arith in
    rw (high, middle, low)

-- ---- lists that are the same
pub same_refl : (xs : List ℕ) → same xs xs ≡ true
same_refl [] = refl
same_refl (x ∷ xs) = rw (eq-eqb x x refl) (same_refl xs)

pub same-eq : (xs ys : List ℕ) → same xs ys ≡ true → xs ≡ ys
same-eq [] [] e = refl
same-eq [] (y ∷ ys) e = absurd (false≢true e)
same-eq (x ∷ xs) [] e = absurd (false≢true e)
same-eq (x ∷ xs) (y ∷ ys) e =
    let k = both (eqb x y) (same xs ys) e in
    rw (eqb-true x y k.0, same-eq xs ys k.1)

-- ---- four from place k on
pub four-at : (xs : List ℕ) (k : ℕ) → 4 + k ≤ length xs → take 4 (drop k xs) ≡ get_or xs k 0 ∷ get_or xs (suc k) 0 ∷ get_or xs (suc (suc k)) 0 ∷ get_or xs (suc (suc (suc k))) 0 ∷ []
four-at xs k n =
    let a : k < length xs = omega arith in
    let b : suc k < length xs = omega arith in
    let c : suc (suc k) < length xs = omega arith in
    let d : suc (suc (suc k)) < length xs = omega arith in
    rw (drop-cons xs k 0 a, drop-cons xs (suc k) 0 b, drop-cons xs (suc (suc k)) 0 c, drop-cons xs (suc (suc (suc k))) 0 d)
