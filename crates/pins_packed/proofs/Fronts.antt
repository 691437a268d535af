-- Laws of the eight bytes: tested, read, packed, and back.
use mathlib.Core.Path.{◌≡◌, refl, sym, ap, ◌∙◌}
use mathlib.Core.Bool.{Bool, true, false}
use mathlib.Core.List.{List, [], ◌∷◌}
use Prim.Native.Nat.{ℕ, zero, suc, ◌+◌, ◌*◌, ◌/◌, ◌%◌, ◌^◌, ◌≤◌, ◌<◌}
use native.Mathlib.Nat.{div-div-eq-div-mul}
use native.Mathlib.Omega.{arith}
use lib.Dec.{eqb, ltb}
use lib.ListN.{length, get_or}
use borrow.Author.Tests.{eqb-true, eqb-false, ltb-true, lt-ltb}
use Rattle.parts.specs.Parts.{Bytes}
use Rattle.units.proofs.Bools.{both}
use Rattle.parts.specs.Parts.{bytes_of, spelt}
use Rattle.parts.proofs.Bytes.{spelt-bytes, bytes-spelt}
use Rattle.states.specs.States.{flag}
use Rattle.pins.specs.declared.Front.{Front}
use Rattle.pins.specs.Pins.{front_ok, Sound}
use Rattle.pins_packed.specs.Fronts.{flags_of, front_packed, front_in, is_front}

-- ---- the tests
pub record Parts (xs : List ℕ) : Type 0 where
  pub long : length xs ≡ 8
  pub flags : get_or xs 0 0 < 32
  pub zeros : get_or xs 3 0 ≡ 0
  pub right : front_ok (front_in xs) ≡ true

pub parts : (xs : List ℕ) → is_front xs ≡ true → Parts xs
unfolding is_front
parts xs e =
    let a = both (eqb (length xs) 8) _ e in
    let b = both (ltb (get_or xs 0 0) 32) _ a.1 in
    let c = both (eqb (get_or xs 3 0) 0) _ b.1 in
    record { long = eqb-true (length xs) 8 a.0; flags = ltb-true (get_or xs 0 0) 32 b.0; zeros = eqb-true (get_or xs 3 0) 0 c.0; right = c.1 }

pub long : (xs : List ℕ) → is_front xs ≡ true → length xs ≡ 8
long xs e = (parts xs e).long

pub right : (xs : List ℕ) → is_front xs ≡ true → front_ok (front_in xs) ≡ true
right xs e = (parts xs e).right

-- ---- flags
flag-le : (b : Bool) → flag b 1 ≤ 1
flag-le true = omega arith
flag-le false = omega arith

scaled : (b : Bool) (v : ℕ) → flag b v ≡ v * flag b 1
scaled true v = omega arith
scaled false v = omega arith

flag-back : (b : Bool) (n : ℕ) → n ≡ flag b 1 → eqb n 1 ≡ b
flag-back true n e = rw e
flag-back false n e = rw e

flag-of : (n : ℕ) → flag (eqb (n % 2) 1) 1 ≡ n % 2
flag-of n = go (eqb (n % 2) 1) refl
  where
    go : (t : Bool) → eqb (n % 2) 1 ≡ t → flag t 1 ≡ n % 2
    go true e = sym (eqb-true (n % 2) 1 e)
    go false e = let l : (n % 2 ≡ 1 → ⊥) = eqb-false (n % 2) 1 e in omega arith

abbrev five : ℕ → ℕ → ℕ → ℕ → ℕ → ℕ
five a b c d e = a + (2 * b + (4 * c + (8 * d + 16 * e)))

bits_back : (a b c d e : ℕ) → a ≤ 1 → b ≤ 1 → c ≤ 1 → d ≤ 1 → e ≤ 1
    → (five a b c d e % 2 ≡ a) × (five a b c d e / 2 % 2 ≡ b) × (five a b c d e / 4 % 2 ≡ c) × (five a b c d e / 8 % 2 ≡ d) × (five a b c d e / 16 % 2 ≡ e)
bits_back a b c d e p q r s t = (omega arith, omega arith, omega arith, omega arith, omega arith)

-- byte 0 by its five flags
flags-five : (a b c d e : Bool) → flag a 1 + (flag b 2 + (flag c 4 + (flag d 8 + flag e 16))) ≡ five (flag a 1) (flag b 1) (flag c 1) (flag d 1) (flag e 1)
flags-five a b c d e = rw (scaled b 2, scaled c 4, scaled d 8, scaled e 16)

-- ---- packed and read
flags-back : (f : Front) → (flags_of f % 2 ≡ flag f.select 1) × (flags_of f / 2 % 2 ≡ flag f.clock 1) × (flags_of f / 4 % 2 ≡ flag f.held 1) × (flags_of f / 8 % 2 ≡ flag f.wp 1)
    × (flags_of f / 16 % 2 ≡ flag f.outgrown 1)
flags-back f =
    rw (flags-five f.select f.clock f.held f.wp f.outgrown)
    (bits_back (flag f.select 1) (flag f.clock 1) (flag f.held 1) (flag f.wp 1) (flag f.outgrown 1) (flag-le f.select) (flag-le f.clock) (flag-le f.held) (flag-le f.wp) (flag-le f.outgrown))

pub read-pack : (f : Front) → Sound f → front_in (front_packed f) ≡ f
unfolding front_in front_packed
read-pack f s =
    let k = flags-back f in
    let n : f.bytes < 2 ^ 32 = omega (arith, s.most_bytes) in
    rw (flag-back f.select _ k.0, flag-back f.clock _ k.1, flag-back f.held _ k.2, flag-back f.wp _ k.3, flag-back f.outgrown _ k.4, spelt-bytes f.bytes n)

flags-small : (f : Front) → flags_of f < 32
flags-small f =
    rw (flags-five f.select f.clock f.held f.wp f.outgrown)
    (omega (arith, flag-le f.select, flag-le f.clock, flag-le f.held, flag-le f.wp, flag-le f.outgrown))

pub packed-front : (f : Front) → front_ok f ≡ true → front_in (front_packed f) ≡ f → is_front (front_packed f) ≡ true
unfolding is_front front_packed
packed-front f k e = rw (e, lt-ltb (flags_of f) 32 (flags-small f)) k

-- ---- read and packed
halved : (x : ℕ) → x < 32 → five (x % 2) (x / 2 % 2) (x / 4 % 2) (x / 8 % 2) (x / 16 % 2) ≡ x
halved x h =
    joined (x % 2) (x / 2 % 2) (x / 4 % 2) (x / 8 % 2) (x / 16 % 2) (x / 2) (x / 4) (x / 8) (x / 16) x (omega arith)
    (rw (← (div-div-eq-div-mul x 2 2)) (halves (x / 2))) (rw (← (div-div-eq-div-mul x 4 2)) (halves (x / 4))) (rw (← (div-div-eq-div-mul x 8 2)) (halves (x / 8))) (omega arith)
  where
    halves : (n : ℕ) → n % 2 + 2 * (n / 2) ≡ n
    halves n = omega arith

    joined : (a b c d e p q r s x : ℕ) → a + 2 * p ≡ x → b + 2 * q ≡ p → c + 2 * r ≡ q → d + 2 * s ≡ r → e ≡ s → five a b c d e ≡ x
    joined a b c d e p q r s x h₁ h₂ h₃ h₄ h₅ = omega arith

flags-read : (x : ℕ) → x < 32 → flag (eqb (x % 2) 1) 1 + (flag (eqb (x / 2 % 2) 1) 2 + (flag (eqb (x / 4 % 2) 1) 4 + (flag (eqb (x / 8 % 2) 1) 8 + flag (eqb (x / 16 % 2) 1) 16))) ≡ x
flags-read x h =
    flags-five (eqb (x % 2) 1) (eqb (x / 2 % 2) 1) (eqb (x / 4 % 2) 1) (eqb (x / 8 % 2) 1) (eqb (x / 16 % 2) 1)
    ∙ rw (flag-of x, flag-of (x / 2), flag-of (x / 4), flag-of (x / 8), flag-of (x / 16)) (halved x h)

abbrev four : List ℕ → List ℕ
four xs = get_or xs 4 0 ∷ get_or xs 5 0 ∷ get_or xs 6 0 ∷ get_or xs 7 0 ∷ []

four_bytes : (xs : List ℕ) → Bytes xs → (i : ℕ) → get_or (four xs) i 0 < 256
four_bytes xs w zero = w.below 4
four_bytes xs w (suc zero) = w.below 5
four_bytes xs w (suc (suc zero)) = w.below 6
four_bytes xs w (suc (suc (suc zero))) = w.below 7
four_bytes xs w (suc (suc (suc (suc i)))) = omega arith

eight-of : (xs : List ℕ) → length xs ≡ 8 → xs ≡ get_or xs 0 0 ∷ get_or xs 1 0 ∷ get_or xs 2 0 ∷ get_or xs 3 0 ∷ four xs
eight-of [] n = absurd (omega arith)
eight-of (a ∷ []) n = absurd (omega arith)
eight-of (a ∷ b ∷ []) n = absurd (omega arith)
eight-of (a ∷ b ∷ c ∷ []) n = absurd (omega arith)
eight-of (a ∷ b ∷ c ∷ d ∷ []) n = absurd (omega arith)
eight-of (a ∷ b ∷ c ∷ d ∷ e ∷ []) n = absurd (omega arith)
eight-of (a ∷ b ∷ c ∷ d ∷ e ∷ f ∷ []) n = absurd (omega arith)
eight-of (a ∷ b ∷ c ∷ d ∷ e ∷ f ∷ g ∷ []) n = absurd (omega arith)
eight-of (a ∷ b ∷ c ∷ d ∷ e ∷ f ∷ g ∷ h ∷ []) n = refl
eight-of (a ∷ b ∷ c ∷ d ∷ e ∷ f ∷ g ∷ h ∷ i ∷ xs) n = absurd (omega arith)

pub pack-read : (xs : List ℕ) → Bytes xs → Parts xs → front_packed (front_in xs) ≡ xs
unfolding front_packed front_in
pack-read xs w p =
    ap (λ (x : ℕ). x ∷ get_or xs 1 0 ∷ get_or xs 2 0 ∷ 0 ∷ bytes_of 4 (spelt (four xs))) (flags-read (get_or xs 0 0) p.flags)
    ∙ ap (λ (ys : List ℕ). get_or xs 0 0 ∷ get_or xs 1 0 ∷ get_or xs 2 0 ∷ 0 ∷ ys) (bytes-spelt (four xs) (four_bytes xs w))
    ∙ ap (λ (z : ℕ). get_or xs 0 0 ∷ get_or xs 1 0 ∷ get_or xs 2 0 ∷ z ∷ four xs) (sym p.zeros) ∙ sym (eight-of xs p.long)
