-- Laws of one cell: AND and FF, and what it misses of a byte. They know nothing of how a chip is spoken to.
-- `lib.Bits` has more: and_self (x AND x is x), and_le_l and and_le_r (the result is at most each operand), and_comm.
use mathlib.Core.Path.{◌≡◌, refl, sym, ap, ap₂, ◌∙◌}
use mathlib.Core.Bool.{Bool, true, false, cond, not, ◌||◌}
use Prim.Native.Nat.{ℕ, zero, suc, suc-le-suc, ◌+◌, ◌*◌, ◌/◌, ◌%◌, ◌^◌, ◌≤◌, ◌<◌, min}
use native.Mathlib.Nat.{mod-eq_of_lt, div-div-eq-div-mul, pow-succ'}
use native.Mathlib.Omega.{arith}
use lib.Arith.{bin_ind}
use lib.Dec.{eqb}
use borrow.Author.Tests.{eqb-true, eqb-false, eq-eqb, ne_eqb, not-true}
use lib.Bits.{bit_and, bit_or, bit_xor, or_shr, xor_shr, or_mod, xor_mod, and_zero_l, and_zero_r, or_lt, xor_lt, and_lt, and_step, and_mask, and_comm, and_self, and_le_l, and_le_r, and_shr, and_mod, or_add_and, xor_add_and, xor_self}
use Rattle.cells.specs.Cell.{FF, bit, misses, torn}

-- FF clears no bit
pub and_ff : (x : ℕ) → x < 256 → bit_and x FF ≡ x
and_ff x l = and_mask x 8 ∙ mod-eq_of_lt l

-- an erased cell takes the byte as it is
pub ff-and : (x : ℕ) → x < 256 → bit_and FF x ≡ x
ff-and x l = and_comm FF x ∙ and_ff x l

-- the order of programs does not matter
pub and_assoc : (x y z : ℕ) → bit_and (bit_and x y) z ≡ bit_and x (bit_and y z)
and_assoc = bin_ind (λ (n : ℕ). (y z : ℕ) → bit_and (bit_and n y) z ≡ bit_and n (bit_and y z)) (λ y z. refl) step
  where
    low : (x y : ℕ) → bit_and x y % 2 ≡ min (x % 2) (y % 2)
    low x y = omega (arith, and_step x y)

    step : (n : ℕ) → ((y z : ℕ) → bit_and (bit_and (n / 2) y) z ≡ bit_and (n / 2) (bit_and y z)) → (y z : ℕ) → bit_and (bit_and n y) z ≡ bit_and n (bit_and y z)
    step n ih y z =
        and_step (bit_and n y) z
        ∙ ap₂ (λ (a b : ℕ). a * 2 + b)
        (ap (λ (a : ℕ). bit_and a (z / 2)) (and_shr n y 1) ∙ ih (y / 2) (z / 2) ∙ ap (bit_and (n / 2)) (sym (and_shr y z 1)))
        (omega (arith, low n y, low y z))
        ∙ sym (and_step n (bit_and y z))

-- the same byte once more changes nothing
pub and-twice : (x y : ℕ) → bit_and (bit_and x y) y ≡ bit_and x y
and-twice x y = and_assoc x y y ∙ ap (bit_and x) (and_self y)

-- a byte stays a byte
pub and_byte : (x y : ℕ) → x < 256 → bit_and x y < 256
and_byte x y l = omega (arith, and_le_l x y)

-- a bit that was 0 stays 0
pub and-falls : (b x y : ℕ) → bit b (bit_and x y) ≤ bit b x
and-falls b x y = rw (and_shr x y b, and_mod (x / 2 ^ b) (y / 2 ^ b) 1) (and_le_l _ _)

-- ---- whether a cell would hold a byte
-- an OR is 0 where both are
or_some : (x y : ℕ) → not (eqb (bit_or x y) 0) ≡ (not (eqb x 0) || not (eqb y 0))
or_some x y = go (eqb x 0) refl (eqb y 0) refl
  where
    go : (t : Bool) → eqb x 0 ≡ t → (u : Bool) → eqb y 0 ≡ u → not (eqb (bit_or x y) 0) ≡ (not t || not u)
    go true p true q = ap not (eq-eqb (bit_or x y) 0 (omega (arith, eqb-true x 0 p, eqb-true y 0 q, or_add_and x y)))
    go true p false q = ap not (ne_eqb (bit_or x y) 0 (λ e. omega (arith, eqb-false y 0 q, or_add_and x y, and_le_l x y, and_le_r x y)))
    go false p u q = ap not (ne_eqb (bit_or x y) 0 (λ e. omega (arith, eqb-false x 0 p, or_add_and x y, and_le_l x y, and_le_r x y)))

-- an XOR is 0 where both are the same
xor-some : (x y : ℕ) → not (eqb (bit_xor x y) 0) ≡ not (eqb x y)
xor-some x y = go (eqb x y) refl
  where
    go : (t : Bool) → eqb x y ≡ t → not (eqb (bit_xor x y) 0) ≡ not t
    go true p = ap not (eq-eqb (bit_xor x y) 0 (ap (bit_xor x) (sym (eqb-true x y p)) ∙ xor_self x))
    go false p = ap not (ne_eqb (bit_xor x y) 0 (λ e. omega (arith, eqb-false x y p, xor_add_and x y, and_le_l x y, and_le_r x y)))

-- the bits that were missing, and those that this cell misses of its byte
pub missing-more : (missing old byte : ℕ) → not (eqb (bit_or missing (bit_xor (bit_and old byte) byte)) 0) ≡ (not (eqb missing 0) || misses old byte)
missing-more missing old byte =
    or_some missing (bit_xor (bit_and old byte) byte) ∙ ap (λ (t : Bool). not (eqb missing 0) || t) (xor-some (bit_and old byte) byte)

-- a bit that is 0 in the cell and 1 in the byte is missing
pub misses-bit : (b old byte : ℕ) → bit b old ≡ 0 → bit b byte ≡ 1 → misses old byte ≡ true
misses-bit b old byte low high = ap not (ne_eqb (bit_and old byte) byte (λ e. omega (arith, and-falls b old byte, ap (bit b) e)))

-- and where a byte is missed such a bit can be named
next_bit : (b x : ℕ) → bit (suc b) x ≡ bit b (x / 2)
next_bit b x = ap (λ (n : ℕ). x / n % 2) (pow-succ' 2 b) ∙ ap (λ (n : ℕ). n % 2) (sym (div-div-eq-div-mul x 2 (2 ^ b)))

bit-of : (n old byte : ℕ) → byte < 2 ^ n → (bit_and old byte ≡ byte → ⊥) → (b : ℕ) × (b < n) × (bit b old ≡ 0) × (bit b byte ≡ 1)
bit-of zero old byte l ne = let none : byte ≡ 0 = omega arith in absurd (ne (rw none (and_zero_r old)))
bit-of (suc n) old byte l ne =
    go (bit-of n (old / 2) (byte / 2) (omega (arith, pow-succ' 2 n))) (eqb (old % 2) 0) refl (eqb (byte % 2) 1) refl
  where
    Found : ℕ → ℕ → ℕ → Type 0
    Found m x y = (b : ℕ) × (b < m) × (bit b x ≡ 0) × (bit b y ≡ 1)

    later : Found n (old / 2) (byte / 2) → Found (suc n) old byte
    later r = (suc r.0, suc-le-suc r.1, next_bit r.0 old ∙ r.2, next_bit r.0 byte ∙ r.3)

    go : ((bit_and (old / 2) (byte / 2) ≡ byte / 2 → ⊥) → Found n (old / 2) (byte / 2)) → (t : Bool) → eqb (old % 2) 0 ≡ t → (u : Bool) → eqb (byte % 2) 1 ≡ u
        → Found (suc n) old byte
    go rest true p true q = (0, omega arith, omega (arith, eqb-true (old % 2) 0 p), omega (arith, eqb-true (byte % 2) 1 q))
    go rest true p false q = later (rest (λ e. ne (omega (arith, and_step old byte, eqb-false (byte % 2) 1 q))))
    go rest false p u q = later (rest (λ e. ne (omega (arith, and_step old byte, eqb-false (old % 2) 0 p))))

pub missed-bit : (old byte : ℕ) → byte < 256 → misses old byte ≡ true → (b : ℕ) × (b < 8) × (bit b old ≡ 0) × (bit b byte ≡ 1)
missed-bit old byte l e = bit-of 8 old byte l (eqb-false (bit_and old byte) byte (not-true (eqb (bit_and old byte) byte) e))

-- ---- a byte that was cut
-- bit by bit
pub torn-shr : (o n p b : ℕ) → torn o n p / 2 ^ b ≡ torn (o / 2 ^ b) (n / 2 ^ b) (p / 2 ^ b)
torn-shr o n p b =
    or_shr (bit_and p (bit_xor o n)) (bit_and o n) b
    ∙ ap₂ bit_or (and_shr p (bit_xor o n) b ∙ ap (bit_and (p / 2 ^ b)) (xor_shr o n b)) (and_shr o n b)

pub torn-mod : (o n p k : ℕ) → torn o n p % 2 ^ k ≡ torn (o % 2 ^ k) (n % 2 ^ k) (p % 2 ^ k)
torn-mod o n p k =
    or_mod (bit_and p (bit_xor o n)) (bit_and o n) k
    ∙ ap₂ bit_or (and_mod p (bit_xor o n) k ∙ ap (bit_and (p % 2 ^ k)) (xor_mod o n k)) (and_mod o n k)

one_bit : (o n p : ℕ) → o < 2 → n < 2 → p < 2 → torn o n p ≡ cond (eqb o n) o p
one_bit zero zero zero a b c = refl
one_bit zero zero (suc zero) a b c = refl
one_bit zero zero (suc (suc p)) a b c = absurd (omega arith)
one_bit zero (suc zero) zero a b c = refl
one_bit zero (suc zero) (suc zero) a b c = refl
one_bit zero (suc zero) (suc (suc p)) a b c = absurd (omega arith)
one_bit zero (suc (suc n)) p a b c = absurd (omega arith)
one_bit (suc zero) zero zero a b c = refl
one_bit (suc zero) zero (suc zero) a b c = refl
one_bit (suc zero) zero (suc (suc p)) a b c = absurd (omega arith)
one_bit (suc zero) (suc zero) zero a b c = refl
one_bit (suc zero) (suc zero) (suc zero) a b c = refl
one_bit (suc zero) (suc zero) (suc (suc p)) a b c = absurd (omega arith)
one_bit (suc zero) (suc (suc n)) p a b c = absurd (omega arith)
one_bit (suc (suc o)) n p a b c = absurd (omega arith)

-- a bit that was to change takes its pattern bit, every other bit stays
pub torn-bit : (b o n p : ℕ) → bit b (torn o n p) ≡ cond (eqb (bit b o) (bit b n)) (bit b o) (bit b p)
torn-bit b o n p =
    ap (λ (x : ℕ). x % 2) (torn-shr o n p b) ∙ torn-mod (o / 2 ^ b) (n / 2 ^ b) (p / 2 ^ b) 1
    ∙ one_bit (bit b o) (bit b n) (bit b p) (omega arith) (omega arith) (omega arith)

same : (t : Bool) (x : ℕ) → cond t x x ≡ x
same true x = refl
same false x = refl

-- so no bit of a cut program's cell rises
pub torn-falls : (b o byte p : ℕ) → bit b (torn o (bit_and o byte) p) ≤ bit b o
torn-falls b o byte p = rw (torn-bit b o (bit_and o byte) p) (go (eqb (bit b o) (bit b (bit_and o byte))) refl)
  where
    go : (t : Bool) → eqb (bit b o) (bit b (bit_and o byte)) ≡ t → cond t (bit b o) (bit b p) ≤ bit b o
    go true e = omega arith
    go false e = omega (arith, eqb-false (bit b o) (bit b (bit_and o byte)) e, and-falls b o byte)

halves : (o n p : ℕ) → torn o n p ≡ torn (o / 2) (n / 2) (p / 2) * 2 + torn (o % 2) (n % 2) (p % 2)
halves o n p = omega (arith, torn-shr o n p 1, torn-mod o n p 1)

-- with the pattern of what was there nothing has happened, with that of what was to come it has finished
pub torn-old : (o n : ℕ) → torn o n o ≡ o
torn-old = bin_ind (λ (o : ℕ). (n : ℕ) → torn o n o ≡ o) (λ n. ap₂ bit_or (and_zero_l (bit_xor 0 n)) (and_zero_l n)) step
  where
    step : (o : ℕ) → ((n : ℕ) → torn (o / 2) n (o / 2) ≡ o / 2) → (n : ℕ) → torn o n o ≡ o
    step o ih n = halves o n o ∙ ap₂ (λ (a b : ℕ). a * 2 + b) (ih (n / 2)) low ∙ omega arith
      where
        low : torn (o % 2) (n % 2) (o % 2) ≡ o % 2
        low = one_bit (o % 2) (n % 2) (o % 2) (omega arith) (omega arith) (omega arith) ∙ same (eqb (o % 2) (n % 2)) (o % 2)

pub torn-new : (o n : ℕ) → torn o n n ≡ n
torn-new o n = bin_ind (λ (n : ℕ). (o : ℕ) → torn o n n ≡ n) (λ o. ap₂ bit_or (and_zero_l (bit_xor o 0)) (and_zero_r o)) step n o
  where
    step : (n : ℕ) → ((o : ℕ) → torn o (n / 2) (n / 2) ≡ n / 2) → (o : ℕ) → torn o n n ≡ n
    step n ih o = halves o n n ∙ ap₂ (λ (a b : ℕ). a * 2 + b) (ih (o / 2)) low ∙ omega arith
      where
        low : torn (o % 2) (n % 2) (n % 2) ≡ n % 2
        low = one_bit (o % 2) (n % 2) (n % 2) (omega arith) (omega arith) (omega arith) ∙ either (eqb (o % 2) (n % 2)) refl
          where
            either : (t : Bool) → eqb (o % 2) (n % 2) ≡ t → cond t (o % 2) (n % 2) ≡ n % 2
            either true e = eqb-true (o % 2) (n % 2) e
            either false e = refl

-- what lies between two numbers of k bits has k bits, whatever the pattern, and looks only at the pattern's k lowest
pub torn-lt : (k o n p : ℕ) → o < 2 ^ k → n < 2 ^ k → torn o n p < 2 ^ k
torn-lt k o n p a b = or_lt k (bit_and p (bit_xor o n)) (bit_and o n) (omega (arith, and_le_r p (bit_xor o n), xor_lt k o n a b)) (and_lt k o n a b)

pub torn-low : (k o n p : ℕ) → o < 2 ^ k → n < 2 ^ k → torn o n (p % 2 ^ k) ≡ torn o n p
torn-low k o n p a b = sym (torn-mod o n p k ∙ ap₂ (λ (x y : ℕ). torn x y (p % 2 ^ k)) (mod-eq_of_lt a) (mod-eq_of_lt b)) ∙ mod-eq_of_lt (torn-lt k o n p a b)
