-- Laws of the status byte and the flag: taken apart, put together, tested.
use mathlib.Core.Path.{◌≡◌, refl}
use mathlib.Core.Bool.{Bool, true, false, ◌&&◌}
use Prim.Native.Nat.{ℕ, zero, suc, ◌+◌, ◌*◌, ◌/◌, ◌%◌, ◌≤◌, ◌<◌}
use native.Mathlib.Nat.{div-div-eq-div-mul}
use native.Mathlib.Omega.{arith}
use lib.Dec.{eqb, leb}
use mir.Val.{bool_byte}
use borrow.Author.Tests.{eqb-true, eqb-false, eq-eqb, ne_eqb, le-leb, lt-leb, leb-true, leb-false}
use Rattle.states.specs.States.{flag}

-- ---- bits
pub flag-byte : (b : Bool) → bool_byte b ≡ flag b 1
flag-byte true = refl
flag-byte false = refl

pub flag-back : (b : Bool) → eqb (flag b 1) 1 ≡ b
flag-back true = refl
flag-back false = refl

bit_le : (b : Bool) → flag b 1 ≤ 1
bit_le true = omega arith
bit_le false = omega arith

bit-2 : (b : Bool) → flag b 2 ≡ 2 * flag b 1
bit-2 true = refl
bit-2 false = refl

bit-128 : (b : Bool) → flag b 128 ≡ 128 * flag b 1
bit-128 true = refl
bit-128 false = refl

-- ---- taken apart: SRWD, BP, WEL and WIP put together give each back
module _ (srwd wel wip : Bool) (bp : ℕ) where
  abbrev pub byte : ℕ
  byte = flag srwd 128 + (4 * bp + (flag wel 2 + flag wip 1))

  pub bp-back : bp ≤ 15 → byte / 4 % 16 ≡ bp
  bp-back h = rw (bit-128 srwd, bit-2 wel) (omega (arith, bit_le srwd, bit_le wel, bit_le wip))

  half : byte / 2 % 2 ≡ flag wel 1
  half = rw (bit-128 srwd, bit-2 wel) (omega (arith, bit_le srwd, bit_le wel, bit_le wip))

  pub wel-back : eqb (byte / 2 % 2) 1 ≡ wel
  wel-back = rw half (flag-back wel)

pub srwd-back : (srwd wel wip : Bool) (bp : ℕ) → bp ≤ 15 → leb 128 (byte srwd wel wip bp) ≡ srwd
srwd-back true wel wip bp h = le-leb 128 (byte true wel wip bp) (omega arith)
srwd-back false wel wip bp h = lt-leb 128 (byte false wel wip bp) (rw (bit-2 wel) (omega (arith, bit_le wel, bit_le wip)))

-- ---- tested: a byte is what SRWD, BP, WEL and a bit 0 that is asked for make of it, where its bit 6 is clear and its bit 0 that bit
others : (p six q r low v b : ℕ) → p + (64 * six + (q + (r + low))) ≡ b → six ≤ 1 → low ≤ 1 → v ≤ 1
    → eqb b (p + (q + (r + v))) ≡ (eqb six 0 && eqb low v)
others p six q r low v b e hs hl hv = go (eqb six 0) (eqb low v) refl refl
  where
    go : (x y : Bool) → eqb six 0 ≡ x → eqb low v ≡ y → eqb b (p + (q + (r + v))) ≡ (x && y)
    go true true f g =
        let k : six ≡ 0 = eqb-true six 0 f in
        let l : low ≡ v = eqb-true low v g in
        eq-eqb b (p + (q + (r + v))) (omega arith)
    go true false f g =
        let k : six ≡ 0 = eqb-true six 0 f in
        ne_eqb b (p + (q + (r + v))) (λ (m : b ≡ p + (q + (r + v))). eqb-false low v g (omega arith))
    go false y f g = ne_eqb b (p + (q + (r + v))) (λ (m : b ≡ p + (q + (r + v))). eqb-false six 0 f (omega arith))

module _ (b : ℕ) (h : b < 256) where
  bit-7 : flag (leb 128 b) 128 ≡ 128 * (b / 128)
  bit-7 = go (leb 128 b) refl
    where
      go : (t : Bool) → leb 128 b ≡ t → flag t 128 ≡ 128 * (b / 128)
      go true e = let l : 128 ≤ b = leb-true 128 b e in omega arith
      go false e = let l : b < 128 = leb-false 128 b e in omega arith

  bit-1 : flag (eqb (b / 2 % 2) 1) 2 ≡ 2 * (b / 2 % 2)
  bit-1 = go (eqb (b / 2 % 2) 1) refl
    where
      go : (t : Bool) → eqb (b / 2 % 2) 1 ≡ t → flag t 2 ≡ 2 * (b / 2 % 2)
      go true e = let l : b / 2 % 2 ≡ 1 = eqb-true (b / 2 % 2) 1 e in omega arith
      go false e = let l : (b / 2 % 2 ≡ 1 → ⊥) = eqb-false (b / 2 % 2) 1 e in omega arith

  all-bits : 128 * (b / 128) + (64 * (b / 64 % 2) + (4 * (b / 4 % 16) + (2 * (b / 2 % 2) + b % 2))) ≡ b
  all-bits =
      let two : b / 2 / 2 ≡ b / 4 = div-div-eq-div-mul b 2 2 in
      let six : b / 4 / 16 ≡ b / 64 = div-div-eq-div-mul b 4 16 in
      let seven : b / 64 / 2 ≡ b / 128 = div-div-eq-div-mul b 64 2 in
      omega (arith, two, six, seven)

  pub status-test : (wip : Bool)
      → eqb b (byte (leb 128 b) (eqb (b / 2 % 2) 1) wip (b / 4 % 16)) ≡ (eqb (b / 64 % 2) 0 && eqb (b % 2) (flag wip 1))
  status-test wip =
      rw (bit-7, bit-1)
      (others (128 * (b / 128)) (b / 64 % 2) (4 * (b / 4 % 16)) (2 * (b / 2 % 2)) (b % 2) (flag wip 1) b all-bits (omega arith) (omega arith) (bit_le wip))

-- the flag is 0 or 1
pub flag-test : (b : ℕ) → eqb b (flag (eqb b 1) 1) ≡ leb b 1
flag-test zero = refl
flag-test (suc zero) = refl
flag-test (suc (suc n)) =
    rw (ne_eqb (suc (suc n)) 1 (λ (e : suc (suc n) ≡ 1). omega arith), ne_eqb (suc (suc n)) 0 (λ (e : suc (suc n) ≡ 0). omega arith), lt-leb (suc (suc n)) 1 (omega arith))
