-- A status write that was cut, bit by bit: SRWD, BP and TB.
use mathlib.Core.Path.{◌≡◌, refl, sym, ap, ap₂, ◌∙◌}
use mathlib.Core.Bool.{Bool, true, false, ◌&&◌, ◌||◌, cond}
use mathlib.Core.List.{List}
use mathlib.Core.Logic.{◌⊎◌, inl, inr, ⊎_elim}
use Prim.Native.Nat.{ℕ, zero, suc, ◌+◌, ◌*◌, ◌/◌, ◌%◌, ◌^◌, ◌≤◌, ◌<◌}
use native.Mathlib.Omega.{arith}
use lib.Dec.{eqb, leb}
use lib.ListN.{get_or}
use borrow.Author.Tests.{eqb-true, eq-eqb, leb-true, leb-false}
use Rattle.cells.specs.Cell.{bit, torn}
use Rattle.cells.proofs.Cell.{torn-shr, torn-mod, torn-bit, torn-old, torn-new, torn-lt, torn-low}
use Rattle.units.proofs.Bools.{either}
use Rattle.models.specs.Models.{Part, models, kh25l512, part_of, model_of}
use Rattle.models.proofs.Table.{found}
use Rattle.models.proofs.Rules.{highest-bp}
use Rattle.states.specs.States.{flag}
use Rattle.states.specs.declared.State.{State}
use Rattle.operations.specs.Operations.{config_written, config_after, written, bits_of, torn_bits}
use Rattle.operations.proofs.Kept.{written-tb, written-level}

-- ---- the byte: SRWD is bit 7, and BP has k bits from bit 2 on
byte_of : Bool → ℕ → ℕ
byte_of b bp = flag b 128 + 4 * bp

srwd-place : (b : Bool) (bp : ℕ) → bp < 16 → bit 7 (byte_of b bp) ≡ flag b 1
unfolding byte_of
srwd-place true bp l = omega arith
srwd-place false bp l = omega arith

a_byte : (b : Bool) (bp : ℕ) → bp < 16 → byte_of b bp < 256
unfolding byte_of
a_byte true bp l = omega arith
a_byte false bp l = omega arith

highest-bit : (x : ℕ) → x < 256 → flag (leb 128 x) 1 ≡ bit 7 x
highest-bit x l = go (leb 128 x) refl
  where
    go : (b : Bool) → leb 128 x ≡ b → flag b 1 ≡ bit 7 x
    go true e = omega (arith, leb-true 128 x e)
    go false e = omega (arith, leb-false 128 x e)

module _ (a b : Bool) (x y p : ℕ) where
  byte-srwd : x < 16 → y < 16 → flag (leb 128 (torn (byte_of a x) (byte_of b y) p)) 1 ≡ cond (eqb (flag a 1) (flag b 1)) (flag a 1) (bit 7 p)
  byte-srwd l m =
      highest-bit _ (torn-lt 8 (byte_of a x) (byte_of b y) p (a_byte a x l) (a_byte b y m))
      ∙ torn-bit 7 (byte_of a x) (byte_of b y) p
      ∙ rw (srwd-place a x l, srwd-place b y m)

  byte-bp : (k : ℕ) → byte_of a x / 4 % 2 ^ k ≡ x → byte_of b y / 4 % 2 ^ k ≡ y → x < 2 ^ k → y < 2 ^ k → torn (byte_of a x) (byte_of b y) p / 4 % 2 ^ k ≡ torn x y (p / 4)
  byte-bp k e f l m =
      ap (λ (z : ℕ). z % 2 ^ k) (torn-shr (byte_of a x) (byte_of b y) p 2)
      ∙ torn-mod (byte_of a x / 4) (byte_of b y / 4) (p / 4) k
      ∙ ap₂ (λ (u v : ℕ). torn u v (p / 4 % 2 ^ k)) e f
      ∙ torn-low k x y (p / 4) l m

-- ---- BP has two bits, or four
bits_test : Part → Bool
bits_test p = eqb (p.row.highest_bp + 1) 4 || eqb (p.row.highest_bp + 1) 16

two-or-four : (n : ℕ) → ((model_of n).highest_bp + 1 ≡ 4) ⊎ ((model_of n).highest_bp + 1 ≡ 16)
unfolding part_of bits_test
two-or-four n = ⊎_elim (λ e. inl (eqb-true _ _ e)) (λ e. inr (eqb-true _ _ e)) (either _ _ (found bits_test n kh25l512 models refl refl))

two-place : (b : Bool) (bp : ℕ) → bp < 4 → byte_of b bp / 4 % 4 ≡ bp
unfolding byte_of
two-place true bp l = omega arith
two-place false bp l = omega arith

four-place : (b : Bool) (bp : ℕ) → bp < 16 → byte_of b bp / 4 % 16 ≡ bp
unfolding byte_of
four-place true bp l = omega arith
four-place false bp l = omega arith

-- ---- one bit: it was to stay; its pattern bit is the old one, or the new one; and TB, which can only become 1
same_flag : (a b : Bool) → flag a 1 ≡ flag b 1 → a ≡ b
same_flag true true e = refl
same_flag true false e = absurd (omega arith)
same_flag false true e = absurd (omega arith)
same_flag false false e = refl

pub not-changed : (a p : ℕ) → cond (eqb a a) a p ≡ a
not-changed a p = rw (eq-eqb a a refl)

keeps-old : (a b : ℕ) → cond (eqb a b) a a ≡ a
keeps-old a b = go (eqb a b)
  where
    go : (t : Bool) → cond t a a ≡ a
    go true = refl
    go false = refl

takes-new : (a b : ℕ) → cond (eqb a b) a b ≡ b
takes-new a b = go (eqb a b) refl
  where
    go : (t : Bool) → eqb a b ≡ t → cond t a b ≡ b
    go true e = eqb-true a b e
    go false e = refl

tb-rises : (a p : ℕ) → a < 2 → p < 2 → (let w : ℕ = flag (eqb a 1 || eqb p 1) 1 in cond (eqb a w) a p ≡ w)
tb-rises zero zero l m = refl
tb-rises zero (suc zero) l m = refl
tb-rises zero (suc (suc p)) l m = absurd (omega arith)
tb-rises (suc zero) p l m = refl
tb-rises (suc (suc a)) p l m = absurd (omega arith)

-- ---- what a cut leaves of SRWD and BP; of the register `torn_bits` says it itself
module _ (n : ℕ) (s : State) (page pattern : List ℕ) (level : s.bp ≤ (model_of n).highest_bp) where
  abbrev new : State
  new = written n s page

  small : (new.bp < 16) × (s.bp < 16)
  small = (omega (arith, highest-bp n, written-level n s page), omega (arith, highest-bp n))

  pub torn-srwd : flag (torn_bits n s page pattern).srwd 1 ≡ cond (eqb (flag s.srwd 1) (flag new.srwd 1)) (flag s.srwd 1) (bit 7 (get_or pattern 0 0))
  unfolding torn_bits byte_of
  torn-srwd = byte-srwd s.srwd new.srwd s.bp new.bp (get_or pattern 0 0) small.1 small.0

  pub torn-bp : (torn_bits n s page pattern).bp ≡ torn s.bp new.bp (get_or pattern 0 0 / 4)
  unfolding torn_bits byte_of
  torn-bp = ⊎_elim (λ e. rw e (two (omega arith) (omega (arith, written-level n s page)))) (λ e. rw e (four small.1 small.0)) (two-or-four n)
    where
      p : ℕ
      p = get_or pattern 0 0

      two : s.bp < 4 → new.bp < 4 → torn (bits_of s) (bits_of new) p / 4 % 4 ≡ torn s.bp new.bp (p / 4)
      two l m = byte-bp s.srwd new.srwd s.bp new.bp p 2 (two-place s.srwd s.bp l) (two-place new.srwd new.bp m) l m

      four : s.bp < 16 → new.bp < 16 → torn (bits_of s) (bits_of new) p / 4 % 16 ≡ torn s.bp new.bp (p / 4)
      four l m = byte-bp s.srwd new.srwd s.bp new.bp p 4 (four-place s.srwd s.bp l) (four-place new.srwd new.bp m) l m

  -- ---- with a pattern that has the old bits nothing has happened
  pub srwd-old : bit 7 (get_or pattern 0 0) ≡ flag s.srwd 1 → (torn_bits n s page pattern).srwd ≡ s.srwd
  srwd-old e = same_flag _ _ (torn-srwd ∙ rw e (keeps-old (flag s.srwd 1) (flag new.srwd 1)))

  pub bp-old : get_or pattern 0 0 / 4 % 16 ≡ s.bp → (torn_bits n s page pattern).bp ≡ s.bp
  bp-old e = torn-bp ∙ sym (torn-low 4 s.bp new.bp (get_or pattern 0 0 / 4) small.1 small.0) ∙ rw e (torn-old s.bp new.bp)

  pub tb-old : (s.address ≡ 2 → get_or pattern 1 0 ≡ s.config) → bit 3 (torn_bits n s page pattern).config ≡ bit 3 s.config
  unfolding torn_bits written config_after
  tb-old h = torn-bit 3 s.config (config_after n s page) (get_or pattern 1 0) ∙ go (model_of n).register (eqb s.address 2) refl
    where
      go : (r l : Bool) → eqb s.address 2 ≡ l
          → (let w : ℕ = cond (r && l) (config_written s.config (get_or page 1 0)) s.config in cond (eqb (bit 3 s.config) (bit 3 w)) (bit 3 s.config) (bit 3 (get_or pattern 1 0)) ≡ bit 3 s.config)
      go true true e = rw (h (eqb-true _ _ e)) (keeps-old (bit 3 s.config) (bit 3 (config_written s.config (get_or page 1 0))))
      go true false e = not-changed (bit 3 s.config) (bit 3 (get_or pattern 1 0))
      go false l e = not-changed (bit 3 s.config) (bit 3 (get_or pattern 1 0))

  -- ---- with that of the data bytes it has finished
  pub srwd-new : get_or pattern 0 0 ≡ get_or page 0 0 → get_or page 0 0 < 256 → (torn_bits n s page pattern).srwd ≡ new.srwd
  unfolding written
  srwd-new e l = same_flag _ _ (torn-srwd ∙ rw (e, ← (highest-bit (get_or page 0 0) l)) (takes-new (flag s.srwd 1) (flag new.srwd 1)))

  pub bp-new : get_or pattern 0 0 ≡ get_or page 0 0 → (torn_bits n s page pattern).bp ≡ new.bp
  unfolding written
  bp-new e = torn-bp ∙ ⊎_elim (λ b. go 2 b) (λ b. go 4 b) (two-or-four n)
    where
      go : (k : ℕ) → (model_of n).highest_bp + 1 ≡ 2 ^ k → torn s.bp new.bp (get_or pattern 0 0 / 4) ≡ new.bp
      go k b =
          let q : ℕ = get_or page 0 0 / 4 in
          rw e
          (sym (torn-low k s.bp new.bp q (omega arith) (omega (arith, written-level n s page))) ∙ ap (λ (m : ℕ). torn s.bp new.bp (q % m)) (sym b) ∙ torn-new s.bp new.bp)

  pub tb-new : (s.address ≡ 2 → get_or pattern 1 0 ≡ get_or page 1 0) → bit 3 (torn_bits n s page pattern).config ≡ bit 3 new.config
  unfolding torn_bits written config_after
  tb-new h = torn-bit 3 s.config (config_after n s page) (get_or pattern 1 0) ∙ go (model_of n).register (eqb s.address 2) refl
    where
      go : (r l : Bool) → eqb s.address 2 ≡ l
          → (let w : ℕ = cond (r && l) (config_written s.config (get_or page 1 0)) s.config in cond (eqb (bit 3 s.config) (bit 3 w)) (bit 3 s.config) (bit 3 (get_or pattern 1 0)) ≡ bit 3 w)
      go true true e = rw (h (eqb-true _ _ e), written-tb s.config (get_or page 1 0)) (tb-rises (bit 3 s.config) (bit 3 (get_or page 1 0)) (omega arith) (omega arith))
      go true false e = not-changed (bit 3 s.config) (bit 3 (get_or pattern 1 0))
      go false l e = not-changed (bit 3 s.config) (bit 3 (get_or pattern 1 0))
