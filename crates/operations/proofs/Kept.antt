-- The kept bits after a status write, finished or cut: BP and the register stay in their range, and TB stays set.
use Rattle.std.specs.Prelude.{Option, Some, None}
use mathlib.Core.Path.{◌≡◌, refl}
use mathlib.Core.Bool.{Bool, true, false, ◌&&◌, ◌||◌, cond}
use mathlib.Core.List.{List}
use Prim.Native.Nat.{ℕ, ◌+◌, ◌*◌, ◌/◌, ◌%◌, ◌≤◌}
use native.Mathlib.Nat.{mod-lt}
use native.Mathlib.Omega.{arith}
use lib.Dec.{eqb}
use lib.ListN.{get_or}
use Rattle.cells.specs.Cell.{torn}
use Rattle.models.specs.Models.{model_of}
use Rattle.states.specs.States.{flag, config_ok}
use Rattle.states.specs.declared.State.{State}
use Rattle.operations.specs.Operations.{config_written, config_after, written, finished_bits, torn_bits, cut_bits, bits_of}
use Rattle.commands.specs.declared.Operation.{Operation}
use Rattle.commands.specs.declared.Operation.TheVariants.{WritesStatus, Programs, ErasesSector, ErasesHalf, ErasesBlock, ErasesChip}
use Rattle.states.proofs.States.{only-tb-ok}
use lib.Bits.{and_zero_r}
use borrow.Author.Tests.{eqb-true}

-- the two reserved bits are 0, and TB is 1 where it was or is written
record Register (old b v : ℕ) : Type 0 where
  high : v / 32 % 2 ≡ 0
  low : v / 4 % 2 ≡ 0
  tb : v / 8 % 2 ≡ flag (eqb (old / 8 % 2) 1 || eqb (b / 8 % 2) 1) 1

config-written : (old b : ℕ) → Register old b (config_written old b)
unfolding config_written
config-written old b =
    let k = go (eqb (b / 16 % 2) 1) (eqb (old / 8 % 2) 1 || eqb (b / 8 % 2) 1) in
    record { high = k.0; low = k.1.0; tb = k.1.1 }
  where
    go : (p t : Bool) → (let v = b / 64 * 64 + (flag p 16 + (flag t 8 + b % 4)) in (v / 32 % 2 ≡ 0) × ((v / 4 % 2 ≡ 0) × (v / 8 % 2 ≡ flag t 1)))
    go true true = (omega arith, (omega arith, omega arith))
    go true false = (omega arith, (omega arith, omega arith))
    go false true = (omega arith, (omega arith, omega arith))
    go false false = (omega arith, (omega arith, omega arith))

pub written-tb : (old b : ℕ) → config_written old b / 8 % 2 ≡ flag (eqb (old / 8 % 2) 1 || eqb (b / 8 % 2) 1) 1
written-tb old b = (config-written old b).tb

module _ (n : ℕ) (s : State) (page : List ℕ) where
  pub config-after-ok : config_ok (model_of n).register s.config ≡ true → config_ok (model_of n).register (config_after n s page) ≡ true
  unfolding config_after config_ok
  config-after-ok h = go (model_of n).register (eqb s.address 2) h
    where
      go : (r l : Bool) → config_ok r s.config ≡ true → config_ok r (cond (r && l) (config_written s.config (get_or page 1 0)) s.config) ≡ true
      go true true e = let k = config-written s.config (get_or page 1 0) in rw (k.high, k.low)
      go true false e = e
      go false l e = e

  -- TB, once set, stays set
  pub config-after-tb : eqb (s.config / 8 % 2) 1 ≡ true → eqb (config_after n s page / 8 % 2) 1 ≡ true
  unfolding config_after
  config-after-tb h = go ((model_of n).register && eqb s.address 2)
    where
      go : (b : Bool) → eqb (cond b (config_written s.config (get_or page 1 0)) s.config / 8 % 2) 1 ≡ true
      go true = rw ((config-written s.config (get_or page 1 0)).tb, h)
      go false = h

pub written-level : (n : ℕ) (s : State) (page : List ℕ) → (written n s page).bp ≤ (model_of n).highest_bp
unfolding written
written-level n s page = omega (arith, mod-lt (get_or page 0 0 / 4) {m = (model_of n).highest_bp + 1} (omega arith))

pub torn-level : (n : ℕ) (s : State) (page pattern : List ℕ) → (torn_bits n s page pattern).bp ≤ (model_of n).highest_bp
unfolding torn_bits
torn-level n s page pattern =
    omega (arith, mod-lt (torn (bits_of s) (bits_of (written n s page)) (get_or pattern 0 0) / 4) {m = (model_of n).highest_bp + 1} (omega arith))

-- ---- whatever the operation
module _ (n : ℕ) (s : State) (page : List ℕ) where
  pub finished-level : (op : Option Operation) → s.bp ≤ (model_of n).highest_bp → (finished_bits n op s page).bp ≤ (model_of n).highest_bp
  finished-level None h = h
  finished-level (Some WritesStatus) h = written-level n s page
  finished-level (Some Programs) h = h
  finished-level (Some ErasesSector) h = h
  finished-level (Some ErasesHalf) h = h
  finished-level (Some ErasesBlock) h = h
  finished-level (Some ErasesChip) h = h

  pub finished-register : (op : Option Operation) → config_ok (model_of n).register s.config ≡ true → config_ok (model_of n).register (finished_bits n op s page).config ≡ true
  unfolding written
  finished-register None h = h
  finished-register (Some WritesStatus) h = config-after-ok n s page h
  finished-register (Some Programs) h = h
  finished-register (Some ErasesSector) h = h
  finished-register (Some ErasesHalf) h = h
  finished-register (Some ErasesBlock) h = h
  finished-register (Some ErasesChip) h = h

  -- the time to settle is not touched
  pub finished-settle : (op : Option Operation) → (finished_bits n op s page).settle ≡ s.settle
  unfolding written
  finished-settle None = refl
  finished-settle (Some WritesStatus) = refl
  finished-settle (Some Programs) = refl
  finished-settle (Some ErasesSector) = refl
  finished-settle (Some ErasesHalf) = refl
  finished-settle (Some ErasesBlock) = refl
  finished-settle (Some ErasesChip) = refl

  pub finished-awake : (op : Option Operation) → (finished_bits n op s page).asleep ≡ s.asleep
  unfolding written
  finished-awake None = refl
  finished-awake (Some WritesStatus) = refl
  finished-awake (Some Programs) = refl
  finished-awake (Some ErasesSector) = refl
  finished-awake (Some ErasesHalf) = refl
  finished-awake (Some ErasesBlock) = refl
  finished-awake (Some ErasesChip) = refl

  module _ (pattern : List ℕ) where
    pub cut_level : (op : Option Operation) → s.bp ≤ (model_of n).highest_bp → (cut_bits n op s page pattern).bp ≤ (model_of n).highest_bp
    cut_level None h = h
    cut_level (Some WritesStatus) h = torn-level n s page pattern
    cut_level (Some Programs) h = h
    cut_level (Some ErasesSector) h = h
    cut_level (Some ErasesHalf) h = h
    cut_level (Some ErasesBlock) h = h
    cut_level (Some ErasesChip) h = h

    -- the register with all but TB cleared is in its range
    torn-register : config_ok (model_of n).register s.config ≡ true → config_ok (model_of n).register ((torn_bits n s page pattern).config / 8 % 2 * 8) ≡ true
    unfolding torn_bits written config_after config_ok
    torn-register h = go (model_of n).register h
      where
        go : (r : Bool) → config_ok r s.config ≡ true
            → config_ok r (torn s.config (cond (r && eqb s.address 2) (config_written s.config (get_or page 1 0)) s.config) (get_or pattern 1 0) / 8 % 2 * 8) ≡ true
        go true e =
            let c = torn s.config (cond (eqb s.address 2) (config_written s.config (get_or page 1 0)) s.config) (get_or pattern 1 0) in
            let a : c / 8 % 2 * 8 / 32 % 2 ≡ 0 = omega arith in
            let b : c / 8 % 2 * 8 / 4 % 2 ≡ 0 = omega arith in
            rw (a, b)
        go false e = let z = eqb-true s.config 0 e in rw (z, and_zero_r (get_or pattern 1 0))

    pub cut-register : (op : Option Operation) → config_ok (model_of n).register s.config ≡ true → config_ok (model_of n).register ((cut_bits n op s page pattern).config / 8 % 2 * 8) ≡ true
    cut-register None h = only-tb-ok (model_of n).register s.config h
    cut-register (Some WritesStatus) h = torn-register h
    cut-register (Some Programs) h = only-tb-ok (model_of n).register s.config h
    cut-register (Some ErasesSector) h = only-tb-ok (model_of n).register s.config h
    cut-register (Some ErasesHalf) h = only-tb-ok (model_of n).register s.config h
    cut-register (Some ErasesBlock) h = only-tb-ok (model_of n).register s.config h
    cut-register (Some ErasesChip) h = only-tb-ok (model_of n).register s.config h
