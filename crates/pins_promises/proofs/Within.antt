-- A sample within a frame, none held: what the front becomes.
use mathlib.Core.Path.{◌≡◌, refl, ap, ◌∙◌}
use mathlib.Core.Bool.{Bool, true, false, not, ◌&&◌, true≢false}
use mathlib.Core.List.{List, ◌∷◌}
use Prim.Native.Nat.{ℕ, ◌+◌, ◌*◌}
use lib.Dec.{ltb}
use lib.ListN.{length, set}
use borrow.Author.Tests.{not-true, ltb-true, ltb-false}
use Rattle.units.proofs.Bools.{both}
use Rattle.pins.specs.declared.Front.{Front}
use Rattle.pins.specs.Pins.{select_of, clock_of, si_of, is_held, frame_limit, silent, sampled, takes_bit, bit_taken, clocked_of, step_of}
use Rattle.pins.proofs.Choices.{on-true, on-false}
use Rattle.pins.proofs.Table.{step-low}
use Rattle.pins_run.proofs.Going.{made, step_kept, step-bit, step-byte}
use Rattle.pins_promises.specs.Samples.{all_low, none_held}

-- a front within a frame, not held; one whose frame has outgrown
abbrev pub at : Bool → Bool → ℕ → ℕ → ℕ → Front
at clock wp n v k = made false clock false wp false n v k

abbrev pub gone : Bool → Bool → Front
gone clock wp = made false clock false wp true 0 0 0

-- the first of samples with CS# low, none held, and those after it
pub record Low (l : ℕ) (ls : List ℕ) : Type 0 where
  pub low : select_of l ≡ false
  pub free : is_held false l ≡ false
  pub lows : all_low ls ≡ true
  pub frees : none_held false ls ≡ true

pub first_low : (l : ℕ) (ls : List ℕ) → all_low (l ∷ ls) ≡ true → none_held false (l ∷ ls) ≡ true → Low l ls
first_low l ls low none =
    let a = both (not (select_of l)) (all_low ls) low in
    let b = both (not (is_held false l)) (none_held (is_held false l) ls) none in
    let nh : is_held false l ≡ false = not-true (is_held false l) b.0 in
    record { low = not-true (select_of l) a.0; free = nh; lows = a.1; frees = rw nh at b.1 }

-- ---- what a sample does
module _ (clock wp : Bool) (l : ℕ) (buffer : List ℕ) (lo : select_of l ≡ false) (nh : is_held false l ≡ false) where
  pub gone-on : step_of (gone clock wp) l buffer ≡ sampled (gone (clock_of l) wp) silent buffer
  gone-on =
      step_kept (gone clock wp) l buffer refl lo (never clock (clock_of l) (is_held false l))
      ∙ ap (λ (x : Bool). sampled (made false (clock_of l) x wp true 0 0 0) silent buffer) nh
    where
      never : (a b c : Bool) → (not a && (b && (not c && false))) ≡ false
      never true b c = refl
      never false false c = refl
      never false true true = refl
      never false true false = refl

  module _ (bits value k : ℕ) where
    abbrev f : Front
    f = at clock wp bits value k

    pub no-clock : (not clock && clock_of l) ≡ false → step_of f l buffer ≡ sampled (at (clock_of l) wp bits value k) silent buffer
    no-clock p =
        step_kept f l buffer refl lo (still clock (clock_of l) _ p) ∙ ap (λ (x : Bool). sampled (made false (clock_of l) x wp false bits value k) silent buffer) nh
      where
        still : (a b c : Bool) → (not a && b) ≡ false → (not a && (b && c)) ≡ false
        still true b c e = refl
        still false true c e = absurd (true≢false e)
        still false false c e = refl

    module _ (p : (not clock && clock_of l) ≡ true) where
      took : takes_bit f l ≡ true
      took = rw nh (go clock (clock_of l) p)
        where
          go : (a b : Bool) → (not a && b) ≡ true → (not a && (b && true)) ≡ true
          go true b e = e
          go false true e = refl
          go false false e = e

      pub one-bit : ltb bits 7 ≡ true → step_of f l buffer ≡ sampled (at (clock_of l) wp (bits + 1) (2 * value + si_of l) k) silent buffer
      one-bit r =
          step-bit f l refl lo took (ltb-true bits 7 r) buffer
          ∙ ap (λ (x : Bool). sampled (made false (clock_of l) x wp false (bits + 1) (2 * value + si_of l) k) silent buffer) nh

      pub whole_byte : ltb bits 7 ≡ false → (ltb k frame_limit && ltb k (length buffer)) ≡ true
          → step_of f l buffer ≡ sampled (at (clock_of l) wp 0 0 (k + 1)) silent (set buffer k (2 * value + si_of l))
      whole_byte r fits =
          step-byte f l refl lo took (ltb-false bits 7 r) buffer fits
          ∙ ap (λ (x : Bool). sampled (made false (clock_of l) x wp false 0 0 (k + 1)) silent (set buffer k (2 * value + si_of l))) nh

      -- the byte that does not fit
      pub one-over : ltb bits 7 ≡ false → (ltb k frame_limit && ltb k (length buffer)) ≡ false → step_of f l buffer ≡ sampled (gone (clock_of l) wp) silent buffer
      unfolding clocked_of bit_taken
      one-over r none =
          step-low f l buffer refl lo ∙ on-true (takes_bit f l) _ _ took ∙ on-false (ltb bits 7) _ _ r ∙ on-false (ltb k frame_limit && ltb k (length buffer)) _ _ none
          ∙ ap (λ (x : Bool). sampled (made false (clock_of l) x wp true 0 0 0) silent buffer) nh
