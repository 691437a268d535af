-- The laws of `specs/Reading.antt` that the proofs cite. No contract cites this file.
use mathlib.Core.Path.{◌≡◌, refl, sym, ap, ◌∙◌}
use mathlib.Core.Bool.{Bool, true, false, not, ◌&&◌, ◌||◌}
use mathlib.Core.List.{List, [], ◌∷◌}
use Prim.Native.Nat.{ℕ, suc, ◌+◌, ◌-◌, ◌*◌, ◌/◌, ◌%◌, ◌≤◌, ◌<◌}
use native.Mathlib.Numerals.{add-one}
use native.Mathlib.Omega.{arith}
use lib.Dec.{eqb, leb, ltb, eqb-suc-suc, leb-suc-suc}
use lib.ListN.{length, get_or, drop, drop_of_length-le, get_or-eq_default}
use lib.Seq.{drop-cons}
use borrow.Author.Tests.{leb-true, le-leb, lt-leb, eqb-true, ltb-true, ltb-false, lt-ltb, le-ltb}
use Rattle.text.specs.Text.{tab}
use Rattle.std.specs.Prelude.{Option, Some, None, option_map}
use Rattle.script.specs.declared.Line.{Line}
use Rattle.script.specs.declared.Line.TheVariants.{Frame, Wait, Power}
use Rattle.script.specs.Grammar.{F}
use Rattle.script.specs.Hex.{is_digit}
use Rattle.script.specs.Reading.{all_hex, all_digits, value_from, numbered, plain_number, frame_head, is_frame, wait_head, is_wait, is_power, other_line, line_of}
use Rattle.script.proofs.HexLaws.{and_left, and_right, and-false}
use Rattle.script.proofs.Decimal.{grows}

-- ---- a number, digit by digit
pub number_off : (n : ℕ) (s : List ℕ) (i : ℕ) → i < length s → is_digit (get_or s i 0) ≡ false → None ≡ numbered n (drop i s)
unfolding numbered
number_off n s i l e = rw (drop-cons s i 0, e)

pub number_on : (n : ℕ) (s : List ℕ) (i : ℕ) → i < length s → is_digit (get_or s i 0) ≡ true → numbered n (drop i s) ≡ numbered (n * 10 + (get_or s i 0 - 48)) (drop (i + 1) s)
unfolding numbered
number_on n s i l e = rw (add-one, drop-cons s i 0, e)

over : (n : ℕ) (s : List ℕ) → 4294967295 < n → None ≡ numbered n s
unfolding numbered
over n s l =
    let h : n ≤ value_from n s = grows n s in
    rw (lt-leb (value_from n s) 4294967295 (omega arith), and-false (all_digits s))

pub number_over : (n : ℕ) (s : List ℕ) (i : ℕ) → i < length s → is_digit (get_or s i 0) ≡ true → 4294967295 < n * 10 + (get_or s i 0 - 48) → None ≡ numbered n (drop i s)
number_over n s i l e h = over (n * 10 + (get_or s i 0 - 48)) (drop (i + 1) s) h ∙ sym (number_on n s i l e)

pub number_end : (n : ℕ) (s : List ℕ) (i : ℕ) → length s ≤ i → n ≤ 4294967295 → Some n ≡ numbered n (drop i s)
unfolding numbered
number_end n s i l m = rw (drop_of_length-le s l, le-leb n 4294967295 m)

-- ---- the parts of a line
pub plain_is : (s : List ℕ) → (eqb (length s) 3 || (ltb 3 (length s) && not (eqb (get_or s 2 0) 48))) ≡ plain_number (drop 2 s)
unfolding plain_number
plain_is [] = refl
plain_is (a ∷ []) = refl
plain_is (a ∷ b ∷ []) = refl
plain_is (a ∷ b ∷ c ∷ s) = rw (eqb-suc-suc (suc (suc (length s))) 2, eqb-suc-suc (suc (length s)) 1, leb-suc-suc 3 (suc (suc (length s))), leb-suc-suc 2 (suc (length s)))

-- a byte that is not 0 stands within the line
pub within-line : (s : List ℕ) (i v : ℕ) → get_or s i 0 ≡ suc v → i < length s
within-line s i v e = go (ltb i (length s)) refl
  where
    go : (t : Bool) → ltb i (length s) ≡ t → i < length s
    go true p = ltb-true i (length s) p
    go false p =
        let h : get_or s i 0 ≡ 0 = get_or-eq_default s 0 (ltb-false i (length s) p) in
        omega arith

-- what the test of a frame's line shows
pub record FrameParts (s : List ℕ) : Type 0 where
  pub kind : get_or s 0 0 ≡ F
  pub tab-1 : get_or s 1 0 ≡ tab
  pub wp-low : 48 ≤ get_or s 2 0
  pub wp-high : get_or s 2 0 ≤ 49
  pub tab-3 : get_or s 3 0 ≡ tab
  pub tail-low : 48 ≤ get_or s 4 0
  pub tail-high : get_or s 4 0 ≤ 55
  pub tab-5 : get_or s 5 0 ≡ tab
  pub even : length s % 2 ≡ 0
  pub most : length s ≤ 606
  pub least : 6 ≤ length s
  pub hex : all_hex (drop 6 s) ≡ true

pub frame-parts : (s : List ℕ) → is_frame s ≡ true → FrameParts s
unfolding is_frame frame_head
frame-parts s e =
    let kind : Bool = eqb (get_or s 0 0) F && eqb (get_or s 1 0) tab in
    let low : Bool = leb 48 (get_or s 2 0) && leb (get_or s 2 0) 49 in
    let wp : Bool = low && eqb (get_or s 3 0) tab in
    let bits : Bool = leb 48 (get_or s 4 0) && leb (get_or s 4 0) 55 in
    let tail : Bool = bits && eqb (get_or s 5 0) tab in
    let fits : Bool = eqb (length s % 2) 0 && leb (length s) 606 in
    let head : ((kind && wp) && (tail && fits)) ≡ true = and_left ((kind && wp) && (tail && fits)) (all_hex (drop 6 s)) e in
    let start : (kind && wp) ≡ true = and_left (kind && wp) (tail && fits) head in
    let end : (tail && fits) ≡ true = and_right (kind && wp) (tail && fits) head in
    let k : kind ≡ true = and_left kind wp start in
    let w : wp ≡ true = and_right kind wp start in
    let w2 : low ≡ true = and_left low (eqb (get_or s 3 0) tab) w in
    let t : tail ≡ true = and_left tail fits end in
    let t2 : bits ≡ true = and_left bits (eqb (get_or s 5 0) tab) t in
    let f : fits ≡ true = and_right tail fits end in
    let five : get_or s 5 0 ≡ tab = eqb-true (get_or s 5 0) tab (and_right bits (eqb (get_or s 5 0) tab) t) in
    record {
      kind = eqb-true (get_or s 0 0) F (and_left (eqb (get_or s 0 0) F) (eqb (get_or s 1 0) tab) k);
      tab-1 = eqb-true (get_or s 1 0) tab (and_right (eqb (get_or s 0 0) F) (eqb (get_or s 1 0) tab) k);
      wp-low = leb-true 48 (get_or s 2 0) (and_left (leb 48 (get_or s 2 0)) (leb (get_or s 2 0) 49) w2);
      wp-high = leb-true (get_or s 2 0) 49 (and_right (leb 48 (get_or s 2 0)) (leb (get_or s 2 0) 49) w2);
      tab-3 = eqb-true (get_or s 3 0) tab (and_right low (eqb (get_or s 3 0) tab) w);
      tail-low = leb-true 48 (get_or s 4 0) (and_left (leb 48 (get_or s 4 0)) (leb (get_or s 4 0) 55) t2);
      tail-high = leb-true (get_or s 4 0) 55 (and_right (leb 48 (get_or s 4 0)) (leb (get_or s 4 0) 55) t2);
      tab-5 = five;
      even = eqb-true (length s % 2) 0 (and_left (eqb (length s % 2) 0) (leb (length s) 606) f);
      most = leb-true (length s) 606 (and_right (eqb (length s % 2) 0) (leb (length s) 606) f);
      least = within-line s 5 8 five;
      hex = and_right ((kind && wp) && (tail && fits)) (all_hex (drop 6 s)) e;
    }

-- so a head is six bytes long, and that of a wait two
pub head_long : (s : List ℕ) → frame_head s ≡ true → 6 ≤ length s
unfolding frame_head
head_long s e =
    let kind : Bool = eqb (get_or s 0 0) F && eqb (get_or s 1 0) tab in
    let wp : Bool = (leb 48 (get_or s 2 0) && leb (get_or s 2 0) 49) && eqb (get_or s 3 0) tab in
    let bits : Bool = leb 48 (get_or s 4 0) && leb (get_or s 4 0) 55 in
    let fits : Bool = eqb (length s % 2) 0 && leb (length s) 606 in
    let tail : (bits && eqb (get_or s 5 0) tab) ≡ true = and_left (bits && eqb (get_or s 5 0) tab) fits (and_right (kind && wp) ((bits && eqb (get_or s 5 0) tab) && fits) e) in
    within-line s 5 8 (eqb-true (get_or s 5 0) tab (and_right bits (eqb (get_or s 5 0) tab) tail))

pub wait_long : (s : List ℕ) → wait_head s ≡ true → 2 ≤ length s
unfolding wait_head
wait_long s e =
    let t : eqb (get_or s 1 0) tab ≡ true = and_right (eqb (get_or s 0 0) 87) (eqb (get_or s 1 0) tab) (and_left (eqb (get_or s 0 0) 87 && eqb (get_or s 1 0) tab) (plain_number (drop 2 s)) e) in
    within-line s 1 8 (eqb-true (get_or s 1 0) tab t)

pub wait-in : (s : List ℕ) (n : ℕ) → wait_head s ≡ true → Some n ≡ numbered 0 (drop 2 s) → Some (Wait n) ≡ other_line s
unfolding numbered other_line is_wait
wait-in s n h e = go (all_digits (drop 2 s) && leb (value_from 0 (drop 2 s)) 4294967295) refl
  where
    go : (t : Bool) → (all_digits (drop 2 s) && leb (value_from 0 (drop 2 s)) 4294967295) ≡ t → Some (Wait n) ≡ other_line s
    go true p = let v : Some n ≡ Some (value_from 0 (drop 2 s)) = e ∙ rw p in rw (h, p) (ap (option_map Wait) v)
    go false p = let z : Some n ≡ None = e ∙ rw p in absurd cc

pub wait-out : (s : List ℕ) → wait_head s ≡ true → None ≡ numbered 0 (drop 2 s) → None ≡ other_line s
unfolding numbered other_line is_wait is_power wait_head
wait-out s h e = go (all_digits (drop 2 s) && leb (value_from 0 (drop 2 s)) 4294967295) refl
  where
    first : get_or s 0 0 ≡ 87
    first = eqb-true (get_or s 0 0) 87 (and_left (eqb (get_or s 0 0) 87) (eqb (get_or s 1 0) 9) (and_left (eqb (get_or s 0 0) 87 && eqb (get_or s 1 0) 9) (plain_number (drop 2 s)) h))

    go : (t : Bool) → (all_digits (drop 2 s) && leb (value_from 0 (drop 2 s)) 4294967295) ≡ t → None ≡ other_line s
    go true p = let z : None ≡ Some (value_from 0 (drop 2 s)) = e ∙ rw p in absurd cc
    go false p = rw (h, p, first, and-false (eqb (length s) 1))

pub power_in : (s : List ℕ) → wait_head s ≡ false → is_power s ≡ true → Some Power ≡ other_line s
unfolding other_line is_wait
power_in s h e = rw (h, e)

pub power-out : (s : List ℕ) → wait_head s ≡ false → is_power s ≡ false → None ≡ other_line s
unfolding other_line is_wait
power-out s h e = rw (h, e)

pub too_long : (s : List ℕ) → 640 < length s → None ≡ line_of s
unfolding line_of
too_long s l = rw (lt-ltb 640 (length s) l)

pub frame-in : (s : List ℕ) (w t : ℕ) → length s ≤ 640 → is_frame s ≡ true → w ≡ get_or s 2 0 → t ≡ get_or s 4 0 → Some (Frame (eqb w 49) (t - 48) ((length s - 6) / 2)) ≡ line_of s
unfolding line_of
frame-in s w t l h e f = rw (le-ltb 640 (length s) l, h, e, f)

pub frame-out : (s : List ℕ) (r : Option Line) → length s ≤ 640 → is_frame s ≡ false → r ≡ other_line s → r ≡ line_of s
unfolding line_of
frame-out s r l h e = rw (le-ltb 640 (length s) l, h) e
