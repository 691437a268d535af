-- Bars, and the parts of the sheet's lines.
use mathlib.Core.Path.{◌≡◌, refl, sym, ap, ◌∙◌, subst₂}
use mathlib.Core.Bool.{Bool, true, false, cond}
use mathlib.Core.List.{List, [], ◌∷◌, ◌++◌, append_assoc}
use Prim.Native.Nat.{ℕ, ◌+◌, ◌-◌, ◌*◌, ◌/◌, ◌≤◌, ◌<◌, max}
use Prim.Native.Char.{code}
use native.Mathlib.Nat.{div-le_of_le-mul, mul-div_right}
use native.Mathlib.Omega.{arith}
use lib.Dec.{eqb, leb}
use lib.ListN.{length, replicate, take, drop, length-replicate}
use borrow.Author.Tests.{le-leb, lt-leb, leb-true, leb-false, eq-eqb, ne_eqb, eqb-true, eqb-false}
use Rattle.parts.specs.Parts.{lay}
use Rattle.parts.proofs.Lay.{lay-none, part-lay}
use Rattle.units.specs.declared.Sector.{Sector}
use Rattle.text.specs.Text.{newline, decimal_text}
use Rattle.text.specs.Put.{Put}
use Rattle.text.proofs.PutLaws.{put_same, put_then, put_as}
use Rattle.script_log.specs.Row.{Rowed}
use Rattle.std.specs.Prelude.{Ok, Err}
use Rattle.models.specs.Models.{is_sectors}
use Rattle.answers.specs.declared.Refusal.{Refusal}
use Rattle.answers.specs.declared.Refusal.TheVariants.{BadTable}
use Rattle.counts.specs.declared.Figures.{Figures}
use Rattle.counts.specs.Counts.{largest_of, figures_of, report_of}
use Rattle.wear_rows.specs.WearSheet.{longest_bar, marks_of, bar_text, right_text, sector_text, heading_text, sectors_text, sums_text, mean_text, sheet_text, sheet_room, Bar, Bars}

-- ---- bars
module _ (largest count : ℕ) where
  pub marks-each : largest ≤ longest_bar → marks_of largest count ≡ count
  unfolding marks_of
  marks-each l = rw (le-leb largest longest_bar l)

  pub marks-none : longest_bar < largest → count ≡ 0 → marks_of largest count ≡ 0
  unfolding marks_of
  marks-none l z = rw (lt-leb largest longest_bar l, eq-eqb count 0 z)

  pub marks-scaled : longest_bar < largest → (count ≡ 0 → ⊥) → marks_of largest count ≡ max 1 (count * longest_bar / largest)
  unfolding marks_of
  marks-scaled l n = rw (lt-leb largest longest_bar l, ne_eqb count 0 n)

  scaled-short : count ≤ largest → count * longest_bar / largest ≤ longest_bar
  scaled-short l = div-le_of_le-mul largest (omega arith)

  bar-each : count ≤ largest → largest ≤ longest_bar → Bar largest count
  bar-each c l =
      let e : marks_of largest count ≡ count = marks-each l in
      record { short = omega arith; some = λ p. omega arith; none = λ z. omega arith; whole = λ p. absurd (omega arith); each = λ p. e }

whole-bar : (largest : ℕ) → longest_bar < largest → marks_of largest largest ≡ longest_bar
whole-bar largest l =
    let d : largest * longest_bar / largest ≡ longest_bar = mul-div_right longest_bar {m = largest} (omega arith) in
    marks-scaled largest largest l (λ z. omega arith) ∙ ap (max 1) d

bar-scaled : (largest count : ℕ) → count ≤ largest → longest_bar < largest → Bar largest count
bar-scaled largest count c l = go (eqb count 0) refl
  where
    go : (b : Bool) → eqb count 0 ≡ b → Bar largest count
    go true p =
        let z : count ≡ 0 = eqb-true count 0 p in
        let e : marks_of largest count ≡ 0 = marks-none largest count l z in
        record { short = omega arith; some = λ q. absurd (omega arith); none = λ q. e; whole = whole-bar largest; each = λ q. absurd (omega arith) }
    go false p =
        let e : marks_of largest count ≡ max 1 (count * longest_bar / largest) = marks-scaled largest count l (eqb-false count 0 p) in
        let s : count * longest_bar / largest ≤ longest_bar = scaled-short largest count c in
        record { short = rw e (omega arith); some = λ q. rw e (omega arith); none = λ q. absurd (eqb-false count 0 p q); whole = whole-bar largest; each = λ q. absurd (omega arith) }

pub bars : Bars
bars largest count c = go (leb largest longest_bar) refl
  where
    go : (b : Bool) → leb largest longest_bar ≡ b → Bar largest count
    go true p = bar-each largest count c (leb-true largest longest_bar p)
    go false p = bar-scaled largest count c (leb-false largest longest_bar p)

-- ---- parts of a line
pub sector-joined : (largest : ℕ) (sector : Sector) (count : ℕ) → ((right_text 6 sector.0 ++ right_text 12 count) ++ bar_text (marks_of largest count)) ++ (newline ∷ []) ≡ sector_text largest sector count
unfolding sector_text
sector-joined largest sector count = simp append_assoc

-- ---- the sheet's room
pub fits-no : (at n len : ℕ) → len < at → false ≡ leb (at + sheet_room n) len
fits-no at n len l = sym (lt-leb (at + sheet_room n) len (omega arith))

pub fits-if : (at n len : ℕ) → at ≤ len → leb (sheet_room n) (len - at) ≡ leb (at + sheet_room n) len
fits-if at n len l = go (leb (at + sheet_room n) len) refl
  where
    go : (t : Bool) → leb (at + sheet_room n) len ≡ t → leb (sheet_room n) (len - at) ≡ leb (at + sheet_room n) len
    go true p = let h : at + sheet_room n ≤ len = leb-true (at + sheet_room n) len p in rw p (le-leb (sheet_room n) (len - at) (omega arith))
    go false p = let h : len < at + sheet_room n = leb-false (at + sheet_room n) len p in rw p (lt-leb (sheet_room n) (len - at) (omega arith))

-- nothing put
pub rowed-none : (most : ℕ) (d : List ℕ) (at : ℕ) → Rowed most [] d at d at
rowed-none most d at = go (leb (at + most) (length d)) refl
  where
    go : (t : Bool) → leb (at + most) (length d) ≡ t → Rowed most [] d at d at
    go true p = record { is = rw p (sym (lay-none d at)); next = rw p (omega arith) }
    go false p = record { is = rw p; next = rw p }

-- ---- a number at the right: blanks where it begins, and its digits
module _ (width n : ℕ) {digits d e : List ℕ} {blanks at m : ℕ} (p : digits ≡ decimal_text n) (b : blanks ≡ width - length digits) (q : Put (replicate blanks (code " ")) d at e m) where
  pub right-room : length digits ≤ 20 → at + width + 20 ≤ length d → m + length digits ≤ length e
  right-room few room =
      let z : length (replicate blanks (code " ")) ≡ blanks = length-replicate blanks (code " ") in
      let s : length e ≡ length d = put_same q in
      omega (arith, q.next)

  pub right-put : {f : List ℕ} {r : ℕ} → length digits ≤ 20 → Put digits e m f r → Put (right_text width n) d at f r × (r ≤ at + width + 20)
  right-put few t =
      let z : length (replicate blanks (code " ")) ≡ blanks = length-replicate blanks (code " ") in
      (put_as (put_then q t) (ap (λ (k : ℕ). replicate k (code " ") ++ digits) b ∙ ap (λ (z : List ℕ). replicate (width - length z) (code " ") ++ z) p), omega (arith, q.next, t.next))

-- a number in other words
pub said-as : (words : List ℕ) {n m : ℕ} {d : List ℕ} {at : ℕ} {e : List ℕ} {r : ℕ} → n ≡ m → Put (words ++ decimal_text n) d at e r → Put (words ++ decimal_text m) d at e r
said-as words h p = put_as p (ap (λ (k : ℕ). words ++ decimal_text k) h)

-- words and a number after what was put before them
pub said-next : (words digits : List ℕ) {before d : List ℕ} {at : ℕ} {e : List ℕ} {m : ℕ} {f : List ℕ} {r : ℕ} → Put before d at e m → Put (words ++ digits) e m f r → Put (before ++ words ++ digits) d at f r
said-next words digits {before} p q = put_as (put_then p q) (sym (append_assoc before words digits))

-- ---- the sheet
-- a text that was put into a buffer while it was lent
pub put-lent : {ys d d' e e' : List ℕ} {at at' r r' : ℕ} → Put ys d at e r → d ≡ d' → at ≡ at' → e' ≡ e → r' ≡ r → Put ys d' at' e' r'
put-lent {ys} {d} {d'} {e} {e'} {at} {at'} {r} {r'} p h k l m = subst₂ (λ (x : List ℕ) (y : ℕ). Put ys x y e' r') h k (subst₂ (λ (x : List ℕ) (y : ℕ). Put ys d at x y) (sym l) (sym m) p)

pub no-sheet : (wear d : List ℕ) (at : ℕ) → is_sectors (length wear) ≡ false → Rowed (sheet_room (length wear)) (sheet_text wear) d at d at
unfolding sheet_text
no-sheet wear d at e = rw e (rowed-none (sheet_room (length wear)) d at)

-- what the report gave: the figures of a table that some chip has, and no refusal of one
pub said_yes : (wear : List ℕ) {f : Figures} → Ok f ≡ report_of wear → (is_sectors (length wear) ≡ true) × (f ≡ figures_of wear)
unfolding report_of
said_yes wear {f} e = go (is_sectors (length wear)) refl e
  where
    go : (b : Bool) → is_sectors (length wear) ≡ b → Ok f ≡ cond b (Ok (figures_of wear)) (Err BadTable) → (is_sectors (length wear) ≡ true) × (f ≡ figures_of wear)
    go true k h = (k, cc)
    go false k h = (cc, cc)

pub said_no : (wear : List ℕ) {r : Refusal} → Err r ≡ report_of wear → is_sectors (length wear) ≡ false
unfolding report_of
said_no wear {r} e = go (is_sectors (length wear)) refl e
  where
    go : (b : Bool) → is_sectors (length wear) ≡ b → Err r ≡ cond b (Ok (figures_of wear)) (Err BadTable) → is_sectors (length wear) ≡ false
    go true k h = cc
    go false k h = k

pub whole-sheet : (wear : List ℕ) {f : Figures} {d e e' e'' g : List ℕ} {at m n k r : ℕ} → is_sectors (length wear) ≡ true → f ≡ figures_of wear
    → Put heading_text d at e m → Put (sectors_text f.largest 0 wear) e m e' n → Put (sums_text f) e' n e'' k → Put (mean_text f (length wear)) e'' k g r → Put (sheet_text wear) d at g r
unfolding sheet_text
whole-sheet wear {f} c h p q s t =
    put_as (put_then (put_then (put_then p q) s) t)
    (rw c (ap (λ (z : Figures). heading_text ++ sectors_text z.largest 0 wear ++ sums_text z ++ mean_text z (length wear)) h))
