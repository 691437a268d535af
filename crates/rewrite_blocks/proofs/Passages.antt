-- The lines of a block, one after the other. No contract cites this file.
use Rattle.std.proofs.Common.{◌≡◌, ℕ, suc, ◌+◌, ◌-◌, ◌*◌, ◌/◌, ◌<◌, ◌≤◌, Bool, true, false, eqb, List, [], ◌∷◌, ◌++◌, length, take, drop, sym, refl, ap, ◌∙◌, subst, subst₂, append_assoc, append-nil, not-suc-le-zero, arith, length-append, length-drop, take-append-drop, length-take-le, drop-drop, take_at, take-add, drop_at, eqb-true}
use native.Mathlib.Nat.{sub-zero}
use lib.Seq.{append_snoc}
use borrow.Rule.Slice.PartMut.{put_mid}
use Rattle.parts.specs.Parts.{lay}
use Rattle.parts.proofs.Lay.{put_back}
use Rattle.text.specs.Text.{newline, decimal_text}
use Rattle.text.specs.Put.{Put}
use Rattle.text.proofs.PutLaws.{put-none, put_then, put_as}
use Rattle.lines.specs.Cutting.{first_line, end_of}
use Rattle.lines.proofs.Laws.{take-first}
use Rattle.rewrite.specs.Rewriting.{number_after, numbers_text, ended_line, ended_number, LineRewritten}
use Rattle.rewrite_blocks.specs.Blocks.{Passage, after_line, passage, LinesRewritten}
use Rattle.rewrite.proofs.Lines.{length-ended_line, number-few}

-- ---- what a passage is
-- a line ended at the first newline
passage-ended : (long : Bool) (number : ℕ) (line s : List ℕ) → length (first_line s) < length s
    → passage long number line s ≡ after_line long number (line ++ first_line s) (passage false (number_after number) [] (drop (suc (length (first_line s))) s))
passage-ended long number line [] l = absurd (not-suc-le-zero l)
passage-ended long number line (b ∷ s) l = go (eqb b newline) refl (λ h. passage-ended long number (line ++ (b ∷ [])) s h)
  where
    go : (t : Bool) → eqb b newline ≡ t
        → (length (first_line s) < length s
        → passage long number (line ++ (b ∷ [])) s ≡ after_line long number (line ++ (b ∷ []) ++ first_line s) (passage false (number_after number) [] (drop (suc (length (first_line s))) s)))
        → passage long number line (b ∷ s) ≡ after_line long number (line ++ first_line (b ∷ s)) (passage false (number_after number) [] (drop (suc (length (first_line (b ∷ s)))) (b ∷ s)))
    go true p h = rw p (ap (λ (z : List ℕ). after_line long number z (passage false (number_after number) [] s)) (sym (append-nil line)))
    go false p h =
        let m : suc (length (first_line s)) < suc (length s) = rw p at l in
        rw p (h (omega arith) ∙ ap (λ (z : List ℕ). after_line long number z (passage false (number_after number) [] (drop (suc (length (first_line s))) s))) (append_snoc line b (first_line s)))

-- none did
passage-open : (long : Bool) (number : ℕ) (line s : List ℕ) → length s ≤ length (first_line s)
    → passage long number line s ≡ record { text = []; changed = []; number = number; long = long; line = line ++ s }
passage-open long number line [] l = ap (λ (z : List ℕ). record { text = []; changed = []; number = number; long = long; line = z }) (sym (append-nil line))
passage-open long number line (b ∷ s) l = go (eqb b newline) refl (λ h. passage-open long number (line ++ (b ∷ [])) s h)
  where
    go : (t : Bool) → eqb b newline ≡ t
        → (length s ≤ length (first_line s) → passage long number (line ++ (b ∷ [])) s ≡ record { text = []; changed = []; number = number; long = long; line = line ++ (b ∷ []) ++ s })
        → passage long number line (b ∷ s) ≡ record { text = []; changed = []; number = number; long = long; line = line ++ (b ∷ s) }
    go true p h = let m : suc (length s) ≤ 0 = rw p at l in absurd (not-suc-le-zero m)
    go false p h =
        let m : suc (length s) ≤ suc (length (first_line s)) = rw p at l in
        rw p (h (omega arith) ∙ ap (λ (z : List ℕ). record { text = []; changed = []; number = number; long = long; line = z }) (append_snoc line b s))

-- behind a line stands its newline
at-newline : (s : List ℕ) → length (first_line s) < length s → drop (length (first_line s)) s ≡ newline ∷ drop (suc (length (first_line s))) s
at-newline [] l = absurd (not-suc-le-zero l)
at-newline (b ∷ s) l = go (eqb b newline) refl (at-newline s)
  where
    go : (t : Bool) → eqb b newline ≡ t → (length (first_line s) < length s → drop (length (first_line s)) s ≡ newline ∷ drop (suc (length (first_line s))) s)
        → drop (length (first_line (b ∷ s))) (b ∷ s) ≡ newline ∷ drop (suc (length (first_line (b ∷ s)))) (b ∷ s)
    go true p h = rw p (ap (λ (z : ℕ). z ∷ s) (eqb-true b newline p))
    go false p h =
        let m : suc (length (first_line s)) < suc (length s) = rw p at l in
        rw p (h (omega arith))

-- ---- the loop
-- more text and numbers before a passage
abbrev pub behind : List ℕ → List ℕ → Passage → Passage
behind text changed p = record { text = text ++ p.text; changed = changed ++ p.changed; number = p.number; long = p.long; line = p.line }

pub numbers-append : (a b : List ℕ) → numbers_text (a ++ b) ≡ numbers_text a ++ numbers_text b
numbers-append [] b = refl
numbers-append (n ∷ a) b =
    ap (λ (z : List ℕ). decimal_text n ++ (newline ∷ z)) (numbers-append a b) ∙ sym (append_assoc (decimal_text n) (newline ∷ numbers_text a) (numbers_text b))

-- the lines of `bytes` up to `at` are done: the passage p is what they gave and the passage over the rest, of which the first line is known up to `from`
pub record Going (p : Passage) (bytes report : List ℕ) (now told_in : List ℕ) (at number : ℕ) (rest : Bool) (told end : ℕ) : Type 0 where
  pub from : ℕ
  pub text : List ℕ
  pub changed : List ℕ
  pub order : at ≤ from
  pub inside : from ≤ length bytes
  pub ends : end ≡ end_of bytes from
  pub front : length text ≡ at
  pub is : now ≡ text ++ drop at bytes
  pub put : Put (numbers_text changed) report 0 told_in told
  pub few : 3 * told ≤ 7 * at
  pub same : p ≡ behind text changed (passage rest number (take (from - at) (drop at bytes)) (drop from bytes))

pub going-none : (long : Bool) (number : ℕ) (bytes report : List ℕ) (held end : ℕ) {told_in : List ℕ} {told : ℕ} → held ≤ length bytes → end ≡ end_of bytes held → told_in ≡ report → told ≡ 0
    → Going (passage long number (take held bytes) (drop held bytes)) bytes report bytes told_in 0 number long told end
going-none long number bytes report held end {told_in} {told} l e same none =
    record {
      from = held;
      text = [];
      changed = [];
      order = omega arith;
      inside = l;
      ends = e;
      front = refl;
      is = refl;
      put = rw (same, none) (put-none report 0 (omega arith));
      few = omega arith;
      same = rw sub-zero;
    }

module _ {p : Passage} {bytes report now told_in : List ℕ} {at number : ℕ} {rest : Bool} {told end : ℕ} (g : Going p bytes report now told_in at number rest told end) where
  pub long-now : length now ≡ length bytes
  long-now =
      let n : length g.text ≡ at = g.front in
      ap length g.is ∙ length-append g.text (drop at bytes) ∙ simp length-drop (omega (arith, g.order, g.inside))

  -- what is left is as it was
  left-now : (k : ℕ) → at ≤ k → drop k now ≡ drop k bytes
  left-now k l =
      let e : at + (k - at) ≡ k = omega arith in
      ap (λ (z : ℕ). drop z now) (sym e) ∙ sym (drop-drop (k - at) at now)
      ∙ ap (drop (k - at)) (ap (drop at) g.is ∙ drop_at g.text (drop at bytes) at g.front)
      ∙ drop-drop (k - at) at bytes ∙ ap (λ (z : ℕ). drop z bytes) e

  -- the line in hand
  abbrev known : List ℕ
  known = take (g.from - at) (drop at bytes)

  abbrev fresh : List ℕ
  fresh = first_line (drop g.from bytes)

  line-now : take (end - at) (drop at now) ≡ known ++ fresh
  line-now =
      let n : end ≡ g.from + length fresh = g.ends in
      let e : end - at ≡ (g.from - at) + length fresh = omega (arith, g.order) in
      let back : drop (g.from - at) (drop at bytes) ≡ drop g.from bytes = drop-drop (g.from - at) at bytes ∙ ap (λ (z : ℕ). drop z bytes) {x = at + (g.from - at)} {y = g.from} (omega (arith, g.order)) in
      ap (take (end - at)) (left-now at (omega arith)) ∙ ap (λ (z : ℕ). take z (drop at bytes)) e ∙ take-add (g.from - at) (length fresh) (drop at bytes)
      ∙ ap (λ (z : List ℕ). known ++ take (length fresh) z) back ∙ ap (λ (z : List ℕ). known ++ z) (take-first (drop g.from bytes))

  pub in_order : at ≤ end
  in_order = omega (arith, g.order, g.ends)

  long-line : end < length bytes → length (take (end - at) (drop at now)) ≡ end - at
  long-line l = length-take-le (end - at) (drop at now) (simp length-drop (omega (arith, long-now)))

  -- the report has room for one number more
  pub room_for : (n : ℕ) → end < length bytes → length bytes ≤ n / 7 * 3 → (told ≤ n) × (8 ≤ length (take (end - at) (drop at now)) → told + 21 ≤ n)
  room_for n l m = (omega (arith, g.few, in_order), λ h. omega (arith, g.few, in_order, long-line l))

  module _ (l : end < length bytes) {line' report' : List ℕ} {r : ℕ} (d : LineRewritten rest number (take (end - at) (drop at now)) told_in told r line' report') where
    abbrev line : List ℕ
    line = known ++ fresh

    abbrev after : List ℕ
    after = put_mid at (end - at) now line'

    abbrev text' : List ℕ
    text' = g.text ++ (line' ++ (newline ∷ []))

    same-long : length line' ≡ end - at
    same-long = ap length d.is ∙ length-ended_line rest (take (end - at) (drop at now)) ∙ long-line l

    line-is : line' ≡ ended_line rest line
    line-is = d.is ∙ ap (ended_line rest) line-now

    long-text : length text' ≡ end + 1
    long-text =
        let n : length g.text ≡ at = g.front in
        length-append g.text (line' ++ (newline ∷ [])) ∙ simp length-append (omega (arith, same-long, in_order))

    -- the newline, and what follows it
    behind-line : drop end now ≡ newline ∷ drop (end + 1) bytes
    behind-line =
        let n : end ≡ g.from + length fresh = g.ends in
        let h : length (drop g.from bytes) ≡ length bytes - g.from = length-drop g.from bytes in
        let rest_of : drop (length fresh) (drop g.from bytes) ≡ drop end bytes = drop-drop (length fresh) g.from bytes ∙ ap (λ (z : ℕ). drop z bytes) (sym n) in
        let more : drop (suc (length fresh)) (drop g.from bytes) ≡ drop (end + 1) bytes =
        drop-drop (suc (length fresh)) g.from bytes ∙ ap (λ (z : ℕ). drop z bytes) {x = g.from + suc (length fresh)} {y = end + 1} (omega arith) in
        left-now end in_order ∙ sym rest_of ∙ at-newline (drop g.from bytes) (omega arith) ∙ ap (λ (z : List ℕ). newline ∷ z) more

    after_is : after ≡ text' ++ drop (end + 1) bytes
    unfolding lay
    after_is =
        let n : at + length line' ≡ end = omega (arith, same-long, in_order) in
        let front : take at now ≡ g.text = ap (take at) g.is ∙ take_at g.text (drop at bytes) at g.front in
        put_back at end now line' in_order same-long
        ∙ ap (λ (z : List ℕ). z ++ (line' ++ drop (at + length line') now)) front
        ∙ ap (λ (z : ℕ). g.text ++ (line' ++ drop z now)) n
        ∙ ap (λ (z : List ℕ). g.text ++ (line' ++ z)) behind-line
        ∙ ap (λ (z : List ℕ). g.text ++ z) (sym (append_assoc line' (newline ∷ []) (drop (end + 1) bytes)))
        ∙ sym (append_assoc g.text (line' ++ (newline ∷ [])) (drop (end + 1) bytes))

    same-on : {number' : ℕ} → number' ≡ number_after number
        → p ≡ behind text' (g.changed ++ ended_number rest number line) (passage false number' (take (end + 1 - (end + 1)) (drop (end + 1) bytes)) (drop (end + 1) bytes))
    same-on {number'} e =
        let n : end ≡ g.from + length fresh = g.ends in
        let h : length (drop g.from bytes) ≡ length bytes - g.from = length-drop g.from bytes in
        let q : Passage = passage false (number_after number) [] (drop (end + 1) bytes) in
        let more : drop (suc (length fresh)) (drop g.from bytes) ≡ drop (end + 1) bytes =
        drop-drop (suc (length fresh)) g.from bytes ∙ ap (λ (z : ℕ). drop z bytes) {x = g.from + suc (length fresh)} {y = end + 1} (omega arith) in
        let none : end + 1 - (end + 1) ≡ 0 = omega arith in
        g.same ∙ ap (behind g.text g.changed) (passage-ended rest number known (drop g.from bytes) (omega arith))
        ∙ ap (λ (z : List ℕ). behind g.text g.changed (after_line rest number line (passage false (number_after number) [] z))) more
        ∙ ap (λ (z : List ℕ). record { text = g.text ++ (z ++ (newline ∷ q.text)); changed = g.changed ++ (ended_number rest number line ++ q.changed); number = q.number; long = q.long; line = q.line }) (sym line-is)
        ∙ ap (λ (z : List ℕ). record { text = g.text ++ z; changed = g.changed ++ (ended_number rest number line ++ q.changed); number = q.number; long = q.long; line = q.line }) (sym (append_assoc line' (newline ∷ []) q.text))
        ∙ ap (λ (z : List ℕ). record { text = z; changed = g.changed ++ (ended_number rest number line ++ q.changed); number = q.number; long = q.long; line = q.line }) (sym (append_assoc g.text (line' ++ (newline ∷ [])) q.text))
        ∙ ap (λ (z : List ℕ). record { text = text' ++ q.text; changed = z; number = q.number; long = q.long; line = q.line }) (sym (append_assoc g.changed (ended_number rest number line) q.changed))
        ∙ ap (λ (z : ℕ). behind text' (g.changed ++ ended_number rest number line) (passage false z [] (drop (end + 1) bytes))) (sym e)
        ∙ ap (λ (z : ℕ). behind text' (g.changed ++ ended_number rest number line) (passage false number' (take z (drop (end + 1) bytes)) (drop (end + 1) bytes))) (sym none)

    pub going_on : {number' end' : ℕ} → number' ≡ number_after number → end' ≡ end_of after (end + 1) → Going p bytes report after report' (end + 1) number' false r end'
    going_on e f =
        let left : drop (end + 1) after ≡ drop (end + 1) bytes = ap (drop (end + 1)) after_is ∙ drop_at text' (drop (end + 1) bytes) (end + 1) long-text in
        let w : LineRewritten rest number line told_in told r line' report' = subst (λ (z : List ℕ). LineRewritten rest number z told_in told r line' report') line-now d in
        let n : length line ≡ end - at = ap length (sym line-now) ∙ long-line l in
        record {
          from = end + 1;
          text = text';
          changed = g.changed ++ ended_number rest number line;
          order = omega arith;
          inside = omega arith;
          ends = f ∙ ap (λ (z : List ℕ). end + 1 + length (first_line z)) left;
          front = long-text;
          is = after_is;
          put = put_as (put_then g.put w.put) (sym (numbers-append g.changed (ended_number rest number line)));
          few = omega (arith, g.few, w.put.next, number-few rest number line, in_order);
          same = same-on e;
        }

  -- no line ended any more
  going-all : length bytes ≤ end → LinesRewritten p report (record { at = at; number = number; long = rest; told = told }) now told_in
  going-all l =
      let n : end ≡ g.from + length fresh = g.ends in
      let h : length (drop g.from bytes) ≡ length bytes - g.from = length-drop g.from bytes in
      let back : drop (g.from - at) (drop at bytes) ≡ drop g.from bytes = drop-drop (g.from - at) at bytes ∙ ap (λ (z : ℕ). drop z bytes) {x = at + (g.from - at)} {y = g.from} (omega (arith, g.order)) in
      let all : known ++ drop g.from bytes ≡ drop at bytes = ap (λ (z : List ℕ). known ++ z) (sym back) ∙ take-append-drop (g.from - at) (drop at bytes) in
      let q : p ≡ record { text = g.text; changed = g.changed; number = number; long = rest; line = drop at bytes } =
      g.same ∙ ap (behind g.text g.changed) (passage-open rest number known (drop g.from bytes) (omega arith))
      ∙ ap (λ (z : List ℕ). record { text = z; changed = g.changed ++ []; number = number; long = rest; line = known ++ drop g.from bytes }) (append-nil g.text)
      ∙ ap (λ (z : List ℕ). record { text = g.text; changed = z; number = number; long = rest; line = known ++ drop g.from bytes }) (append-nil g.changed)
      ∙ ap (λ (z : List ℕ). record { text = g.text; changed = g.changed; number = number; long = rest; line = z }) all in
      record {
        at' = sym g.front ∙ ap (λ (z : Passage). length z.text) (sym q);
        number' = ap (λ (z : Passage). z.number) (sym q);
        long' = ap (λ (z : Passage). z.long) (sym q);
        is = g.is ∙ ap (λ (z : Passage). z.text ++ z.line) (sym q);
        put = put_as g.put (ap (λ (z : Passage). numbers_text z.changed) (sym q));
      }

  -- the same, where the report was lent to a sheet
  pub going-done : {told' : ℕ} {report' : List ℕ} → length bytes ≤ end → told' ≡ told → report' ≡ told_in → LinesRewritten p report (record { at = at; number = number; long = rest; told = told' }) now report'
  going-done l t r = subst₂ (λ (x : ℕ) (y : List ℕ). LinesRewritten p report (record { at = at; number = number; long = rest; told = x }) now y) (sym t) (sym r) (going-all l)
