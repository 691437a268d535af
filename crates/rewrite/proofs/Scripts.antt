-- Whole scripts: their length, their lines, where they differ, and the numbers that are reported.
use mathlib.Core.Path.{◌≡◌, refl, sym, ap, ◌∙◌, subst, subst₂}
use mathlib.Core.Bool.{Bool, true, false, cond, not, ◌&&◌, ◌||◌}
use mathlib.Core.List.{List, [], ◌∷◌, ◌++◌, map, append-nil, append_assoc}
use mathlib.Core.Logic.{◌⊎◌, inl, inr, ⊎_elim}
use Prim.Native.Nat.{ℕ, zero, suc, ◌+◌, ◌-◌, ◌≤◌, ◌<◌}
use Prim.Native.Char.{code}
use native.Mathlib.Nat.{mod-eq_of_lt}
use native.Mathlib.Omega.{arith}
use lib.Dec.{eqb, ltb}
use lib.ListN.{length, get_or, take, drop, length-append, get_or-append, get_or-map, get_or-eq_default}
use lib.Seq.{append_snoc, get_or-append-add, get_or_at}
use borrow.Author.Tests.{ltb-true, ltb-false, lt-ltb, le-ltb, eqb-true, eqb-false, ne_eqb}
use Rattle.parts.specs.Parts.{lay}
use Rattle.text.specs.Text.{ascii, tab, newline, hex_text}
use Rattle.text.proofs.PutLaws.{one-put}
use Rattle.script.specs.Grammar.{F, level_of}
use Rattle.script.proofs.HexLaws.{and_left, and_right, and-false}
use Rattle.lines.specs.Lines.{last_line, lines_from}
use Rattle.rewrite.specs.Rewriting.{begins52, rewritten_line, rewritten_from, rewritten, number_after, changed_line, changed_lines}
use Rattle.rewrite.specs.Promises.{FrameOf52, LengthStays, LineByLine, line_at, OthersStay, NoneLeft, TwiceIsOnce, StartsLine, EndsLine, ChangedDigit, DiffersOnlyThere, is_among, rising, line_numbered, ReportsChanged, OneLineRewritten}
use Rattle.rewrite.specs.Promises.StartsLine.{at_first, after_line}
use Rattle.rewrite.specs.Promises.EndsLine.{at_last, at-newline}
use Rattle.rewrite.proofs.Lines.{length-rewritten_line}
use Rattle.rewrite.proofs.Frames.{only-these, becomes, stays, rewritten-begins, line-twice}

-- ---- its length
length_from : (line s : List ℕ) → length (rewritten_from line s) ≡ length line + length s
length_from line [] = omega (arith, length-rewritten_line line)
length_from line (b ∷ s) = go (eqb b newline) refl (length_from [] s) (length_from (line ++ (b ∷ [])) s)
  where
    go : (t : Bool) → eqb b newline ≡ t → length (rewritten_from [] s) ≡ 0 + length s → length (rewritten_from (line ++ (b ∷ [])) s) ≡ length (line ++ (b ∷ [])) + length s
        → length (rewritten_from line (b ∷ s)) ≡ length line + length (b ∷ s)
    go true p h k = rw p (simp length-append (omega (arith, length-rewritten_line line)))
    go false p h k = rw p (k ∙ simp length-append (omega arith))

pub length-stays : LengthStays
length-stays s = length_from [] s ∙ omega arith

-- ---- bytes without a newline
abbrev plain : List ℕ → Bool
plain [] = true
plain (b ∷ s) = not (eqb b newline) && plain s

plain-append : (a b : List ℕ) → plain a ≡ true → plain b ≡ true → plain (a ++ b) ≡ true
plain-append [] b p q = q
plain-append (x ∷ a) b p q =
    let e : not (eqb x newline) ≡ true = and_left (not (eqb x newline)) (plain a) p in
    rw e (plain-append a b (and_right (not (eqb x newline)) (plain a) p) q)

plain-take : (n : ℕ) (s : List ℕ) → plain s ≡ true → plain (take n s) ≡ true
plain-take zero s p = refl
plain-take (suc n) [] p = refl
plain-take (suc n) (b ∷ s) p =
    let e : not (eqb b newline) ≡ true = and_left (not (eqb b newline)) (plain s) p in
    rw e (plain-take n s (and_right (not (eqb b newline)) (plain s) p))

plain-drop : (n : ℕ) (s : List ℕ) → plain s ≡ true → plain (drop n s) ≡ true
plain-drop zero s p = p
plain-drop (suc n) [] p = refl
plain-drop (suc n) (b ∷ s) p = plain-drop n s (and_right (not (eqb b newline)) (plain s) p)

plain-one : (line : List ℕ) (b : ℕ) → plain line ≡ true → eqb b newline ≡ false → plain (line ++ (b ∷ [])) ≡ true
plain-one line b p e = plain-append line (b ∷ []) p (rw e)

plain-rewritten : (line : List ℕ) → plain line ≡ true → plain (rewritten_line line) ≡ true
unfolding rewritten_line lay
plain-rewritten line p = go (begins52 line) refl
  where
    go : (t : Bool) → begins52 line ≡ t → plain (rewritten_line line) ≡ true
    go true e = rw e (plain-append (take 6 line) (ascii "D8" ++ drop (6 + 2) line) (plain-take 6 line p) (plain-append (ascii "D8") (drop (6 + 2) line) refl (plain-drop (6 + 2) line p)))
    go false e = rw e p

-- ---- its lines
-- bytes without a newline only make the line longer
lines-plain : (line u t : List ℕ) → plain u ≡ true → lines_from line (u ++ t) ≡ lines_from (line ++ u) t
lines-plain line [] t p = ap (λ (z : List ℕ). lines_from z t) (sym (append-nil line))
lines-plain line (b ∷ u) t p = go (eqb b newline) refl (lines-plain (line ++ (b ∷ [])) u t)
  where
    go : (v : Bool) → eqb b newline ≡ v → (plain u ≡ true → lines_from (line ++ (b ∷ [])) (u ++ t) ≡ lines_from (line ++ (b ∷ []) ++ u) t)
        → lines_from line ((b ∷ u) ++ t) ≡ lines_from (line ++ (b ∷ u)) t
    go true e h = let x : false ≡ true = rw e at p in absurd (let z : ◌≡◌ {A = ℕ} 0 1 = cc in omega arith)
    go false e h = let q : plain u ≡ true = rw e at p in rw e (h q ∙ ap (λ (z : List ℕ). lines_from z t) (append_snoc line b u))

from-plain : (line u t : List ℕ) → plain u ≡ true → rewritten_from line (u ++ t) ≡ rewritten_from (line ++ u) t
from-plain line [] t p = ap (λ (z : List ℕ). rewritten_from z t) (sym (append-nil line))
from-plain line (b ∷ u) t p = go (eqb b newline) refl (from-plain (line ++ (b ∷ [])) u t)
  where
    go : (v : Bool) → eqb b newline ≡ v → (plain u ≡ true → rewritten_from (line ++ (b ∷ [])) (u ++ t) ≡ rewritten_from (line ++ (b ∷ []) ++ u) t)
        → rewritten_from line ((b ∷ u) ++ t) ≡ rewritten_from (line ++ (b ∷ u)) t
    go true e h = let x : false ≡ true = rw e at p in absurd (let z : ◌≡◌ {A = ℕ} 0 1 = cc in omega arith)
    go false e h = let q : plain u ≡ true = rw e at p in rw e (h q ∙ ap (λ (z : List ℕ). rewritten_from z t) (append_snoc line b u))

-- an empty line stays
pub empty-begins : begins52 [] ≡ false
empty-begins = go (begins52 []) refl
  where
    go : (t : Bool) → begins52 [] ≡ t → begins52 [] ≡ false
    go true e = absurd (let f = only-these [] e in let n = ap length f.is in omega arith)
    go false e = e

last-rewritten : (line : List ℕ) → last_line (rewritten_line line) ≡ map rewritten_line (last_line line)
last-rewritten [] = ap last_line (stays [] empty-begins)
last-rewritten (b ∷ line) = some (rewritten_line (b ∷ line)) (length-rewritten_line (b ∷ line))
  where
    some : (x : List ℕ) → length x ≡ length (b ∷ line) → last_line x ≡ x ∷ []
    some [] n = absurd (omega arith)
    some (y ∷ x) n = refl

lines-from : (line s : List ℕ) → plain line ≡ true → lines_from [] (rewritten_from line s) ≡ map rewritten_line (lines_from line s)
lines-from line [] p =
    ap (lines_from []) (sym (append-nil (rewritten_line line))) ∙ lines-plain [] (rewritten_line line) [] (plain-rewritten line p) ∙ last-rewritten line
lines-from line (b ∷ s) p = go (eqb b newline) refl (lines-from [] s refl) (lines-from (line ++ (b ∷ [])) s)
  where
    go : (t : Bool) → eqb b newline ≡ t → lines_from [] (rewritten_from [] s) ≡ map rewritten_line (lines_from [] s)
        → (plain (line ++ (b ∷ [])) ≡ true → lines_from [] (rewritten_from (line ++ (b ∷ [])) s) ≡ map rewritten_line (lines_from (line ++ (b ∷ [])) s))
        → lines_from [] (rewritten_from line (b ∷ s)) ≡ map rewritten_line (lines_from line (b ∷ s))
    go true e h k = rw e (lines-plain [] (rewritten_line line) (newline ∷ rewritten_from [] s) (plain-rewritten line p) ∙ ap (λ (z : List (List ℕ)). rewritten_line line ∷ z) h)
    go false e h k = rw e (k (plain-one line b p e))

pub line-by-line : LineByLine
line-by-line s = lines-from [] s refl

line-now : (s : List ℕ) (n : ℕ) → line_at (rewritten s) n ≡ rewritten_line (line_at s n)
line-now s n =
    ap (λ (z : List (List ℕ)). get_or z n []) (line-by-line s) ∙ ap (get_or (map rewritten_line (lines_from [] s)) n) (sym (stays [] empty-begins)) ∙ get_or-map rewritten_line (lines_from [] s) n []

pub others-stay : OthersStay
others-stay s n e = line-now s n ∙ stays (line_at s n) e

pub none_left : NoneLeft
none_left s n = ap begins52 (line-now s n) ∙ rewritten-begins (line_at s n)

-- ---- twice
twice-from : (line s : List ℕ) → plain line ≡ true → rewritten_from [] (rewritten_from line s) ≡ rewritten_from line s
twice-from line [] p =
    ap (rewritten_from []) (sym (append-nil (rewritten_line line))) ∙ from-plain [] (rewritten_line line) [] (plain-rewritten line p) ∙ line-twice line
twice-from line (b ∷ s) p = go (eqb b newline) refl (twice-from [] s refl) (twice-from (line ++ (b ∷ [])) s)
  where
    go : (t : Bool) → eqb b newline ≡ t → rewritten_from [] (rewritten_from [] s) ≡ rewritten_from [] s
        → (plain (line ++ (b ∷ [])) ≡ true → rewritten_from [] (rewritten_from (line ++ (b ∷ [])) s) ≡ rewritten_from (line ++ (b ∷ [])) s)
        → rewritten_from [] (rewritten_from line (b ∷ s)) ≡ rewritten_from line (b ∷ s)
    go true e h k =
        rw e (from-plain [] (rewritten_line line) (newline ∷ rewritten_from [] s) (plain-rewritten line p) ∙ ap (λ (z : List ℕ). z ++ (newline ∷ rewritten_from [] (rewritten_from [] s))) (line-twice line)
        ∙ ap (λ (z : List ℕ). rewritten_line line ++ (newline ∷ z)) h)
    go false e h k = rw e (k (plain-one line b p e))

pub twice-is-once : TwiceIsOnce
twice-is-once s = twice-from [] s refl

-- ---- where it differs
-- byte k is the first or the second digit of a line that starts at `from`, before and after
abbrev Digit : List ℕ → List ℕ → ℕ → ℕ → Type 0
Digit s t k from = ((k ≡ from + 6) × (get_or s k 0 ≡ code "5") × (get_or t k 0 ≡ code "D")) ⊎ ((k ≡ from + 7) × (get_or s k 0 ≡ code "2") × (get_or t k 0 ≡ code "8"))

-- two frames' lines that differ in these digits alone
in_frame : (a b c d e f : ℕ) (rest : List ℕ) (k : ℕ)
    → (get_or (a ∷ b ∷ c ∷ d ∷ e ∷ f ∷ code "D" ∷ code "8" ∷ rest) k 0 ≡ get_or (a ∷ b ∷ c ∷ d ∷ e ∷ f ∷ code "5" ∷ code "2" ∷ rest) k 0 → ⊥)
    → Digit (a ∷ b ∷ c ∷ d ∷ e ∷ f ∷ code "5" ∷ code "2" ∷ rest) (a ∷ b ∷ c ∷ d ∷ e ∷ f ∷ code "D" ∷ code "8" ∷ rest) k 0
in_frame a b c d e f rest zero n = absurd (n refl)
in_frame a b c d e f rest (suc zero) n = absurd (n refl)
in_frame a b c d e f rest (suc (suc zero)) n = absurd (n refl)
in_frame a b c d e f rest (suc (suc (suc zero))) n = absurd (n refl)
in_frame a b c d e f rest (suc (suc (suc (suc zero)))) n = absurd (n refl)
in_frame a b c d e f rest (suc (suc (suc (suc (suc zero))))) n = absurd (n refl)
in_frame a b c d e f rest (suc (suc (suc (suc (suc (suc zero)))))) n = inl (refl, refl, refl)
in_frame a b c d e f rest (suc (suc (suc (suc (suc (suc (suc zero))))))) n = inr (refl, refl, refl)
in_frame a b c d e f rest (suc (suc (suc (suc (suc (suc (suc (suc k)))))))) n = absurd (n refl)

in-52 : {line : List ℕ} (f : FrameOf52 line) (k : ℕ) → (get_or (rewritten_line line) k 0 ≡ get_or line k 0 → ⊥) → Digit line (rewritten_line line) k 0
in-52 f k n =
    subst₂ (λ (x y : List ℕ). Digit x y k 0) (sym f.is) (sym (becomes f))
    (in_frame F tab (level_of f.wp) tab (code "0" + f.tail) tab (hex_text f.bytes) k
    (λ q. n (ap (λ (z : List ℕ). get_or z k 0) (becomes f) ∙ q ∙ ap (λ (z : List ℕ). get_or z k 0) (sym f.is))))

in-line : (line : List ℕ) (k : ℕ) → (get_or (rewritten_line line) k 0 ≡ get_or line k 0 → ⊥) → (begins52 line ≡ true) × Digit line (rewritten_line line) k 0
in-line line k n = go (begins52 line) refl
  where
    go : (t : Bool) → begins52 line ≡ t → (begins52 line ≡ true) × Digit line (rewritten_line line) k 0
    go true e = (e, in-52 (only-these line e) k n)
    go false e = absurd (n (ap (λ (z : List ℕ). get_or z k 0) (stays line e)))

-- the same behind a line more
starts-later : (line : List ℕ) {before : List ℕ} → StartsLine before → StartsLine (line ++ (newline ∷ before))
starts-later line at_first = after_line line
starts-later line (after_line s) = subst StartsLine (append_assoc line (newline ∷ s) (newline ∷ [])) (after_line (line ++ (newline ∷ s)))

at_place : (x s : List ℕ) (b n i : ℕ) → length x ≡ n → get_or (x ++ (b ∷ s)) (n + suc i) 0 ≡ get_or s i 0
at_place x s b n i e = ap (λ (z : ℕ). get_or (x ++ (b ∷ s)) (z + suc i) 0) (sym e) ∙ get_or-append-add x (b ∷ s) (suc i) 0

later-digit : (line x : List ℕ) {s t : List ℕ} {i : ℕ} → length x ≡ length line → ChangedDigit s t i → ChangedDigit (line ++ (newline ∷ s)) (x ++ (newline ∷ t)) (length line + suc i)
later-digit line x {s} {t} {i} e c =
    let front : length (line ++ (newline ∷ c.before)) ≡ length line + suc (length c.before) = length-append line (newline ∷ c.before) in
    let old : get_or (line ++ (newline ∷ s)) (length line + suc i) 0 ≡ get_or s i 0 = at_place line s newline (length line) i refl in
    let new : get_or (x ++ (newline ∷ t)) (length line + suc i) 0 ≡ get_or t i 0 = at_place x t newline (length line) i e in
    record {
      before = line ++ (newline ∷ c.before);
      line = c.line;
      behind = c.behind;
      is = ap (λ (z : List ℕ). line ++ (newline ∷ z)) c.is ∙ sym (append_assoc line (newline ∷ c.before) (c.line ++ c.behind));
      starts = starts-later line c.starts;
      ends = c.ends;
      changes = c.changes;
      digit = ⊎_elim (λ d. inl (omega (arith, d.0), old ∙ d.1, new ∙ d.2)) (λ d. inr (omega (arith, d.0), old ∙ d.1, new ∙ d.2)) c.digit;
    }

-- a digit of the first line
first-digit : (line behind later : List ℕ) (k : ℕ) → EndsLine behind → k < length line → (get_or (rewritten_line line ++ later) k 0 ≡ get_or (line ++ behind) k 0 → ⊥) → ChangedDigit (line ++ behind) (rewritten_line line ++ later) k
first-digit line behind later k ends l n =
    let old : get_or (line ++ behind) k 0 ≡ get_or line k 0 = get_or-append line behind 0 k l in
    let new : get_or (rewritten_line line ++ later) k 0 ≡ get_or (rewritten_line line) k 0 = get_or-append (rewritten_line line) later 0 k (omega (arith, length-rewritten_line line)) in
    let d = in-line line k (λ q. n (new ∙ q ∙ sym old)) in
    record {
      before = [];
      line = line;
      behind = behind;
      is = refl;
      starts = at_first;
      ends = ends;
      changes = d.0;
      digit = ⊎_elim (λ g. inl (g.0, old ∙ g.1, new ∙ g.2)) (λ g. inr (g.0, old ∙ g.1, new ∙ g.2)) d.1;
    }

-- past the end of both nothing differs
beyond : (a b : List ℕ) (k : ℕ) → length a ≤ k → length b ≤ k → get_or a k 0 ≡ get_or b k 0
beyond a b k l m = get_or-eq_default a 0 l ∙ sym (get_or-eq_default b 0 m)

-- a line that ends in a newline, and what follows it
ended-digit : (line s : List ℕ) (k : ℕ) → ((i : ℕ) → (get_or (rewritten_from [] s) i 0 ≡ get_or s i 0 → ⊥) → ChangedDigit s (rewritten_from [] s) i)
    → (get_or (rewritten_line line ++ (newline ∷ rewritten_from [] s)) k 0 ≡ get_or (line ++ (newline ∷ s)) k 0 → ⊥) → ChangedDigit (line ++ (newline ∷ s)) (rewritten_line line ++ (newline ∷ rewritten_from [] s)) k
ended-digit line s k f n = go (ltb k (length line)) refl
  where
    behind : (j : ℕ) → k ≡ length line + j → ChangedDigit (line ++ (newline ∷ s)) (rewritten_line line ++ (newline ∷ rewritten_from [] s)) k
    behind zero e =
        let h : k ≡ length line = omega arith in
        absurd (n (get_or_at (rewritten_line line) newline (rewritten_from [] s) 0 k (length-rewritten_line line ∙ sym h) ∙ sym (get_or_at line newline s 0 k (sym h))))
    behind (suc i) e =
        let old : get_or (line ++ (newline ∷ s)) k 0 ≡ get_or s i 0 = ap (λ (z : ℕ). get_or (line ++ (newline ∷ s)) z 0) e ∙ at_place line s newline (length line) i refl in
        let new : get_or (rewritten_line line ++ (newline ∷ rewritten_from [] s)) k 0 ≡ get_or (rewritten_from [] s) i 0 =
        ap (λ (z : ℕ). get_or (rewritten_line line ++ (newline ∷ rewritten_from [] s)) z 0) e ∙ at_place (rewritten_line line) (rewritten_from [] s) newline (length line) i (length-rewritten_line line) in
        subst (ChangedDigit (line ++ (newline ∷ s)) (rewritten_line line ++ (newline ∷ rewritten_from [] s))) (sym e)
        (later-digit line (rewritten_line line) (length-rewritten_line line) (f i (λ q. n (new ∙ q ∙ sym old))))

    go : (t : Bool) → ltb k (length line) ≡ t → ChangedDigit (line ++ (newline ∷ s)) (rewritten_line line ++ (newline ∷ rewritten_from [] s)) k
    go true e = first-digit line (newline ∷ s) (newline ∷ rewritten_from [] s) k (at-newline s) (ltb-true _ _ e) n
    go false e = let l : length line ≤ k = ltb-false k (length line) e in behind (k - length line) (omega arith)

differs-from : (line s : List ℕ) (k : ℕ) → (get_or (rewritten_from line s) k 0 ≡ get_or (line ++ s) k 0 → ⊥) → ChangedDigit (line ++ s) (rewritten_from line s) k
differs-from line [] k n = go (ltb k (length line)) refl
  where
    go : (t : Bool) → ltb k (length line) ≡ t → ChangedDigit (line ++ []) (rewritten_line line) k
    go true e =
        subst (λ (z : List ℕ). ChangedDigit (line ++ []) z k) (append-nil (rewritten_line line))
        (first-digit line [] [] k at_last (ltb-true _ _ e) (λ q. n (ap (λ (z : List ℕ). get_or z k 0) (sym (append-nil (rewritten_line line))) ∙ q)))
    go false e =
        let l : length line ≤ k = ltb-false k (length line) e in
        absurd (n (beyond (rewritten_line line) (line ++ []) k (omega (arith, length-rewritten_line line)) (rw append-nil l)))
differs-from line (b ∷ s) k n = go (eqb b newline) refl (differs-from [] s) (differs-from (line ++ (b ∷ [])) s k)
  where
    go : (t : Bool) → eqb b newline ≡ t → ((i : ℕ) → (get_or (rewritten_from [] s) i 0 ≡ get_or s i 0 → ⊥) → ChangedDigit s (rewritten_from [] s) i)
        → ((get_or (rewritten_from (line ++ (b ∷ [])) s) k 0 ≡ get_or (line ++ (b ∷ []) ++ s) k 0 → ⊥) → ChangedDigit (line ++ (b ∷ []) ++ s) (rewritten_from (line ++ (b ∷ [])) s) k)
        → ChangedDigit (line ++ (b ∷ s)) (rewritten_from line (b ∷ s)) k
    go true e f g =
        let h : b ≡ newline = eqb-true b newline e in
        let m : get_or (rewritten_line line ++ (newline ∷ rewritten_from [] s)) k 0 ≡ get_or (line ++ (b ∷ s)) k 0 → ⊥ = rw e at n in
        rw e (subst (λ (z : ℕ). ChangedDigit (line ++ (z ∷ s)) (rewritten_line line ++ (newline ∷ rewritten_from [] s)) k) (sym h)
        (ended-digit line s k f (λ q. m (q ∙ ap (λ (z : ℕ). get_or (line ++ (z ∷ s)) k 0) (sym h)))))
    go false e f g =
        let m : get_or (rewritten_from (line ++ (b ∷ [])) s) k 0 ≡ get_or (line ++ (b ∷ s)) k 0 → ⊥ = rw e at n in
        rw e (subst (λ (z : List ℕ). ChangedDigit z (rewritten_from (line ++ (b ∷ [])) s) k) (append_snoc line b s)
        (g (λ q. m (q ∙ ap (λ (z : List ℕ). get_or z k 0) (append_snoc line b s)))))

pub differs-only-there : DiffersOnlyThere
differs-only-there s k n = differs-from [] s k n

-- ---- the report
among-append : (n : ℕ) (a b : List ℕ) → is_among n (a ++ b) ≡ (is_among n a || is_among n b)
among-append n [] b = refl
among-append n (m ∷ a) b = go (eqb n m) refl (among-append n a b)
  where
    go : (t : Bool) → eqb n m ≡ t → is_among n (a ++ b) ≡ (is_among n a || is_among n b) → is_among n ((m ∷ a) ++ b) ≡ (is_among n (m ∷ a) || is_among n b)
    go true e h = rw e
    go false e h = rw e h

-- of one line
among-line : (n m : ℕ) (line : List ℕ) → is_among n (changed_line m line) ≡ (begins52 line && eqb n m)
among-line n m line = go (begins52 line) refl (eqb n m) refl
  where
    go : (t : Bool) → begins52 line ≡ t → (u : Bool) → eqb n m ≡ u → is_among n (changed_line m line) ≡ (begins52 line && eqb n m)
    go true e true f = rw (e, f)
    go true e false f = rw (e, f)
    go false e u f = rw e

no_wrap : (m k : ℕ) → m + suc k < 18446744073709551616 → number_after m ≡ m + 1
no_wrap m k l = let h : m + 1 < 18446744073709551616 = omega arith in mod-eq_of_lt h

-- the lines from number m on
among-from : (n m : ℕ) (lines : List (List ℕ)) → m + length lines < 18446744073709551616 → is_among n (changed_lines m lines) ≡ cond (ltb n m) false (begins52 (get_or lines (n - m) []))
among-from n m [] l = go (ltb n m)
  where
    go : (t : Bool) → false ≡ cond t false (begins52 [])
    go true = refl
    go false = sym empty-begins
among-from n m (line ∷ lines) l =
    let after : number_after m ≡ m + 1 = no_wrap m (length lines) l in
    among-append n (changed_line m line) (changed_lines (number_after m) lines)
    ∙ ap (λ (z : Bool). z || is_among n (changed_lines (number_after m) lines)) (among-line n m line)
    ∙ ap (λ (z : ℕ). (begins52 line && eqb n m) || is_among n (changed_lines z lines)) after
    ∙ ap (λ (z : Bool). (begins52 line && eqb n m) || z) (among-from n (m + 1) lines (omega arith))
    ∙ go (ltb n m) refl (eqb n m) refl
  where
    or-false : (t : Bool) → (t || false) ≡ t
    or-false true = refl
    or-false false = refl

    and-true : (t : Bool) → (t && true) ≡ t
    and-true true = refl
    and-true false = refl

    go : (t : Bool) → ltb n m ≡ t → (u : Bool) → eqb n m ≡ u
        → ((begins52 line && eqb n m) || cond (ltb n (m + 1)) false (begins52 (get_or lines (n - (m + 1)) []))) ≡ cond (ltb n m) false (begins52 (get_or (line ∷ lines) (n - m) []))
    go true e u f =
        let h : n < m = ltb-true n m e in
        rw (ne_eqb n m (omega arith), lt-ltb n (m + 1) (omega arith), and-false (begins52 line), e)
    go false e true f =
        let h : n ≡ m = eqb-true n m f in
        let z : n - m ≡ 0 = omega arith in
        rw (f, lt-ltb n (m + 1) (omega arith), and-true (begins52 line), or-false (begins52 line), e, z)
    go false e false f =
        let h : m ≤ n = ltb-false n m e in
        let g : n ≡ m → ⊥ = eqb-false n m f in
        let z : n - m ≡ suc (n - (m + 1)) = omega arith in
        rw (f, le-ltb n (m + 1) (omega arith), and-false (begins52 line), e, z)

-- one after the other
rising-append : (k m : ℕ) (line : List ℕ) (ns : List ℕ) → k < m → ((j : ℕ) → j < m + 1 → rising j ns ≡ true) → rising k (changed_line m line ++ ns) ≡ true
rising-append k m line ns l h = go (begins52 line) refl
  where
    go : (t : Bool) → begins52 line ≡ t → rising k (changed_line m line ++ ns) ≡ true
    go true e = rw (e, lt-ltb k m l) (h m (omega arith))
    go false e = rw e (h k (omega arith))

rising-from : (k m : ℕ) (lines : List (List ℕ)) → k < m → m + length lines < 18446744073709551616 → rising k (changed_lines m lines) ≡ true
rising-from k m [] h l = refl
rising-from k m (line ∷ lines) h l =
    let after : number_after m ≡ m + 1 = no_wrap m (length lines) l in
    ap (λ (z : ℕ). rising k (changed_line m line ++ changed_lines z lines)) after
    ∙ rising-append k m line (changed_lines (m + 1) lines) h (λ j p. rising-from j (m + 1) lines p (omega arith))

pub reports-changed : ReportsChanged
reports-changed s l = (numbered, rising-from 0 1 (lines_from [] s) (omega arith) l)
  where
    numbered : (n : ℕ) → is_among n (changed_lines 1 (lines_from [] s)) ≡ begins52 (line_numbered s n)
    numbered zero = among-from 0 1 (lines_from [] s) l ∙ sym empty-begins
    numbered (suc n) =
        let z : suc n - 1 ≡ n = omega arith in
        among-from (suc n) 1 (lines_from [] s) l ∙ rw (le-ltb (suc n) 1 (omega arith), z)

-- ---- no second answer
pub one-line-rewritten : OneLineRewritten
one-line-rewritten long number line report told r r₂ line' line₂ report' report₂ p q =
    let w = one-put _ _ _ _ _ _ _ p.put q.put in
    (w.1, p.is ∙ sym q.is, w.0)
