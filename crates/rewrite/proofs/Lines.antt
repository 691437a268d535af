-- The laws of one line, for the functions that rewrite it. No contract cites this file.
use mathlib.Core.Path.{◌≡◌, refl, ap, ◌∙◌}
use mathlib.Core.Bool.{Bool, true, false}
use mathlib.Core.List.{List, [], ◌∷◌, ◌++◌}
use Prim.Native.Nat.{ℕ, ◌+◌, ◌-◌, ◌*◌, ◌/◌, ◌≤◌, ◌<◌}
use native.Mathlib.Omega.{arith}
use lib.Dec.{eqb}
use lib.ListN.{length, get_or, take, drop, length-drop, length-append}
use borrow.Author.Tests.{eqb-true}
use Rattle.parts.proofs.Lay.{length-lay}
use Rattle.text.specs.Text.{ascii, decimal_text, newline}
use Rattle.text.specs.Put.{Put}
use Rattle.text.proofs.PutLaws.{put-none, put_then}
use Rattle.text.proofs.TextLaws.{decimal-few}
use Rattle.std.specs.Prelude.{Option}
use Rattle.script.specs.declared.Line.{Line}
use Rattle.script.specs.Hex.{hex_bytes, Unhexed}
use Rattle.script.specs.Reading.{line_of}
use Rattle.script.proofs.HexLaws.{and_right, length-hex_bytes}
use Rattle.rewrite.specs.Rewriting.{says_frame, begins52, rewritten_line, changed_line, numbers_text, ended_line, ended_number, LineRewritten}

-- ---- whether it changes
-- the first of some bytes, read into one place that holds 0
front_of : (bytes e : List ℕ) (r : ℕ) → r ≡ length (take 1 bytes) → e ≡ take r bytes ++ drop r (0 ∷ []) → get_or e 0 0 ≡ get_or bytes 0 0
front_of [] e r n h = ap (λ (z : List ℕ). get_or z 0 0) (h ∙ ap (λ (k : ℕ). take k [] ++ drop k (0 ∷ [])) n)
front_of (b ∷ bytes) e r n h = ap (λ (z : List ℕ). get_or z 0 0) (h ∙ ap (λ (k : ℕ). take k (b ∷ bytes) ++ drop k (0 ∷ [])) n)

pub first_read : (digits e : List ℕ) (r : ℕ) → Unhexed digits (0 ∷ []) e r → get_or e 0 0 ≡ get_or (hex_bytes digits) 0 0
first_read digits e r u = front_of (hex_bytes digits) e r u.count u.is

pub begins-other : (line : List ℕ) {l : Option Line} → l ≡ line_of line → says_frame l ≡ false → false ≡ begins52 line
unfolding begins52
begins-other line e f = rw (← e, f)

-- ---- what it becomes
-- a byte that is not 0 stands within the list
some_byte : (bytes : List ℕ) (v : ℕ) → get_or bytes 0 0 ≡ v → 0 < v → 0 < length bytes
some_byte [] v e l = omega arith
some_byte (b ∷ bytes) v e l = omega arith

pub begins_long : (line : List ℕ) → begins52 line ≡ true → 8 ≤ length line
unfolding begins52
begins_long line e =
    let digits : List ℕ = drop 6 line in
    let first : Bool = eqb (get_or (hex_bytes digits) 0 0) 0x52 in
    let b : get_or (hex_bytes digits) 0 0 ≡ 0x52 = eqb-true _ _ (and_right (says_frame (line_of line)) first e) in
    let some : 0 < length (hex_bytes digits) = some_byte (hex_bytes digits) 0x52 b (omega arith) in
    let n : length (hex_bytes digits) ≡ length digits / 2 = length-hex_bytes digits in
    let m : length digits ≡ length line - 6 = length-drop 6 line in
    omega arith

pub length-rewritten_line : (line : List ℕ) → length (rewritten_line line) ≡ length line
unfolding rewritten_line
length-rewritten_line line = go (begins52 line) refl
  where
    go : (t : Bool) → begins52 line ≡ t → length (rewritten_line line) ≡ length line
    go true p = rw p (length-lay line 6 (ascii "D8") (omega (arith, begins_long line p)))
    go false p = rw p

pub length-ended_line : (long : Bool) (line : List ℕ) → length (ended_line long line) ≡ length line
length-ended_line true line = omega (arith, length-rewritten_line line)
length-ended_line false line = length-rewritten_line line

-- a number takes seven bytes of the report for three of the line and its newline, at most
pub number-few : (long : Bool) (number : ℕ) (line : List ℕ) → 3 * length (numbers_text (ended_number long number line)) ≤ 7 * (length line + 1)
number-few true number line = omega arith
number-few false number line = go (begins52 line) refl
  where
    go : (t : Bool) → begins52 line ≡ t → 3 * length (numbers_text (changed_line number line)) ≤ 7 * (length line + 1)
    go true p = rw (p, length-append) (omega (arith, decimal-few number, begins_long line p))
    go false p = rw p (omega arith)

-- ---- the three ways of a line
pub rest-stays : (long : Bool) (number : ℕ) (line report : List ℕ) (told : ℕ) → long ≡ true → told ≤ length report → LineRewritten long number line report told told line report
rest-stays long number line report told e l = rw e (record { is = refl; put = put-none report told l })

pub line_stays : (long : Bool) (number : ℕ) (line report : List ℕ) (told : ℕ) → long ≡ false → begins52 line ≡ false → told ≤ length report → LineRewritten long number line report told told line report
unfolding rewritten_line
line_stays long number line report told e b l = record { is = rw (e, b); put = rw (e, b) (put-none report told l) }

pub line-changes : (long : Bool) (number : ℕ) (line report : List ℕ) (told : ℕ) {line' report₁ report' : List ℕ} {m n r : ℕ} → long ≡ false → begins52 line ≡ true
    → Put (ascii "D8") line 6 line' n → Put (decimal_text number) report told report₁ m → Put (newline ∷ []) report₁ m report' r → LineRewritten long number line report told r line' report'
unfolding rewritten_line
line-changes long number line report told e b d p q = record { is = rw (e, b) d.is; put = rw (e, b) (put_then p q) }
