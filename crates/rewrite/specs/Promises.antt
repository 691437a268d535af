-- What holds of every script that is rewritten.
use Rattle.std.specs.Prelude.{◌≡◌, Bool, true, false, cond, ◌&&◌, ◌||◌, List, [], ◌∷◌, ◌++◌, map, ◌⊎◌, ℕ, zero, suc, ◌+◌, ◌≤◌, ◌<◌, eqb, ltb, length, get_or, drop, Some, None}
use Prim.Native.Char.{code}
use Rattle.parts.specs.Parts.{Bytes}
use Rattle.text.specs.Text.{newline}
use Rattle.script.specs.declared.Line.TheVariants.{Frame}
use Rattle.script.specs.Grammar.{longest_frame, frame_text}
use Rattle.script.specs.Hex.{hex_bytes}
use Rattle.script.specs.Reading.{line_of}
use Rattle.lines.specs.Lines.{lines_from}
use Rattle.rewrite.specs.Rewriting.{begins52, rewritten_line, rewritten, changed_lines, LineRewritten}

-- ---- a line
-- in the words of the grammar: a frame's line whose first byte is 52
pub record FrameOf52 (line : List ℕ) : Type 0 where
  pub wp : Bool
  pub tail : ℕ
  pub bytes : List ℕ
  pub few : tail ≤ 7
  pub most : length (0x52 ∷ bytes) ≤ longest_frame
  pub are : Bytes bytes
  pub is : line ≡ frame_text wp tail (0x52 ∷ bytes)

-- the lines that change are these, and no others
abbrev pub OnlyThese : Type 0
OnlyThese = (line : List ℕ) → begins52 line ≡ true → FrameOf52 line

-- each of them changes, and becomes the same frame's line with D8 for 52
abbrev pub BecomesD8 : Type 0
BecomesD8 = (line : List ℕ) (f : FrameOf52 line) → (begins52 line ≡ true) × (rewritten_line line ≡ frame_text f.wp f.tail (0xD8 ∷ f.bytes)) × (rewritten_line line ≡ line → ⊥)

-- a bad line stays, however long it is
abbrev pub BadStays : Type 0
BadStays = (line : List ℕ) → line_of line ≡ None → rewritten_line line ≡ line

-- for whoever plays it: a rewritten line says what the line said
abbrev pub SaysTheSame : Type 0
SaysTheSame = (line : List ℕ) → line_of (rewritten_line line) ≡ line_of line

-- and the bytes of a frame are the same, but for D8 in place of a first byte 52
abbrev pub first_replaced : List ℕ → List ℕ
first_replaced [] = []
first_replaced (b ∷ bytes) = cond (eqb b 0x52) 0xD8 b ∷ bytes

abbrev pub FrameReplaced : Type 0
FrameReplaced = (line : List ℕ) (wp : Bool) (tail count : ℕ) → line_of line ≡ Some (Frame wp tail count) → hex_bytes (drop 6 (rewritten_line line)) ≡ first_replaced (hex_bytes (drop 6 line))

-- ---- a script
abbrev pub LengthStays : Type 0
LengthStays = (s : List ℕ) → length (rewritten s) ≡ length s

-- it has as many lines, each rewritten
abbrev pub LineByLine : Type 0
LineByLine = (s : List ℕ) → lines_from [] (rewritten s) ≡ map rewritten_line (lines_from [] s)

-- line n of a script, counted from 0; past the last one there is none, which is as an empty line
abbrev pub line_at : List ℕ → ℕ → List ℕ
line_at s n = get_or (lines_from [] s) n []

-- each line that does not begin with 52 has the same bytes
abbrev pub OthersStay : Type 0
OthersStay = (s : List ℕ) (n : ℕ) → begins52 (line_at s n) ≡ false → line_at (rewritten s) n ≡ line_at s n

-- no line begins with 52 any more
abbrev pub NoneLeft : Type 0
NoneLeft = (s : List ℕ) (n : ℕ) → begins52 (line_at (rewritten s) n) ≡ false

-- twice is once
abbrev pub TwiceIsOnce : Type 0
TwiceIsOnce = (s : List ℕ) → rewritten (rewritten s) ≡ rewritten s

-- what stands before a line, and what stands behind it
pub data StartsLine : List ℕ → Type 0 where
  at_first : StartsLine []
  after_line : (s : List ℕ) → StartsLine (s ++ (newline ∷ []))

pub data EndsLine : List ℕ → Type 0 where
  at_last : EndsLine []
  at-newline : (s : List ℕ) → EndsLine (newline ∷ s)

-- byte k of a script and of what it becomes: `5` and `D`, or `2` and `8`, the first two digits of a line that changes
pub record ChangedDigit (s t : List ℕ) (k : ℕ) : Type 0 where
  pub before : List ℕ
  pub line : List ℕ
  pub behind : List ℕ
  pub is : s ≡ before ++ (line ++ behind)
  pub starts : StartsLine before
  pub ends : EndsLine behind
  pub changes : begins52 line ≡ true
  pub digit : ((k ≡ length before + 6) × (get_or s k 0 ≡ code "5") × (get_or t k 0 ≡ code "D")) ⊎ ((k ≡ length before + 7) × (get_or s k 0 ≡ code "2") × (get_or t k 0 ≡ code "8"))

abbrev pub DiffersOnlyThere : Type 0
DiffersOnlyThere = (s : List ℕ) (k : ℕ) → (get_or (rewritten s) k 0 ≡ get_or s k 0 → ⊥) → ChangedDigit s (rewritten s) k

-- ---- the report
abbrev pub is_among : ℕ → List ℕ → Bool
is_among n [] = false
is_among n (m ∷ ms) = eqb n m || is_among n ms

abbrev pub rising : ℕ → List ℕ → Bool
rising m [] = true
rising m (n ∷ ns) = ltb m n && rising n ns

-- the line with that number; none has the number 0
abbrev pub line_numbered : List ℕ → ℕ → List ℕ
line_numbered s zero = []
line_numbered s (suc n) = line_at s n

-- a number is reported exactly if its line changes; each once, in rising order. The numbers of a longer script wrap, as those of the log do
abbrev pub ReportsChanged : Type 0
ReportsChanged = (s : List ℕ) → 1 + length (lines_from [] s) < 18446744073709551616
    → ((n : ℕ) → is_among n (changed_lines 1 (lines_from [] s)) ≡ begins52 (line_numbered s n)) × (rising 0 (changed_lines 1 (lines_from [] s)) ≡ true)

-- ---- no second answer
abbrev pub OneLineRewritten : Type 0
OneLineRewritten = (long : Bool) (number : ℕ) (line report : List ℕ) (told r r₂ : ℕ) (line' line₂ report' report₂ : List ℕ)
    → LineRewritten long number line report told r line' report' → LineRewritten long number line report told r₂ line₂ report₂ → (r ≡ r₂) × (line' ≡ line₂) × (report' ≡ report₂)
