-- What a script becomes for models 1 and 2, which do not take 52 any more (Req 11): D8 in its place, as the first byte of a frame.
use Rattle.std.specs.Prelude.{◌≡◌, Bool, true, false, cond, ◌&&◌, List, [], ◌∷◌, ◌++◌, ℕ, ◌+◌, ◌%◌, eqb, get_or, drop, Option, Some, None}
use Rattle.parts.specs.Parts.{lay}
use Rattle.text.specs.Text.{ascii, newline, decimal_text}
use Rattle.text.specs.Put.{Put}
use Rattle.script.specs.declared.Line.{Line}
use Rattle.script.specs.declared.Line.TheVariants.{Frame, Wait, Power}
use Rattle.script.specs.Hex.{hex_bytes}
use Rattle.script.specs.Reading.{line_of}

-- ---- a line
-- a line that is well formed and a frame's
abbrev pub says_frame : Option Line → Bool
says_frame (Some (Frame wp tail count)) = true
says_frame (Some (Wait us)) = false
says_frame (Some Power) = false
says_frame None = false

-- a well-formed `F` line whose first frame byte is 52
unfoldable pub begins52 : List ℕ → Bool
begins52 line = says_frame (line_of line) && eqb (get_or (hex_bytes (drop 6 line)) 0 0) 0x52

-- its two digits `52`, which stand from byte 6 on, become `D8`; any other line stays as it is
unfoldable pub rewritten_line : List ℕ → List ℕ
rewritten_line line = cond (begins52 line) (lay line 6 (ascii "D8")) line

-- ---- a script
-- the script s, where the bytes `line` of its first line were there before; each newline stays, and a last line that lacks it gets none
abbrev pub rewritten_from : List ℕ → List ℕ → List ℕ
rewritten_from line [] = rewritten_line line
rewritten_from line (b ∷ s) = cond (eqb b newline) (rewritten_line line ++ (newline ∷ rewritten_from [] s)) (rewritten_from (line ++ (b ∷ [])) s)

abbrev pub rewritten : List ℕ → List ℕ
rewritten s = rewritten_from [] s

-- ---- the report
-- lines are numbered as the log does: the first has the number 1, and numbers wrap after 18,446,744,073,709,551,615
abbrev pub number_after : ℕ → ℕ
number_after n = (n + 1) % 18446744073709551616

-- the numbers of the lines that change, where the first line has the number n
abbrev pub changed_line : ℕ → List ℕ → List ℕ
changed_line n line = cond (begins52 line) (n ∷ []) []

abbrev pub changed_lines : ℕ → List (List ℕ) → List ℕ
changed_lines n [] = []
changed_lines n (line ∷ lines) = changed_line n line ++ changed_lines (number_after n) lines

-- numbers in decimal, one a line
abbrev pub numbers_text : List ℕ → List ℕ
numbers_text [] = []
numbers_text (n ∷ ns) = decimal_text n ++ (newline ∷ numbers_text ns)

-- ---- a line that has ended
-- what it becomes, and its number if it changes; of a long line, which is bad, only the rest is there, and stays
abbrev pub ended_line : Bool → List ℕ → List ℕ
ended_line long line = cond long line (rewritten_line line)

abbrev pub ended_number : Bool → ℕ → List ℕ → List ℕ
ended_number long number line = cond long [] (changed_line number line)

-- so it was rewritten, and its number put behind the first `told` bytes of the report
pub record LineRewritten (long : Bool) (number : ℕ) (line report : List ℕ) (told r : ℕ) (line' report' : List ℕ) : Type 0 where
  pub is : line' ≡ ended_line long line
  pub put : Put (numbers_text (ended_number long number line)) report told report' r
