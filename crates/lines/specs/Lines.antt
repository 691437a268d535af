-- The lines of a script (01, "Script and log"): they end in a newline, the last may lack it.
use Rattle.std.specs.Prelude.{cond, List, [], ◌∷◌, ◌++◌, ℕ, eqb}
use Rattle.text.specs.Text.{newline}

-- what is left at the input's end: a line without its newline, or none
abbrev pub last_line : List ℕ → List (List ℕ)
last_line [] = []
last_line (b ∷ s) = (b ∷ s) ∷ []

-- the lines of s, where the bytes `line` of the first were there before
abbrev pub lines_from : List ℕ → List ℕ → List (List ℕ)
lines_from line [] = last_line line
lines_from line (b ∷ s) = cond (eqb b newline) (line ∷ lines_from [] s) (lines_from (line ++ (b ∷ [])) s)

-- an input that comes in blocks
abbrev pub joined_up : List (List ℕ) → List ℕ
joined_up [] = []
joined_up (b ∷ bs) = b ++ joined_up bs
