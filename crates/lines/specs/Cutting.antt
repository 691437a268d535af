-- One line cut out of a block, with what is held of the line that an earlier block began.
use Rattle.std.specs.Prelude.{◌≡◌, cond, ◌&&◌, List, [], ◌∷◌, ℕ, ◌+◌, ◌-◌, eqb, ltb, length, take, drop}
use Rattle.parts.specs.Parts.{lay}
use Rattle.text.specs.Text.{newline}
use Rattle.script.specs.Grammar.{longest_line}
use Rattle.lines.specs.declared.Cut.{Cut}
use Rattle.lines.specs.declared.Cut.TheVariants.{Here, Joined, Open}

-- the bytes before the first newline
abbrev pub first_line : List ℕ → List ℕ
first_line [] = []
first_line (b ∷ s) = cond (eqb b newline) [] (b ∷ first_line s)

-- the place of the first newline from `at` on; the block's length or more where there is none
abbrev pub end_of : List ℕ → ℕ → ℕ
end_of block at = at + length (first_line (drop at block))

-- as much of part as there is room for behind the first `used` bytes of held
abbrev pub fitting : List ℕ → ℕ → List ℕ → List ℕ
fitting held used part = take (length held - used) part

-- held with that behind its first `used` bytes, and how many bytes are held then
abbrev pub held_with : List ℕ → ℕ → List ℕ → List ℕ
held_with held used part = lay held used (fitting held used part)

abbrev pub used_of : List ℕ → ℕ → List ℕ → ℕ
used_of held used part = used + length (fitting held used part)

-- A line that began in this block and ends here stays where it is; any other is held as far as there is room.
unfoldable pub cut_of : List ℕ → ℕ → List ℕ → ℕ → Cut
cut_of held used block at =
    cond (ltb (end_of block at) (length block))
    (cond (eqb used 0) (Here (end_of block at)) (Joined (used_of held used (first_line (drop at block))) (end_of block at)))
    (Open (used_of held used (first_line (drop at block))))

unfoldable pub held_of : List ℕ → ℕ → List ℕ → ℕ → List ℕ
held_of held used block at = cond (ltb (end_of block at) (length block) && eqb used 0) held (held_with held used (first_line (drop at block)))

-- what a cut gives, and what it leaves in held
pub record Cuts (held : List ℕ) (used : ℕ) (block : List ℕ) (at : ℕ) (r : Cut) (after : List ℕ) : Type 0 where
  pub is : r ≡ cut_of held used block at
  pub kept : after ≡ held_of held used block at

-- no second answer
abbrev pub OneCuts : Type 0
OneCuts = (held : List ℕ) (used : ℕ) (block : List ℕ) (at : ℕ) (r r' : Cut) (after after' : List ℕ) → Cuts held used block at r after → Cuts held used block at r' after'
    → (r ≡ r') × (after ≡ after')

-- one byte more than the longest line: enough to know a longer one for what it is
abbrev pub held_room : ℕ
held_room = longest_line + 1

-- held and used stand for the bytes `line` that are there of a line: all of them, or as many as held has room for
pub record Holds (line held : List ℕ) (used : ℕ) : Type 0 where
  pub is : take used held ≡ take (length held) line
  pub count : used ≡ length (take (length held) line)
