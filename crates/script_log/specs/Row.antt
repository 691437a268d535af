-- The log of a script (01, "Script and log").
use Rattle.std.specs.Prelude.{◌≡◌, Bool, cond, List, [], ◌∷◌, ◌++◌, ℕ, ◌+◌, ◌*◌, eqb, leb, length}
use Rattle.parts.specs.Parts.{lay}
use Rattle.text.specs.Text.{ascii, tab, newline, hex_text, decimal_text}

-- `-`, where there is nothing to show
abbrev pub dash : List ℕ
dash = ascii "-"

-- a row: its fields parted by tabs, and a newline
abbrev pub row_of : List (List ℕ) → List ℕ
row_of [] = newline ∷ []
row_of (f ∷ []) = f ++ (newline ∷ [])
row_of (f ∷ g ∷ more) = f ++ (tab ∷ row_of (g ∷ more))

-- the header
unfoldable pub header_text : List ℕ
header_text = row_of (ascii "line" ∷ ascii "answer" ∷ ascii "from" ∷ ascii "bytes" ∷ ascii "note" ∷ [])

-- the first of `count` driven positions, and the driven bytes in hex; `-` where none is driven
abbrev pub from_text : ℕ → ℕ → List ℕ
from_text from count = cond (eqb count 0) dash (decimal_text from)

abbrev pub bytes_text : List ℕ → List ℕ
bytes_text driven = cond (eqb (length driven) 0) dash (hex_text driven)

-- the note: that a program went past its page's end
abbrev pub note_text : Bool → List ℕ
note_text fold = cond fold (ascii "fold") dash

-- with the tab before it and the newline behind it
abbrev pub last_text : Bool → List ℕ
last_text fold = tab ∷ row_of (note_text fold ∷ [])

-- the row of a script line: its number, the answer, the first driven position, the driven bytes, the note
unfoldable pub log_text : ℕ → ℕ → ℕ → List ℕ → Bool → List ℕ
log_text number answer from driven fold =
    row_of (decimal_text number ∷ decimal_text answer ∷ from_text from (length driven) ∷ bytes_text driven ∷ note_text fold ∷ [])

-- the most bytes that the row of n driven bytes can take
abbrev pub room_of : ℕ → ℕ
room_of n = 2 * n + 70

-- the most that any row of a script takes: a frame has at most 300 bytes, and drives no more
abbrev pub longest_row : ℕ
longest_row = room_of 300

-- A row is put into d from `at` on where there is room for `most` bytes; else d stays as it was. r is the place past what was put.
pub record Rowed (most : ℕ) (row d : List ℕ) (at : ℕ) (e : List ℕ) (r : ℕ) : Type 0 where
  pub is : e ≡ cond (leb (at + most) (length d)) (lay d at row) d
  pub next : r ≡ cond (leb (at + most) (length d)) (at + length row) at

-- no second answer
abbrev pub OneRowed : Type 0
OneRowed = (most : ℕ) (row d : List ℕ) (at : ℕ) (e e' : List ℕ) (r r' : ℕ) → Rowed most row d at e r → Rowed most row d at e' r' → (e ≡ e') × (r ≡ r')
