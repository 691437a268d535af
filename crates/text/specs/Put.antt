-- Text that is put into a lent buffer.
use Rattle.std.specs.Prelude.{◌≡◌, List, ℕ, ◌+◌, ◌≤◌, length}
use Rattle.parts.specs.Parts.{lay}

-- text was put into d from `at` on, which makes it e, and r is the place past it
pub record Put (text d : List ℕ) (at : ℕ) (e : List ℕ) (r : ℕ) : Type 0 where
  pub room : at + length text ≤ length d
  pub is : e ≡ lay d at text
  pub next : r ≡ at + length text

-- no second answer: the text, the buffer and the place fix what the buffer holds after, and what comes back
abbrev pub OnePut : Type 0
OnePut = (text d : List ℕ) (at : ℕ) (e e' : List ℕ) (r r' : ℕ) → Put text d at e r → Put text d at e' r' → (e ≡ e') × (r ≡ r')
