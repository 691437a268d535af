-- The forms of contracts: what is left of a chip, and what the functions ask of it.
use Rattle.std.specs.Prelude.{true, List, ◌≡◌, ℕ, ◌≤◌, length}
use Rattle.models.specs.Models.{model_of}
use Rattle.states.specs.States.{place_ok, Chip}
use Rattle.states.specs.declared.State.{State}
use Rattle.operations.specs.Operations.{runs}

-- what a function's result and its lent buffers at exit have to be
pub record Left (x : Chip) (s : State) (page cells : List ℕ) : Type 0 where
  pub state-is : s ≡ x.state
  pub page-is : page ≡ x.page
  pub cells_are : cells ≡ x.cells

-- what the functions ask of a chip whose operation finishes or is cut: its address fits, and there are 256 page data bytes
pub record Operable (n : ℕ) (s : State) (page cells : List ℕ) : Type 0 where
  pub whole : length cells ≡ (model_of n).length
  pub placed : place_ok n (runs n s) s.address ≡ true
  pub page-data : length page ≡ 256

-- BP is one that the model has
abbrev pub BpFits : ℕ → State → Type 0
BpFits n s = s.bp ≤ (model_of n).highest_bp
