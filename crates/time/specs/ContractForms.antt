-- The form of the contracts of a wait and of a cut.
use Rattle.std.specs.Prelude.{List, ◌≡◌, ℕ, Result}
use Rattle.answers.specs.declared.Refusal.{Refusal}
use Rattle.states.specs.declared.State.{State}
use Rattle.time.specs.Time.{Aftermath, told}

-- what a function's result and its lent buffers at exit have to be
pub record Ends (o : Aftermath) (r : Result State Refusal) (page cells : List ℕ) : Type 0 where
  pub result-is : r ≡ told o.answer o.chip.state
  pub page-is : page ≡ o.chip.page
  pub cells_are : cells ≡ o.chip.cells
