-- The form of the contract of `counts::count`.
use Rattle.std.specs.Prelude.{Bool, not, cond, List, ◌≡◌, ℕ, Option}
use Rattle.units.specs.declared.Address.{Address}
use Rattle.commands.specs.declared.Operation.{Operation}
use Rattle.counts.specs.Counts.{worn_out, counted}

-- whether an operation was counted, and the table after: one that covers a count at its top is not
pub record Counting (op : Option Operation) (at : Address) (before : List ℕ) (done : Bool) (after : List ℕ) : Type 0 where
  pub done-is : done ≡ not (worn_out op at before)
  pub table_is : after ≡ cond done (counted op at before) before
