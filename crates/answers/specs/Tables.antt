-- Tables of refusals: rows in the order of checking.
use Rattle.std.specs.Prelude.{Bool, cond, List, [], ◌∷◌, Err}
use Rattle.answers.specs.Answers.{Answer, Done}
use Rattle.answers.specs.declared.Refusal.{Refusal}

-- a row: a test, and the refusal where it holds
pub record Rung : Type 0 where
  pub bad : Bool
  pub says : Refusal

infix 20 ◌gives◌
abbrev pub ◌gives◌ : Bool → Refusal → Rung
bad gives says = record { bad = bad; says = says }

-- the first that applies, and 0 otherwise
abbrev pub first_of : List Rung → Answer
first_of [] = Done
first_of (r ∷ rs) = cond r.bad (Err r.says) (first_of rs)
