-- The forms of contracts: what a function gives of an effect, and what it asks of a frame.
use Rattle.std.specs.Prelude.{List, ◌≡◌, ℕ, ◌≤◌, length}
use Rattle.effects.specs.declared.Reply.{Reply}
use Rattle.effects.specs.Effects.{Effect, Shown, Started}

-- what a function's result and its lent buffers at exit have to be
pub record Gives (e : Effect) (r : Reply) (page wear os : List ℕ) : Type 0 where
  pub reply : r ≡ e.reply
  pub page-is : page ≡ e.page
  pub wear-is : wear ≡ e.wear
  pub out : os ≡ e.out

pub record Shows (e : Shown) (r : Reply) (os : List ℕ) : Type 0 where
  pub reply : r ≡ e.reply
  pub out : os ≡ e.out

pub record Starts (e : Started) (r : Reply) (page : List ℕ) : Type 0 where
  pub reply : r ≡ e.reply
  pub page-is : page ≡ e.page

-- what the functions ask: a frame of at least `first` bytes, none longer than is allowed, and room for it in the output
pub record Room (first : ℕ) (bytes out : List ℕ) : Type 0 where
  pub long : first ≤ length bytes
  pub short : length bytes ≤ 65541
  pub room : length bytes ≤ length out
