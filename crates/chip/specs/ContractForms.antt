-- The forms of contracts inside the crate: what the code of the commands gives, and what is known of a frame before it.
use Rattle.std.specs.Prelude.{List, ◌≡◌, ℕ, ◌≤◌, ◌<◌, length}
use Rattle.units.specs.declared.Address.{Address}
use Rattle.models.specs.Models.{model_of}
use Rattle.commands.specs.Commands.{traits_of, fewest, most_written}
use Rattle.commands.specs.declared.Command.{Command}
use Rattle.commands.specs.declared.Command.TheVariants.{WriteStatus}
use Rattle.states.specs.States.{Chip}
use Rattle.states.specs.declared.Record.{Record}
use Rattle.effects.specs.declared.Reply.{Reply}
use Rattle.effects.specs.Effects.{Effect}
use Rattle.effects.specs.ContractForms.{Room}

-- the reply, the page data and the output of an effect: what the code of the commands gives; the wear table is not lent to it
pub record Does (e : Effect) (r : Reply) (page os : List ℕ) : Type 0 where
  pub reply : r ≡ e.reply
  pub page-is : page ≡ e.page
  pub out : os ≡ e.out

-- what the rows of the refusals, but for the last two, have shown of a frame
pub record Ready (rec : Record) (x : Chip) (c : Command) (at : Address) (bytes out : List ℕ) : Type 0 where
  pub level : x.state.bp ≤ 15
  pub whole : length x.cells ≡ (model_of rec.model).length
  pub inside : at.0 < length x.cells
  pub page-data : length x.page ≡ 256
  pub written : c ≡ WriteStatus → length bytes ≤ most_written (model_of rec.model).register
  pub fits : Room (fewest (traits_of (model_of rec.model).register c)) bytes out
