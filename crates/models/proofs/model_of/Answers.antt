use mathlib.Core.Path.{sym, ap}
use Rattle.std.proofs.Common.{rules}
use Rattle.models.specs.Models.{Part}
use Rattle.models.proofs.Rules.{first_part, second-part, third-part}
use Rattle.models.proofs.model_of.Goals as goal

pub returns-in-2 : goal.returns-in-2
returns-in-2 c = sym (ap (λ (p : Part). p.row) (second-part _ c.in-2.is))

pub returns-in-3 : goal.returns-in-3
returns-in-3 c = sym (ap (λ (p : Part). p.row) (third-part _ c.in-3.is))

pub returns-in_default : goal.returns-in_default
returns-in_default c = sym (ap (λ (p : Part). p.row) (first_part _ (search rules) (search rules)))
