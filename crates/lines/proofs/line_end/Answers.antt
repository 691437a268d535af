-- `lines::line_end` meets its contract.
use mathlib.Core.Path.{sym, ◌∙◌, ap}
use native.Mathlib.Omega.{arith}
use lib.Dec.{eqb}
use Rattle.std.specs.Prelude.{position}
use Rattle.std.proofs.lemmas.List.{take_rest}
use Rattle.lines.proofs.Laws.{end_found, end_none}
use Rattle.lines.proofs.line_end.Goals as goal

pub returns-in-Some : goal.returns-in-Some
returns-in-Some c =
    let a = c.args in
    end_found a.block.now a.at c.in-Some.n (sym c.in-Some.is ∙ c.newline_in.ensures ∙ ap (position (λ b. eqb b 10)) (take_rest a.block.now a.at))

pub returns-in-None : goal.returns-in-None
returns-in-None c =
    let a = c.args in
    end_none a.block.now a.at (omega arith) (sym c.in-None.is ∙ c.newline_in.ensures ∙ ap (position (λ b. eqb b 10)) (take_rest a.block.now a.at))
