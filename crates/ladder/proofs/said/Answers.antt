-- `ladder::said` meets its contract.
use mathlib.Core.Path.{sym}
use Rattle.std.proofs.lemmas.Result.{err_from_is_err_and}
use Rattle.ladder.proofs.Stages.{two-stages, harmless}
use Rattle.ladder.proofs.said.Goals as goal

pub returns-in_err-heard : goal.returns-in_err-heard
returns-in_err-heard c =
    let p = err_from_is_err_and c.from_residual.result c.from_residual.ensures.1 in
    rw (p.1, p.2, two-stages c.args.rec c.args.st c.args.head, ← c.model_of-row.ensures, ← c.traits_of-t.ensures, ← c.heard.ensures, c.in_err-heard.was)

pub returns-then-t : goal.returns-then-t
returns-then-t c = rw (two-stages c.args.rec c.args.st c.args.head, ← c.model_of-row.ensures, ← c.traits_of-t.ensures, ← c.heard.ensures, c.in_ok-heard.was, c.allowed.ensures)

-- a command that needs no latch is stopped by none of the last rows
pub returns : goal.returns
returns c =
    rw (two-stages c.args.rec c.args.st c.args.head, ← c.model_of-row.ensures, ← c.traits_of-t.ensures, ← c.heard.ensures, c.in_ok-heard.was)
    (rw (c.traits_of-t.ensures, c.model_of-row.ensures) (sym (harmless c.args.rec c.args.st c.args.head (rw (← c.model_of-row.ensures, ← c.traits_of-t.ensures) c.if-t.false))))
