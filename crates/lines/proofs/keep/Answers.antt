-- `lines::keep` meets its contract.
use Rattle.lines.proofs.Laws.{full, kept-none, kept_copied}
use Rattle.lines.proofs.keep.Goals as goal

pub returns-then-held-used : goal.returns-then-held-used
returns-then-held-used c =
    let a = c.args in
    kept-none a.held.now a.part.now a.used (full a.held.now a.part.now a.used c.if-held-used.true)

pub returns : goal.returns
returns c =
    let a = c.args in
    kept_copied a.held.now a.part.now _ a.used _ c.min-n.ensures c.if-held-used.false c.copy.ensures
