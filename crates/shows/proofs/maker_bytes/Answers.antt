-- `shows::maker_bytes` meets its contract.
use borrow.Author.Tests.{ne_eqb}
use Rattle.effects.specs.Effects.{maker_bytes}
use Rattle.shows.proofs.maker_bytes.Goals as goal

pub returns-then-fourth-eq1 : goal.returns-then-fourth-eq1
unfolding maker_bytes
returns-then-fourth-eq1 c = rw c.if-fourth-eq1.true

pub returns-else-fourth-eq1 : goal.returns-else-fourth-eq1
unfolding maker_bytes
returns-else-fourth-eq1 c = rw (ne_eqb _ _ c.if-fourth-eq1.false)
