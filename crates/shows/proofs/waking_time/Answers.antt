-- `shows::waking_time` meets its contract.
use mathlib.Core.Path.{◌≡◌}
use mathlib.Core.Bool.{false, true}
use borrow.Author.Tests.{not-true, not-false, lt-ltb, le-ltb}
use Rattle.effects.specs.Effects.{waking_time}
use Rattle.shows.proofs.waking_time.Goals as goal

pub returns-then-not-st : goal.returns-then-not-st
unfolding waking_time
returns-then-not-st c = let e : c.args.st.asleep ≡ false = not-true _ c.if-not-st.true in rw e

pub returns-then-n-gt4 : goal.returns-then-n-gt4
unfolding waking_time
returns-then-n-gt4 c = let e : c.args.st.asleep ≡ true = not-false _ c.if-not-st.false in rw (e, lt-ltb _ _ c.if-n-gt4.true)

pub returns-else-n-gt4 : goal.returns-else-n-gt4
unfolding waking_time
returns-else-n-gt4 c = let e : c.args.st.asleep ≡ true = not-false _ c.if-not-st.false in rw (e, le-ltb _ _ c.if-n-gt4.false)
