-- `text::digits` meets its contract: the digits from `start` on stand, and those before them are the digits of the rest.
use Rattle.text.proofs.TextLaws.{Spelt}
use Rattle.text.proofs.digits.Given as goal

abbrev pub invariant-loop-rest : goal.invariant-loop-rest
invariant-loop-rest l = Spelt l.n l.rest l.start l.room

abbrev pub decreases-loop-rest : goal.decreases-loop-rest
decreases-loop-rest l = l.rest
