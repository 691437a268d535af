-- `pod::keep` meets its contract.
use mathlib.Core.Path.{◌≡◌, refl, sym, ◌∙◌}
use mathlib.Core.Bool.{Bool, true, false, ◌||◌}
use Prim.Native.Nat.{ℕ}
use lib.Dec.{eqb}
use borrow.Author.Tests.{eqb-false, ne_eqb}
use Rattle.std.specs.Prelude.{Ok, Err}
use Rattle.answers.specs.Answers.{Answer, number, number_of, is_done}
use Rattle.answers.proofs.Tables.{never-zero}
use Rattle.fits.specs.Fits.{may_move}
use Rattle.pod.specs.Calls.{kept_of}
use Rattle.pod.proofs.keep.Goals as goal

zero-done : (a : Answer) → eqb (number_of a) 0 ≡ is_done a
zero-done (Ok u) = refl
zero-done (Err r) = ne_eqb (number r) 0 (λ z. eqb-false 0 (number r) (never-zero r) (sym z))

-- the number's test is the answer's
moves-if : (a : Answer) (n : ℕ) (b : Bool) → n ≡ number_of a → (eqb n 0 || eqb n 17) ≡ b → may_move a ≡ b
moves-if a n b e t = rw (← (zero-done a), ← e) t

pub pack-requires : goal.pack-requires
pack-requires c =
    let d = moves-if c.args.answer _ true c.number_of-number.ensures c.if-number.true in
    (c.requires.level d, c.requires.room)

pub returns-then-number : goal.returns-then-number
unfolding kept_of
returns-then-number c =
    let d = moves-if c.args.answer _ true c.number_of-number.ensures c.if-number.true in
    (c.number_of-number.ensures, c.pack.ensures ∙ rw d)

pub returns-else-number : goal.returns-else-number
unfolding kept_of
returns-else-number c =
    let d = moves-if c.args.answer _ false c.number_of-number.ensures c.if-number.false in
    (c.number_of-number.ensures, rw d)
