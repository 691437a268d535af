-- Laws of replies and of what is driven.
use mathlib.Core.Path.{◌≡◌}
use mathlib.Core.Bool.{true, false, and-false}
use mathlib.Core.List.{List}
use Prim.Native.Nat.{ℕ, ◌-◌, ◌≤◌}
use native.Mathlib.Omega.{arith}
use lib.ListN.{length, take, drop, replicate, length-drop}
use lib.Seq.{take_all}
use borrow.Author.Tests.{le-ltb}
use Rattle.parts.specs.Parts.{lay}
use Rattle.parts.proofs.Lay.{lay-none}
use Rattle.states.specs.declared.State.{State}
use Rattle.models.specs.Models.{model_of}
use Rattle.answers.specs.Answers.{Answer, Done, says_protected}
use Rattle.effects.specs.Effects.{drives, quiet, refusal_leaves, latched}

-- a frame that ends before its first data position drives nothing
pub drives-none : (s : State) (from n : ℕ) → n ≤ from → drives s from n ≡ quiet Done s
unfolding drives
drives-none s from n h =
    let e : n - from ≡ 0 = omega arith in
    rw (le-ltb from n h, e)

-- and its output stays
pub drives-nothing : (out : List ℕ) (from n byte : ℕ) → n ≤ from → lay out from (replicate (n - from) byte) ≡ out
drives-nothing out from n byte h =
    let e : n - from ≡ 0 = omega arith in
    rw e (lay-none out from)

-- a part to the end is what is left after the first k
pub tail-drop : (k : ℕ) (xs : List ℕ) → take (length xs - k) (drop k xs) ≡ drop k xs
tail-drop k xs = take_all (length xs - k) (drop k xs) (omega (arith, length-drop k xs))

-- ---- what a refusal leaves
-- all of the state where it is not for a protected unit
pub leaves_all : (n : ℕ) (a : Answer) (s : State) → says_protected a ≡ false → refusal_leaves n a s ≡ s
unfolding refusal_leaves
leaves_all n a s e = rw (e, and-false (model_of n).latch_falls)

-- and on a model where WEL does not fall
pub leaves-latch : (n : ℕ) (a : Answer) (s : State) → (model_of n).latch_falls ≡ false → refusal_leaves n a s ≡ s
unfolding refusal_leaves
leaves-latch n a s e = rw e

-- where it falls, a protected unit clears it
pub clears-latch : (n : ℕ) (a : Answer) (s : State) → (model_of n).latch_falls ≡ true → says_protected a ≡ true → refusal_leaves n a s ≡ latched s false
unfolding refusal_leaves
clears-latch n a s e p = rw (e, p)
