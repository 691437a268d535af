-- `fold::fold_in` meets its contract: one straight run, or two.
use mathlib.Core.Path.{sym}
use Prim.Native.Nat.{◌-◌, ◌+◌}
use native.Mathlib.Omega.{arith}
use borrow.Author.Rules.{rules}
use lib.ListN.{length}
use borrow.Author.Tests.{lt-ltb, le-ltb}
use Rattle.fold.specs.Fold.{folds}
use Rattle.fold.proofs.Fold.{one-back, two_back}
use Rattle.fold.proofs.fold_in.Goals as goal

pub returns-then-n-room : goal.returns-then-n-room
unfolding folds
returns-then-n-room c =
    (one-back c.args.offset c.args.sent.now c.args.page.now _ c.requires.0 (record { below = λ i. search rules }) (omega arith) c.and_into.ensures, sym (le-ltb 256 (c.args.offset + length c.args.sent.now) (omega arith)))

pub returns-else-n-room : goal.returns-else-n-room
unfolding folds
returns-else-n-room c =
    let room = 256 - c.args.offset in
    (two_back c.args.offset room (length c.args.sent.now - room) c.args.sent.now c.args.page.now _ _ c.requires.0 (record { below = λ i. search rules }) (omega arith) (omega arith) (omega arith) c.and_into-else-n-room.ensures c.and_into-else-n-room-2.ensures, sym (lt-ltb 256 (c.args.offset + length c.args.sent.now) (omega arith)))
