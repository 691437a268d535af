-- `fold::over_in` meets its contract: one straight run, or two.
use Prim.Native.Nat.{◌-◌}
use native.Mathlib.Omega.{arith}
use lib.ListN.{length}
use Rattle.fold.proofs.Strict.{one_seen, two-seen}
use Rattle.fold.proofs.over_in.Goals as goal

pub returns-then-n-room : goal.returns-then-n-room
returns-then-n-room c =
    one_seen c.args.offset c.args.sent.now c.args.page.now c.holds.result (omega arith) c.requires.0 (omega arith) c.holds.ensures

pub returns : goal.returns
returns c =
    let tail = c.holds-tail in
    let room = 256 - c.args.offset in
    two-seen c.args.offset room (length c.args.sent.now - room) c.args.sent.now c.args.page.now tail.result c.holds-head.result (omega arith) c.requires.0 (omega arith) (omega arith) (omega arith) tail.ensures c.holds-head.ensures
