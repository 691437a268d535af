use mathlib.Core.Path.{ap}
use Prim.Native.Nat.{ℕ, ◌<◌}
use native.Mathlib.Nat.{mod-lt}
use native.Mathlib.Omega.{arith}
use lib.ListN.{length, get_or}
use Rattle.parts.proofs.Loop.{done_more}
use Rattle.rings.proofs.Runs.{step, repeated}
use Rattle.rings.proofs.step_through.Goals as goal

pub loop-byte-preserved : goal.loop-byte-preserved
loop-byte-preserved c =
    let h = c.loop-byte in
    let p = c.args.pattern.now in
    let l : h.byte-index < length c.args.out.now = omega arith in (
      rw c.wrap-k.ensures (mod-lt _ c.requires),
      step h.byte-index h.k (length p) _ h.invariant.1 c.wrap-k.ensures,
      done_more _ _ _ _ _ h.invariant.2 l (ap (λ (n : ℕ). get_or p n 0) h.invariant.1),
    )

pub returns : goal.returns
returns c = repeated _ _ _ _ c.loop-byte.invariant.2 (omega arith)
