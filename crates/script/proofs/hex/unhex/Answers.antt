-- `script::hex::unhex` meets its contract: the first k bytes stand.
use mathlib.Core.Path.{◌≡◌, ap, ◌∙◌}
use mathlib.Core.List.{◌++◌}
use Prim.Native.Nat.{ℕ, ◌+◌, ◌*◌, ◌<◌}
use native.Mathlib.Omega.{arith}
use lib.ListN.{length, take, drop, get_or}
use Rattle.script.specs.Hex.{hex_bytes, nibble_of}
use Rattle.script.proofs.HexLaws.{length-hex_bytes, get_or-hex_bytes, front-more, unhexed-count}
use Rattle.script.proofs.hex.unhex.Goals as goal

pub loop-k-preserved : goal.loop-k-preserved
loop-k-preserved c =
    let h = c.loop-k.invariant in
    let s = c.args.digits.now in
    let k = c.loop-k.k in
    let n = length-hex_bytes s in
    let l : k < length (hex_bytes s) = omega arith in (
      h.0,
      h.1,
      front-more (hex_bytes s) c.args.out.now c.loop-k.out k _ h.2 l (omega arith)
          (ap (λ (x : ℕ). x * 16 + c.nibble-in-loop-k.result) c.nibble.ensures.value
          ∙ ap (λ (x : ℕ). nibble_of (get_or s (2 * k) 0) * 16 + x) c.nibble-in-loop-k.ensures.value
          ∙ get_or-hex_bytes s k l),
    )

pub returns : goal.returns
returns c =
    let g = c.args in
    let r = c.min-n.result in
    let k : c.loop-k.k ≡ r = omega arith in
    record {
      count = unhexed-count g.digits.now g.out.now r (omega (arith, c.min-n.ensures));
      is = c.loop-k.invariant.2 ∙ ap (λ (n : ℕ). take n (hex_bytes g.digits.now) ++ drop n g.out.now) k;
      within = omega arith;
    }
