-- Bytes moved to the front of their buffer. No contract cites this file.
use Rattle.std.proofs.Common.{◌≡◌, ℕ, ◌+◌, ◌-◌, ◌≤◌, List, ◌++◌, length, drop, sym, refl, ap, ◌∙◌, arith}
use Rattle.std.specs.List.{copy_within}
use Rattle.parts.specs.Parts.{part, lay}
use Rattle.parts.proofs.Lay.{length_part}
use Rattle.rewrite_blocks.specs.Blocks.{MovedDown}

pub moved-down : (out : List ℕ) (at end : ℕ) {out' : List ℕ} → at ≤ end → end ≤ length out → out' ≡ copy_within out at end 0 → MovedDown out at end (end - at) out'
unfolding lay
moved-down out at end l m e =
    let n : length (part out at (end - at)) ≡ end - at = length_part out at (end - at) (omega arith) in
    record { count = refl; is = e ∙ ap (λ (k : ℕ). part out at (end - at) ++ drop (0 + k) out) (sym n) }
