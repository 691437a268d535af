-- What specs/Promises.antt states; the sheet's fields are one computed test.
use mathlib.Core.Path.{refl, ap, ◌∙◌}
use Prim.Native.Nat.{ℕ, ◌-◌}
use native.Mathlib.Omega.{arith}
use lib.ListN.{replicate}
use Rattle.sfdp_image.specs.Image.{image}
use Rattle.sfdp_image.specs.Promises.{AsTheSheet, EachByte, PastTheEnd}
use Rattle.sfdp_image.proofs.Driven.{from_at, from-runs}

pub as-the-sheet : AsTheSheet
unfolding image
as-the-sheet = refl

pub each-byte : EachByte
each-byte = from_at

pub past_the_end : PastTheEnd
past_the_end a n l =
    from-runs a n 112 0 (omega arith) (omega arith) ∙ ap (λ (k : ℕ). replicate k 0xFF) {x = n - 0} {y = n} (omega arith)
