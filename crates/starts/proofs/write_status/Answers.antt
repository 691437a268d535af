-- `starts::write_status` meets its contract: what was lent to the copy are the first bytes of the page data.
use mathlib.Core.Path.{◌≡◌, ap, ap₂, ◌∙◌}
use mathlib.Core.List.{List, ◌++◌}
use Prim.Native.Nat.{ℕ, ◌+◌, ◌-◌}
use native.Mathlib.Omega.{arith}
use lib.ListN.{length, get_or, drop, length-drop}
use Rattle.parts.specs.Parts.{lay}
use Rattle.answers.specs.Answers.{Done}
use Rattle.effects.specs.Effects.{quiet, starting, write_status}
use Rattle.effects.proofs.Replies.{tail-drop}
use Rattle.starts.proofs.write_status.Goals as goal

pub returns : goal.returns
unfolding write_status lay
returns c =
    let given = c.args in
    let bytes = given.bytes.now in
    let n = length bytes - 1 in
    let size : n ≡ 0 + length (drop 1 bytes) = omega (arith, length-drop 1 bytes) in
    record {
      reply =
          c.quiet.ensures
          ∙ ap (quiet Done)
          (c.start.ensures
          ∙ ap (λ (x : ℕ). starting given.st x n c.operation_time-time.result) c.byte_at.ensures
          ∙ ap (λ (x : ℕ). starting given.st (get_or bytes 0 0) n x) c.operation_time-time.ensures);
      page-is =
          ap₂ (λ (z : List ℕ) (k : ℕ). z ++ drop k given.page.now) (c.copy.ensures ∙ tail-drop 1 bytes) size;
    }
