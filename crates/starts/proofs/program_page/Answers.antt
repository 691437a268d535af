-- `starts::program_page` meets its contract.
use mathlib.Core.Path.{ap, ◌∙◌}
use mathlib.Core.List.{List}
use Prim.Native.Nat.{ℕ}
use lib.ListN.{length, get_or, drop}
use Rattle.fold.specs.Fold.{folds, page_after}
use Rattle.states.specs.declared.State.{State}
use Rattle.effects.specs.Effects.{folding, starting, program_page}
use Rattle.effects.proofs.Replies.{tail-drop}
use Rattle.starts.proofs.program_page.Goals as goal

pub returns : goal.returns
unfolding program_page
returns c =
    let given = c.args in
    let bytes = given.bytes.now in
    let rest = tail-drop 4 bytes in
    record {
      reply =
          c.taken.ensures
          ∙ ap (λ (s : State). folding s c.program_page-fold.result)
          (c.start.ensures
          ∙ ap (λ (x : ℕ). starting given.st x given.at.0 c.operation_time-time.result) c.byte_at-command.ensures
          ∙ ap (λ (x : ℕ). starting given.st (get_or bytes 0 0) given.at.0 x) c.operation_time-time.ensures)
          ∙ ap (folding _) (c.program_page-fold.ensures.1 ∙ ap (λ (z : List ℕ). folds c.page_offset.result (length z)) rest ∙ ap (λ (p : ℕ). folds p (length (drop 4 bytes))) c.page_offset.ensures);
      page-is = c.program_page-fold.ensures.0 ∙ ap (λ (z : List ℕ). page_after c.page_offset.result z given.page.now) rest ∙ ap (λ (p : ℕ). page_after p (drop 4 bytes) given.page.now) c.page_offset.ensures;
    }
