-- What holds of an accepted frame and of a refused one holds of every frame.
use mathlib.Core.Path.{◌≡◌, refl, subst, ap, ◌∙◌}
use mathlib.Core.Bool.{Bool, true, false, cond}
use Prim.Native.Nat.{◌+◌, ◌≤◌}
use native.Mathlib.Omega.{arith}
use lib.ListN.{length}
use Rattle.answers.specs.Answers.{Answer, is_done}
use Rattle.states.specs.declared.Record.{Record}
use Rattle.ladder.specs.Ladder.{refusal_of}
use Rattle.ladder.specs.declared.Head.{Head}
use Rattle.ladder.proofs.Passed.{passed, stopped}
use Rattle.effects.specs.Effects.{Effect, refusal_leaves}
use Rattle.chip.specs.Frames.{Sent, head_for, head_of, accepted_of, refused_of, frame_of, worn_by, over_by}
use Rattle.chip.specs.ContractForms.{Ready}
use Rattle.chip.specs.Driven.{driven_bytes, fold_of}
use Rattle.models.specs.Models.{model_of}
use Rattle.commands.specs.Commands.{traits_of, length_ok, operation_of}
use Rattle.commands.specs.declared.Command.{Command}
use Rattle.commands.proofs.Rows.{write-length}
use Rattle.states.specs.States.{Chip}
use Rattle.chip.proofs.Ready.{arrived}
use Rattle.chip.proofs.Sorts.{Asked, Move, Kind, kind, leaves, within, is-done, table-after}
use Rattle.counts.specs.Counts.{covered, counted, InTable, total_of}
use Rattle.counts.proofs.Laws.{in_table, total-counted}

module _ (rec : Record) (x : Chip) (f : Sent) where
  abbrev pub head : Head
  head = head_of rec x f

  abbrev pub refusal : Answer
  refusal = refusal_of rec x.state head

  abbrev pub accepted : Effect
  accepted = accepted_of rec x head.command head.address f.bytes f.wear f.out

  pub frame-cases : (P : Effect → Type 0) → (is_done refusal ≡ true → P accepted) → (is_done refusal ≡ false → P (refused_of rec refusal x f)) → P (frame_of rec x f)
  unfolding frame_of
  frame-cases P taken stopped = go (is_done refusal) refl
    where
      go : (b : Bool) → is_done refusal ≡ b → P (cond b accepted (refused_of rec refusal x f))
      go true e = taken e
      go false e = stopped e

  -- the sort of an accepted frame, and what the refusals have shown of it
  pub sort : Kind rec x head.command head.address f.bytes f.wear f.out (driven_bytes head.command (length f.bytes)) (fold_of head.command head.address (length f.bytes)) accepted
  sort = kind rec x head.address f.bytes f.wear f.out head.command

  pub shown-ready : is_done refusal ≡ true → Ready rec x head.command head.address f.bytes f.out
  shown-ready e = arrived rec x f (over_by rec.model x.cells f) (worn_by rec.model f.bytes f.wear) (passed rec x.state head e)

  pub shown-asked : is_done refusal ≡ true → Asked rec x.state head.command head.address f.bytes
  unfolding head_for
  shown-asked e =
      let q = passed rec x.state head e in
      let r = shown-ready e in
      record {
        settled = q.settled;
        listens = q.listens;
        awake = q.awake;
        enabled = q.enabled;
        means = refl;
        inside = omega (arith, r.inside, r.whole);
        written = λ c. write-length (model_of rec.model).register (length f.bytes) f.tail q.short (subst (λ (k : Command). length_ok (traits_of (model_of rec.model).register k) (length f.bytes) f.tail ≡ true) c q.fits);
      }

  -- how a refused frame moves the state
  pub refused-moves : Move rec x.state (refusal_leaves rec.model refusal x.state)
  refused-moves = leaves rec x.state refusal (λ e. (stopped rec x.state head e).idle)

  -- what is driven lies in the frame
  pub frame-within : (frame_of rec x f).reply.from + (frame_of rec x f).reply.count ≤ length f.bytes
  frame-within = frame-cases (λ (e : Effect). e.reply.from + e.reply.count ≤ length f.bytes) (λ e. within sort) (λ e. omega arith)

  -- the wear table after any frame
  pub table-frame : (frame_of rec x f).wear ≡ cond (is_done (frame_of rec x f).reply.answer) (counted (operation_of head.command) head.address f.wear) f.wear
  table-frame =
      frame-cases (λ (e : Effect). e.wear ≡ cond (is_done e.reply.answer) (counted (operation_of head.command) head.address f.wear) f.wear)
      (λ d. rw (is-done sort) (table-after rec x head.address f.bytes f.wear f.out head.command)) (λ d. rw d)

  -- an accepted frame covers only sectors of the table
  pub covers : is_done refusal ≡ true → InTable (operation_of head.command) head.address f.wear
  unfolding head_for
  covers e =
      let r = shown-ready e in
      in_table rec.model (operation_of head.command) head.address f.wear (passed rec x.state head e).table (omega (arith, r.inside, r.whole))

  -- the sum after any frame
  pub total-frame : total_of (frame_of rec x f).wear
      ≡ total_of f.wear + cond (is_done (frame_of rec x f).reply.answer) (covered (operation_of head.command) head.address (length f.wear)).count 0
  total-frame =
      frame-cases (λ (e : Effect). total_of e.wear ≡ total_of f.wear + cond (is_done e.reply.answer) (covered (operation_of head.command) head.address (length f.wear)).count 0)
      (λ d. rw (is-done sort) (ap total_of (table-after rec x head.address f.bytes f.wear f.out head.command) ∙ total-counted (operation_of head.command) head.address f.wear (covers d)))
      (λ d. rw d (omega arith))
