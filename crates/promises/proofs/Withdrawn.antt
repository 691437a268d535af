-- The statements of `specs/Withdrawn.antt`.
use Rattle.std.specs.Prelude.{Option, Some, None, Err}
use mathlib.Core.Path.{◌≡◌, refl, sym, ap, subst, ◌∙◌}
use mathlib.Core.Bool.{Bool, true, false, not, ◌||◌, true≢false, false≢true}
use mathlib.Core.List.{List, [], ◌∷◌}
use mathlib.Core.Logic.{◌⊎◌, inl, inr, ⊎_elim}
use Prim.Native.Nat.{ℕ, suc, ◌≤◌, ◌<◌}
use native.Mathlib.Omega.{arith}
use lib.Dec.{eqb}
use lib.ListN.{length, get_or}
use borrow.Author.Tests.{eqb-true, eq-eqb, ne_eqb, ltb-false, not-false}
use Rattle.units.proofs.Bools.{both, neither, only_if}
use Rattle.models.specs.Models.{is_model, model_of}
use Rattle.answers.specs.Answers.{Answer, number_of, is_done}
use Rattle.answers.specs.Tables.{Rung}
use Rattle.answers.specs.declared.Refusal.{Refusal}
use Rattle.answers.specs.declared.Refusal.TheVariants.{BadRecord, BadArray, BadTable, BadState, BadFrame, ShortOut, Settling, Busy, Asleep, Withdrawn}
use Rattle.answers.proofs.Tables.{test_of, before, by-then, earlier-clear, row-holds}
use Rattle.commands.specs.Commands.{decode_of, traits_of, operation_of, started_by}
use Rattle.commands.specs.declared.Command.{Command}
use Rattle.commands.specs.declared.Command.TheVariants.{Withdrawn as Command-as-Withdrawn}
use Rattle.commands.specs.declared.Operation.{Operation}
use Rattle.commands.proofs.Rows.{means-withdrawn, only-52}
use Rattle.states.specs.States.{record_ok, state_ok, page_ok, operation_time, Chip}
use Rattle.states.specs.declared.Record.{Record}
use Rattle.states.specs.declared.State.{State}
use Rattle.states.proofs.States.{sound}
use Rattle.ladder.specs.Ladder.{ladder, asks, refusal_of}
use Rattle.ladder.specs.Stages.{said_of}
use Rattle.effects.specs.Effects.{Effect}
use Rattle.time.specs.Time.{chip_refusal, power_refusal, cut_refusal, wait_of, power_of, power_cut_of}
use Rattle.chip.specs.Frames.{Sent, head_for, frame_of}
use Rattle.chip.proofs.Sorts.{is-done}
use Rattle.chip.proofs.Cases.{head, refusal, frame-cases, sort}
use Rattle.calls.proofs.Steps.{stopped_by, refused-frame}
use Rattle.promises.specs.Locked.{SmallChip}
use Rattle.promises.specs.Withdrawn.{Begins52, Clear21, WithdrawnWhen, WithdrawnOnly, withdrawn_numbers, WithdrawnNever, WithdrawnStays, WithdrawnIdle, WithdrawnStored}
use Rattle.promises.proofs.Laws.{Refuses, answers-among, stays_all}

-- ---- models 1 and 2
not-3 : (rec : Record) → SmallChip rec → rec.model ≡ 3 → ⊥
not-3 rec m e = ⊎_elim (λ q. let k : ◌≡◌ {A = ℕ} 1 3 = sym q ∙ e in omega (arith, k)) (λ q. let k : ◌≡◌ {A = ℕ} 2 3 = sym q ∙ e in omega (arith, k)) m

-- a model that is not the third is one of them
small : (n : ℕ) → is_model n ≡ true → (n ≡ 3 → ⊥) → (n ≡ 1) ⊎ (n ≡ 2)
unfolding is_model
small n e m = go (eqb n 1) refl (eqb n 2) refl (rw (ne_eqb n 3 m) at e)
  where
    go : (a : Bool) → eqb n 1 ≡ a → (b : Bool) → eqb n 2 ≡ b → (eqb n 1 || (eqb n 2 || false)) ≡ true → (n ≡ 1) ⊎ (n ≡ 2)
    go true p b q t = inl (eqb-true n 1 p)
    go false p true q t = inr (eqb-true n 2 q)
    go false p false q t = absurd (false≢true (rw (p, q) at t))

-- a frame that begins with 52 has a byte
some : (bytes : List ℕ) → get_or bytes 0 0 ≡ 0x52 → length bytes ≡ 0 → ⊥
some [] e z = let k : ◌≡◌ {A = ℕ} 0 82 = e in omega (arith, k)
some (y ∷ bytes) e z = let k : suc (length bytes) ≡ 0 = z in omega (arith, k)

-- ---- the frame
module _ (rec : Record) (x : Chip) (f : Sent) where
  abbrev rows : List Rung
  rows = ladder rec x.state (head rec x f) (asks rec (head rec x f))

  module _ (b : Begins52 rec f) where
    means : decode_of rec.model (get_or f.bytes 0 0) ≡ Command-as-Withdrawn
    means = ap (decode_of rec.model) b.1 ∙ means-withdrawn rec.model (not-3 rec b.0)

    by-21 : Refuses withdrawn_numbers (refusal rec x f) ≡ true
    unfolding refusal_of head_for traits_of
    by-21 = by-then (Refuses withdrawn_numbers) Withdrawn rows refl (ap (λ (c : Command). (traits_of (model_of rec.model).register c).withdrawn) means)

    says-21 : Clear21 rec x f → refusal rec x f ≡ Err Withdrawn
    unfolding said_of head_for traits_of
    says-21 c =
        stopped_by rec x c.bench f (Err Withdrawn) refl c.short c.tail c.roomy c.tabled
        (rw (means, ne_eqb (length f.bytes) 0 (some f.bytes b.1), eq-eqb x.state.settle 0 c.settled, eq-eqb x.state.busy 0 c.idle, c.awake))

  -- ---- the other way round: what a frame that is answered 21 has shown
  module _ (e : (frame_of rec x f).reply.answer ≡ Err Withdrawn) where
    refused-21 : refusal rec x f ≡ Err Withdrawn
    refused-21 =
        frame-cases rec x f (λ (r : Effect). r.reply.answer ≡ Err Withdrawn → refusal rec x f ≡ Err Withdrawn)
        (λ d q. absurd (true≢false (sym (is-done (sort rec x f)) ∙ ap is_done q))) (λ d q. q) e

    clear : (a : Refusal) → test_of a (before Withdrawn rows) ≡ false
    unfolding refusal_of
    clear = earlier-clear Withdrawn rows (ap (λ (a : Answer). eqb (number_of a) 21) refused-21)

    holds : (asks rec (head rec x f)).withdrawn ≡ true
    unfolding refusal_of
    holds = row-holds Withdrawn rows refl (ap (λ (a : Answer). eqb (number_of a) 21) refused-21)

    begins : Begins52 rec f
    unfolding head_for record_ok
    begins =
        let k = only-52 (model_of rec.model).register rec.model (get_or f.bytes 0 0) holds in
        let r : record_ok rec ≡ true = not-false _ (clear BadRecord) in
        (small rec.model (both (is_model rec.model) _ r).0 k.1, k.0)

    -- it is taken neither while busy nor asleep
    waits : (asks rec (head rec x f)).while_busy ≡ false
    unfolding head_for traits_of
    waits = ap (λ (c : Command). (traits_of (model_of rec.model).register c).while_busy) (means begins)

    sleeps : (asks rec (head rec x f)).while_asleep ≡ false
    unfolding head_for traits_of
    sleeps = ap (λ (c : Command). (traits_of (model_of rec.model).register c).while_asleep) (means begins)

    cleared : Clear21 rec x f
    unfolding head_for
    cleared =
        let long = neither _ _ (clear BadFrame) in
        let ok = both (state_ok rec x.state) (page_ok rec.model x.state x.page) (not-false _ (clear BadState)) in
        record {
          bench = record { right = not-false _ (clear BadRecord); whole = eqb-true _ _ (not-false _ (clear BadArray)); valid = ok.0; page = ok.1 };
          tabled = eqb-true _ _ (not-false _ (clear BadTable));
          short = ltb-false _ _ long.0;
          tail = ltb-false _ _ long.1;
          roomy = ltb-false _ _ (clear ShortOut);
          settled = eqb-true x.state.settle 0 (not-false _ (clear Settling));
          idle = eqb-true x.state.busy 0 (not-false _ (only_if (not (eqb x.state.busy 0)) _ (clear Busy) waits));
          awake = only_if x.state.asleep _ (clear Asleep) sleeps;
        }

pub withdrawn-when : WithdrawnWhen
withdrawn-when rec x f b c = ap (λ (e : Effect). e.reply.answer) (refused-frame rec x f (Err Withdrawn) (says-21 rec x f b c) refl)

pub withdrawn-only : WithdrawnOnly
withdrawn-only rec x f e = (begins rec x f e, cleared rec x f e)

pub withdrawn-never : WithdrawnNever
withdrawn-never rec x f b = answers-among rec x f withdrawn_numbers (by-21 rec x f b)

pub withdrawn-stays : WithdrawnStays
withdrawn-stays rec x f b = stays_all rec x f withdrawn_numbers (by-21 rec x f b)

-- ---- the state
-- it starts no operation, so no time is left of one
none_runs : (rec : Record) (s : State) → SmallChip rec → s.command ≡ 0x52 → state_ok rec s ≡ true → ⊥
none_runs rec s m c e = ⊎_elim (λ q. other (sym c ∙ q.command)) (λ q. over q.busy (subst (λ (op : Option Operation). s.busy ≤ operation_time rec op) starts q.time)) (sound rec s e).mood
  where
    other : ◌≡◌ {A = ℕ} 0x52 0xFF → ⊥
    other z = omega (arith, z)

    over : 0 < s.busy → s.busy ≤ 0 → ⊥
    over p q = omega (arith, p, q)

    starts : started_by rec.model s.command ≡ None
    starts = ap (started_by rec.model) c ∙ ap operation_of (means-withdrawn rec.model (not-3 rec m))

pub withdrawn-idle : WithdrawnIdle
withdrawn-idle rec s m c = go (state_ok rec s) refl
  where
    go : (t : Bool) → state_ok rec s ≡ t → t ≡ false
    go true e = absurd (none_runs rec s m c e)
    go false e = refl

pub withdrawn-stored : WithdrawnStored
unfolding chip_refusal power_refusal cut_refusal wait_of power_of power_cut_of
withdrawn-stored rec x us pattern m c r w =
    let bad = withdrawn-idle rec x.state m c in
    let l = eq-eqb (length x.cells) (model_of rec.model).length w in
    (rw (r, l, bad), rw (r, l, bad), rw (r, bad))
