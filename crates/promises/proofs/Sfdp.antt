-- The statements of `specs/Sfdp.antt`.
use Rattle.std.specs.Prelude.{Err}
use mathlib.Core.Path.{◌≡◌, refl, ap, subst, ◌∙◌}
use mathlib.Core.List.{List, [], ◌∷◌}
use mathlib.Core.Logic.{⊎_elim}
use Prim.Native.Nat.{ℕ, zero, suc, ◌+◌, ◌-◌, ◌≤◌, ◌<◌}
use native.Mathlib.Omega.{arith}
use lib.ListN.{length, get_or}
use borrow.Author.Tests.{eq-eqb, ne_eqb, lt-ltb, lt-leb}
use Rattle.parts.specs.Parts.{part, lay}
use Rattle.parts.proofs.Lay.{part-lay}
use Rattle.sfdp_image.specs.Image.{sfdp_from}
use Rattle.sfdp_image.proofs.Driven.{length_from}
use Rattle.sfdp.specs.Sfdp.{table_refusal, entry_of}
use Rattle.sfdp.proofs.Promises.{hosts-view}
use Rattle.units.specs.Kinds.{sfdp_address}
use Rattle.models.specs.Models.{model_of}
use Rattle.answers.specs.Answers.{Done}
use Rattle.answers.specs.declared.Refusal.TheVariants.{NoCommand, BadLength}
use Rattle.commands.specs.Commands.{decode_of, traits_of, length_ok}
use Rattle.commands.specs.declared.Command.{Command}
use Rattle.commands.specs.declared.Command.TheVariants.{ReadSfdp, Unknown}
use Rattle.commands.proofs.Rows.{least_on}
use Rattle.states.specs.States.{Chip}
use Rattle.states.specs.declared.Record.{Record}
use Rattle.states.specs.declared.State.{State}
use Rattle.ladder.specs.Stages.{said_of, data_of}
use Rattle.counts.specs.Counts.{covered, worn_out}
use Rattle.effects.specs.Effects.{Effect, drives, shown, read_sfdp}
use Rattle.chip.specs.Frames.{Sent, head_for, head_of, accepted_of, frame_of}
use Rattle.chip.proofs.Cases.{refusal}
use Rattle.calls.proofs.Steps.{taken, stopped_by, refused-frame}
use Rattle.promises.specs.Withdrawn.{Clear21}
use Rattle.promises.specs.Sfdp.{Begins5A, SfdpTaken, SfdpShort, SfdpUnknown, seen_by, SfdpSeen, HostReads}

-- a frame that begins with 5A has a byte
some : (bytes : List ℕ) → get_or bytes 0 0 ≡ 0x5A → length bytes ≡ 0 → ⊥
some [] e z = let k : ◌≡◌ {A = ℕ} 0 90 = e in omega (arith, k)
some (y ∷ bytes) e z = let k : suc (length bytes) ≡ 0 = z in omega (arith, k)

-- what the byte means
on-2 : (n b : ℕ) → n ≡ 2 → b ≡ 0x5A → decode_of n b ≡ ReadSfdp
unfolding decode_of
on-2 n b e k = rw (e, k)

on-1 : (n b : ℕ) → n ≡ 1 → b ≡ 0x5A → decode_of n b ≡ Unknown
unfolding decode_of
on-1 n b e k = rw (e, k)

on-3 : (n b : ℕ) → n ≡ 3 → b ≡ 0x5A → decode_of n b ≡ Unknown
unfolding decode_of
on-3 n b e k = rw (e, k)

module _ (rec : Record) (x : Chip) (f : Sent) (c : Clear21 rec x f) where
  module _ (b : Begins5A rec f) where
    means : decode_of rec.model (get_or f.bytes 0 0) ≡ ReadSfdp
    means = on-2 rec.model (get_or f.bytes 0 0) b.0 b.1

    said : 5 ≤ length f.bytes → said_of rec x.state (head_of rec x f) ≡ Done
    unfolding said_of head_for traits_of
    said l =
        rw (
          means,
          ne_eqb (length f.bytes) 0 (some f.bytes b.1),
          eq-eqb x.state.settle 0 c.settled,
          eq-eqb x.state.busy 0 c.idle,
          c.awake,
          least_on (traits_of (model_of rec.model).register ReadSfdp) (length f.bytes) f.tail l,
        )

    clear : data_of rec x.state (head_of rec x f) ≡ Done
    unfolding data_of head_for worn_out covered
    clear = rw means

    accepted : 5 ≤ length f.bytes → frame_of rec x f ≡ shown x.page f.wear (read_sfdp x.state f.bytes f.out)
    unfolding head_for accepted_of
    accepted l =
        taken rec x c.bench f c.short c.tail c.roomy c.tabled (said l) clear
        ∙ ap (λ (k : Command). accepted_of rec x k (head_of rec x f).address f.bytes f.wear f.out) means

    short : length f.bytes < 5 → refusal rec x f ≡ Err BadLength
    unfolding said_of head_for traits_of length_ok
    short l =
        stopped_by rec x c.bench f (Err BadLength) refl c.short c.tail c.roomy c.tabled
        (rw (
          means,
          ne_eqb (length f.bytes) 0 (some f.bytes b.1),
          eq-eqb x.state.settle 0 c.settled,
          eq-eqb x.state.busy 0 c.idle,
          c.awake,
          lt-leb 5 (length f.bytes) l,
        ))

  unknown : decode_of rec.model (get_or f.bytes 0 0) ≡ Unknown → get_or f.bytes 0 0 ≡ 0x5A → refusal rec x f ≡ Err NoCommand
  unfolding said_of head_for traits_of
  unknown m e =
      stopped_by rec x c.bench f (Err NoCommand) refl c.short c.tail c.roomy c.tabled
      (rw (m, ne_eqb (length f.bytes) 0 (some f.bytes e), eq-eqb x.state.settle 0 c.settled, eq-eqb x.state.busy 0 c.idle, c.awake))

pub sfdp-taken : SfdpTaken
sfdp-taken rec x f b c l = accepted rec x f c b l

pub sfdp-short : SfdpShort
sfdp-short rec x f b c l = ap (λ (e : Effect). e.reply.answer) (refused-frame rec x f (Err BadLength) (short rec x f c b l) refl)

pub sfdp-unknown : SfdpUnknown
sfdp-unknown rec x f m e c =
    let means = ⊎_elim (λ q. on-1 rec.model (get_or f.bytes 0 0) q e) (λ q. on-3 rec.model (get_or f.bytes 0 0) q e) m in
    ap (λ (r : Effect). r.reply.answer) (refused-frame rec x f (Err NoCommand) (unknown rec x f c means e) refl)

-- ---- the bytes that a host sees
seen-from : (s : State) (bytes page wear out : List ℕ) (n : ℕ) → length bytes ≡ 5 + n → length bytes ≤ length out
    → seen_by (shown page wear (read_sfdp s bytes out)) ≡ sfdp_from (sfdp_address (get_or bytes 1 0) (get_or bytes 2 0) (get_or bytes 3 0)).0 n
unfolding read_sfdp drives
seen-from s bytes page wear out zero l r = let m : length bytes - 5 ≡ 0 = omega arith in rw m
seen-from s bytes page wear out (suc n) l r =
    let m : length bytes - 5 ≡ suc n = omega arith in
    let a = (sfdp_address (get_or bytes 1 0) (get_or bytes 2 0) (get_or bytes 3 0)).0 in
    let ys = sfdp_from a (suc n) in
    rw (lt-ltb 5 (length bytes) (omega arith), m) (subst (λ (k : ℕ). part (lay out 5 ys) 5 k ≡ ys) (length_from a (suc n)) (part-lay out 5 ys (omega arith)))

pub sfdp-seen : SfdpSeen
sfdp-seen rec x f n b c l = ap seen_by (accepted rec x f c b (omega arith)) ∙ seen-from x.state f.bytes x.page f.wear f.out n l c.roomy

from-0 : (a b c : ℕ) → (a ≡ 0) × (b ≡ 0) × (c ≡ 0) → (sfdp_address a b c).0 ≡ 0
from-0 a b c z = omega (arith, z.0, z.1, z.2)

pub host-reads : HostReads
unfolding read_sfdp drives
host-reads rec x f n b c l m z =
    let k : seen_by (frame_of rec x f) ≡ sfdp_from 0 n = sfdp-seen rec x f n b c l ∙ ap (λ (a : ℕ). sfdp_from a n) (from-0 (get_or f.bytes 1 0) (get_or f.bytes 2 0) (get_or f.bytes 3 0) z) in
    let v = hosts-view n m in
    record {
      answer = ap (λ (e : Effect). e.reply.answer) (accepted rec x f c b (omega arith));
      taken = ap table_refusal k ∙ v.0;
      same = ap entry_of k ∙ v.1;
    }
