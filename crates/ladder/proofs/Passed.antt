-- What a frame that nothing refuses has shown, by name, each row told by its answer: a new row moves only this place.
use mathlib.Core.Path.{◌≡◌, refl, ap, ◌∙◌}
use mathlib.Core.Bool.{Bool, true, false, not, ◌&&◌, cond, false≢true}
use Prim.Native.Nat.{◌≤◌, ◌<◌}
use native.Mathlib.Nat.{pos_of_ne-zero}
use lib.Dec.{eqb}
use Rattle.std.specs.Prelude.{Err}
use borrow.Author.Tests.{eqb-true, eqb-false, ltb-false, not-false}
use Rattle.units.proofs.Bools.{both, neither, only_if}
use Rattle.models.specs.Models.{model_of}
use Rattle.answers.specs.Answers.{Answer, Done, number_of, is_done, says_protected}
use Rattle.commands.specs.Commands.{length_ok}
use Rattle.commands.proofs.Rows.{no-latch, latch-waits}
use Rattle.states.specs.States.{record_ok, state_ok}
use Rattle.states.specs.declared.Record.{Record}
use Rattle.states.specs.declared.State.{State}
use Rattle.answers.specs.declared.Refusal.{Refusal}
use Rattle.answers.specs.declared.Refusal.TheVariants.{BadRecord, BadArray, BadTable, BadState, BadFrame, ShortOut, Empty, Settling, Busy, Asleep, NoCommand, Withdrawn, BadLength, NotEnabled, Locked, Protected, NotErased, WornOut}
use Rattle.answers.proofs.Tables.{test_of, before, row-clear, spared, earlier-clear, row-holds}
use Rattle.ladder.specs.declared.Head.{Head}
use Rattle.ladder.specs.Ladder.{given_rows, said_rows, ladder, asks, guarded, refusal_of}
use Rattle.ladder.specs.Stages.{given_of, said_of, data_of}
use Rattle.ladder.proofs.Stages.{one_table, data_is}

pub record Passed (rec : Record) (s : State) (h : Head) : Type 0 where
  pub right : record_ok rec ≡ true
  pub whole : h.cells ≡ (model_of rec.model).length
  pub table : h.sectors ≡ (model_of rec.model).sectors
  pub valid : state_ok rec s ≡ true
  pub page : h.page ≡ true
  pub short : h.count ≤ 65541
  pub tail : h.tail ≤ 7
  pub roomy : h.count ≤ h.room
  pub some : 0 < h.count
  pub settled : s.settle ≡ 0
  pub listens : (not (eqb s.busy 0) && not (asks rec h).while_busy) ≡ false
  pub awake : (s.asleep && not (asks rec h).while_asleep) ≡ false
  pub known : (asks rec h).known ≡ true
  pub offered : (asks rec h).withdrawn ≡ false
  pub fits : length_ok (asks rec h) h.count h.tail ≡ true
  pub enabled : ((asks rec h).latch && not s.wel) ≡ false
  pub unlocked : ((asks rec h).lock && (s.srwd && not h.wp)) ≡ false
  pub free : guarded rec s (asks rec h) h ≡ false
  pub fresh : h.over ≡ false
  pub spare : h.worn ≡ false

pub passed : (rec : Record) (s : State) (h : Head) → is_done (refusal_of rec s h) ≡ true
    → Passed rec s h
unfolding refusal_of
passed rec s h e =
    let rows = ladder rec s h (asks rec h) in
    let clear : (a : Refusal) → test_of a rows ≡ false = row-clear rows e in
    let long = neither _ _ (clear BadFrame) in
    let ok = both (state_ok rec s) h.page (not-false _ (clear BadState)) in
    record {
      right = not-false _ (clear BadRecord);
      table = eqb-true _ _ (not-false _ (clear BadTable));
      whole = eqb-true _ _ (not-false _ (clear BadArray));
      valid = ok.0;
      page = ok.1;
      short = ltb-false _ _ long.0;
      tail = ltb-false _ _ long.1;
      roomy = ltb-false _ _ (clear ShortOut);
      some = pos_of_ne-zero (eqb-false h.count 0 (clear Empty));
      settled = eqb-true s.settle 0 (not-false _ (clear Settling));
      listens = clear Busy;
      awake = clear Asleep;
      known = not-false _ (clear NoCommand);
      offered = clear Withdrawn;
      fits = not-false _ (clear BadLength);
      enabled = clear NotEnabled;
      unlocked = clear Locked;
      free = clear Protected;
      fresh = clear NotErased;
      spare = clear WornOut;
    }

-- the first rows have shown that the page data fit
pub given-page : (rec : Record) (s : State) (h : Head) → is_done (given_of rec s h) ≡ true → h.page ≡ true
unfolding given_of
given-page rec s h e = (both (state_ok rec s) h.page (not-false _ (row-clear (given_rows rec s h) e BadState))).1

-- and do not answer 17
pub given-spares : (rec : Record) (s : State) (h : Head) → says_protected (given_of rec s h) ≡ false
unfolding given_of
given-spares rec s h = spared says_protected refl (given_rows rec s h) refl

-- ---- what a frame that is answered 17 has shown
pub record Stopped (rec : Record) (s : State) (h : Head) : Type 0 where
  pub right : record_ok rec ≡ true
  pub valid : state_ok rec s ≡ true
  pub page : h.page ≡ true
  pub idle : s.busy ≡ 0
  pub settled : s.settle ≡ 0

-- a command that changes a unit needs WEL, so it is not taken while busy
waits-for : (rec : Record) (s : State) (h : Head) → guarded rec s (asks rec h) h ≡ true → (asks rec h).while_busy ≡ false
waits-for rec s h g = go (asks rec h).latch refl
  where
    go : (b : Bool) → (asks rec h).latch ≡ b → (asks rec h).while_busy ≡ false
    go true e = latch-waits _ h.command e
    go false e = let k = no-latch _ h.command e in absurd (false≢true (rw (k.unit, k.whole) at g))

pub stopped : (rec : Record) (s : State) (h : Head) → says_protected (refusal_of rec s h) ≡ true → Stopped rec s h
unfolding refusal_of
stopped rec s h e =
    let rows = ladder rec s h (asks rec h) in
    let clear : (a : Refusal) → test_of a (before Protected rows) ≡ false = earlier-clear Protected rows e in
    let g : guarded rec s (asks rec h) h ≡ true = row-holds Protected rows refl e in
    let ok = both (state_ok rec s) h.page (not-false _ (clear BadState)) in
    record {
      right = not-false _ (clear BadRecord);
      valid = ok.0;
      page = ok.1;
      idle = eqb-true s.busy 0 (not-false _ (only_if (not (eqb s.busy 0)) _ (clear Busy) (waits-for rec s h g)));
      settled = eqb-true s.settle 0 (not-false _ (clear Settling));
    }

-- ---- 19
abbrev says_not_erased : Answer → Bool
says_not_erased a = eqb (number_of a) 19

-- it is given only where the cells say so
pub erased-spares : (rec : Record) (s : State) (h : Head) → h.over ≡ false → number_of (refusal_of rec s h) ≡ 19 → ⊥
unfolding given_of said_of
erased-spares rec s h o e = eqb-false _ _ (ap says_not_erased (one_table rec s h) ∙ go (is_done (given_of rec s h)) (is_done (said_of rec s h))) e
  where
    last : (w : Bool) → says_not_erased (cond w (Err WornOut) Done) ≡ false
    last true = refl
    last false = refl

    go : (a b : Bool) → says_not_erased (cond a (cond b (data_of rec s h) (said_of rec s h)) (given_of rec s h)) ≡ false
    go true true = rw (data_is rec s h, o) (last h.worn)
    go true false = spared says_not_erased refl (said_rows rec s h (asks rec h)) refl
    go false b = spared says_not_erased refl (given_rows rec s h) refl
