-- The promises of specs/Promises.antt.
use mathlib.Core.Path.{◌≡◌, refl, sym, ap, ◌∙◌}
use mathlib.Core.Bool.{Bool, true, false, ◌&&◌, cond, true≢false}
use mathlib.Core.Logic.{◌⊎◌, inl, inr}
use mathlib.Core.List.{List}
use Prim.Native.Nat.{ℕ}
use native.Mathlib.Omega.{arith}
use borrow.Author.Tests.{eq-eqb, ne_eqb}
use Rattle.units.proofs.Bools.{both}
use Rattle.models.specs.Models.{model_of, is_sectors}
use Rattle.answers.specs.Answers.{number_of}
use Rattle.answers.specs.Answers.{Answer}
use Rattle.states.specs.States.{state_ok, page_ok, chip_of}
use Rattle.states.specs.declared.Record.{Record}
use Rattle.states.specs.declared.State.{State}
use Rattle.effects.specs.Effects.{refusal_leaves}
use Rattle.effects.proofs.Replies.{leaves-latch, clears-latch}
use Rattle.chip.specs.Frames.{Sent, frame_of}
use Rattle.time.specs.Time.{waited, cut_off, chip_refusal, power_refusal, cut_refusal, wait_of, power_of, power_cut_of}
use Rattle.packing.specs.Packing.{packed, page_in, unpack_of}
use Rattle.pod.specs.Calls.{chip_in, kept_of, called, called_of, called_frame, called_wait, called_cut, called_cycle, called_report, reported}
use Rattle.pod.specs.Promises.{NoPacking, FrameRefusesBytes, WaitRefusesBytes, CutRefusesBytes, CycleRefusesBytes, RefusedFrameStays, RefusedFrameClears, RefusedWaitStays, RefusedCutStays, RefusedCycleStays, FrameCarries, WaitCarries, CutCarries, CycleCarries, OneCalled, OneAltered, OneAnswered, OneReported, RefusedReportStays}
use Rattle.packing.proofs.Packing.{page-packed, pack-unpack, unpack-pack}
use Rattle.packing.proofs.Valid.{valid-packing}
use Rattle.fits.specs.Fits.{may_move}
use Rattle.fits.proofs.Fits.{Keeps, frame-keeps, refused, wait-keeps, cut_keeps, cycle-keeps, chip-spared, cut-spared}
use Rattle.pod.proofs.Calls.{not-done, Unfit, unfit-frame, unfit-wait, unfit-cut, unfit-cycle, refused-altered, refused-answered}
use Rattle.counts.specs.Counts.{report_of}
use lib.ListN.{length}

-- ---- what is no packing
unfit : (rec : Record) (xs : List ℕ) → NoPacking rec xs → Unfit rec xs
unfit rec xs n = go (state_ok rec (unpack_of xs) && page_ok rec.model (unpack_of xs) (page_in xs)) refl
  where
    go : (b : Bool) → (state_ok rec (unpack_of xs) && page_ok rec.model (unpack_of xs) (page_in xs)) ≡ b → Unfit rec xs
    go true e =
        let k = both (state_ok rec (unpack_of xs)) (page_ok rec.model (unpack_of xs) (page_in xs)) e in
        absurd (n (unpack_of xs) (page_in xs) k.0 k.1 (sym (pack-unpack xs (valid-packing rec xs k.0))))
    go false e = e

pub frame-refuses-bytes : FrameRefusesBytes
frame-refuses-bytes rec xs cells f n = unfit-frame rec xs cells (unfit rec xs n) f

pub wait-refuses-bytes : WaitRefusesBytes
wait-refuses-bytes rec xs cells us n = unfit-wait rec xs cells (unfit rec xs n) us

pub cut-refuses-bytes : CutRefusesBytes
cut-refuses-bytes rec xs cells pattern n = unfit-cut rec xs cells (unfit rec xs n) pattern

pub cycle-refuses-bytes : CycleRefusesBytes
cycle-refuses-bytes rec xs n = unfit-cycle rec xs (unfit rec xs n)

-- ---- refused calls
module _ (rec : Record) (xs cells : List ℕ) (f : Sent) where
  abbrev a : Answer
  a = (frame_of rec (chip_in xs cells) f).reply.answer

  -- a refused frame drives nothing and leaves the page data
  refused-called : (number_of a ≡ 0 → ⊥)
      → called_frame rec xs cells f ≡ called (number_of a) (kept_of a (refusal_leaves rec.model a (unpack_of xs)) (page_in xs) xs) f.wear f.out 0 0 0
  unfolding called_frame
  refused-called n = ap (called_of xs) (refused rec (chip_in xs cells) f (not-done a n))

  -- the bytes of a state that stays are those given
  stays : (number_of a ≡ 0 → ⊥) → ((model_of rec.model).latch_falls ≡ false) ⊎ (number_of a ≡ 17 → ⊥)
      → kept_of a (refusal_leaves rec.model a (unpack_of xs)) (page_in xs) xs ≡ xs
  unfolding kept_of
  stays n h = go (may_move a) refl h
    where
      go : (b : Bool) → may_move a ≡ b → ((model_of rec.model).latch_falls ≡ false) ⊎ (number_of a ≡ 17 → ⊥)
          → cond b (packed (refusal_leaves rec.model a (unpack_of xs)) (page_in xs)) xs ≡ xs
      go false e k = refl
      go true e (inl k) =
          ap (λ (s : State). packed s (page_in xs)) (leaves-latch rec.model a (unpack_of xs) k)
          ∙ pack-unpack xs (valid-packing rec xs ((frame-keeps rec (chip_in xs cells) f).valid e))
      go true e (inr k) = absurd (true≢false (sym e ∙ rw (not-done a n, ne_eqb (number_of a) 17 k)))

pub refused-frame-stays : RefusedFrameStays
unfolding called_frame
refused-frame-stays rec xs cells f n h =
    refused-called rec xs cells f n ∙ ap (λ (b : List ℕ). called (number_of (a rec xs cells f)) b f.wear f.out 0 0 0) (stays rec xs cells f n h)

pub refused-frame-clears : RefusedFrameClears
unfolding called_frame kept_of
refused-frame-clears rec xs cells f l e =
    let k = eq-eqb (number_of (a rec xs cells f)) 17 e in
    refused-called rec xs cells f (λ z. omega arith)
    ∙ rw (clears-latch rec.model (a rec xs cells f) (unpack_of xs) l k, not-done (a rec xs cells f) (λ z. omega arith), e)

pub refused-wait-stays : RefusedWaitStays
unfolding called_wait wait_of
refused-wait-stays rec xs cells us n =
    let x = chip_in xs cells in
    refused-altered xs cells (chip_refusal rec x) (waited rec.model x us) (chip-spared rec x) (not-done _ n)

pub refused-cut-stays : RefusedCutStays
unfolding called_cut power_cut_of
refused-cut-stays rec xs cells pattern n =
    let x = chip_in xs cells in
    refused-altered xs cells (cut_refusal rec x pattern) (cut_off rec.model x pattern) (cut-spared rec x pattern) (not-done _ n)

pub refused-cycle-stays : RefusedCycleStays
unfolding called_cycle power_of
refused-cycle-stays rec xs n = ap (λ c. c.state) (refused-answered rec xs (not-done _ n))

-- ---- what the next call finds
carried : (rec : Record) (xs cells : List ℕ) (a : Answer) (next : State) (page cells' : List ℕ) → Keeps rec (chip_in xs cells) a next page
    → chip_in (kept_of a next page xs) cells' ≡ chip_of next page cells'
unfolding kept_of
carried rec xs cells a next page cells' k = go (may_move a) refl
  where
    go : (b : Bool) → may_move a ≡ b → chip_in (cond b (packed next page) xs) cells' ≡ chip_of next page cells'
    go true e = rw (unpack-pack next page (k.small e) (k.long e), page-packed next page)
    go false e = rw (k.same-state e, k.same-page e)

pub frame-carries : FrameCarries
unfolding called_frame
frame-carries rec xs cells f = carried rec xs cells _ _ _ cells (frame-keeps rec (chip_in xs cells) f)

pub wait-carries : WaitCarries
unfolding called_wait
wait-carries rec xs cells us = carried rec xs cells _ _ _ _ (wait-keeps rec (chip_in xs cells) us)

pub cut-carries : CutCarries
unfolding called_cut
cut-carries rec xs cells pattern = carried rec xs cells _ _ _ _ (cut_keeps rec (chip_in xs cells) pattern)

pub cycle-carries : CycleCarries
unfolding called_cycle
cycle-carries rec xs cells = carried rec xs cells _ _ _ cells (cycle-keeps rec (chip_in xs cells))

-- ---- no second answer
pub one-called : OneCalled
one-called c n m xs ys wear wear' out out' from from' count count' fold fold' p q =
    rw (p.number_is, p.state-is, p.wear-is, p.out-is, p.from_is, p.count-is, p.fold_is, q.number_is, q.state-is, q.wear-is, q.out-is, q.from_is, q.count-is, q.fold_is)

pub one-altered : OneAltered
one-altered c n m xs ys cells cells' p q = rw (p.number_is, p.state-is, p.cells_are, q.number_is, q.state-is, q.cells_are)

pub one-answered : OneAnswered
one-answered c n m xs ys p q = rw (p.number_is, p.state-is, q.number_is, q.state-is)

pub one-reported : OneReported
one-reported c n m a a' b b' d d' e e' f f' g g' p q =
    rw (p.number_is, p.total-is, p.smallest-is, p.largest-is, p.sector-is, p.mean-is, p.remainder_is, q.number_is, q.total-is, q.smallest-is, q.largest-is, q.sector-is, q.mean-is, q.remainder_is)

pub refused-report-stays : RefusedReportStays
unfolding called_report report_of
refused-report-stays wear a b d e f g = go (is_sectors (length wear)) refl
  where
    go : (t : Bool) → is_sectors (length wear) ≡ t → ((called_report wear a b d e f g).number ≡ 0 → ⊥) → called_report wear a b d e f g ≡ reported 24 a b d e f g
    go true k n = absurd (n (rw k))
    go false k n = rw k
