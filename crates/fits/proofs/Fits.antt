-- What a call that may move the state shows of it, and that the state and the page data after fit their bytes.
use Rattle.std.specs.Prelude.{Option, Some, None}
use mathlib.Core.Path.{◌≡◌, refl, sym, ◌∙◌}
use mathlib.Core.Bool.{Bool, true, false, ◌||◌, cond, or-false, true≢false}
use mathlib.Core.List.{List, ◌++◌}
use Prim.Native.Nat.{ℕ, ◌^◌, ◌≤◌, ◌<◌}
use native.Mathlib.Omega.{arith}
use lib.Dec.{eqb, ltb}
use lib.ListN.{length}
use Rattle.units.proofs.Bools.{neither}
use Rattle.models.proofs.Rules.{highest-bp}
use Rattle.answers.specs.Answers.{Answer, is_done, says_protected}
use Rattle.commands.specs.declared.Operation.{Operation}
use Rattle.commands.specs.declared.Operation.TheVariants.{WritesStatus, Programs, ErasesSector, ErasesHalf, ErasesBlock, ErasesChip}
use Rattle.states.specs.States.{record_ok, longest_settle, operation_time, state_ok, page_ok, Chip, chip_of}
use Rattle.states.specs.declared.Record.{Record}
use Rattle.states.specs.declared.State.{State}
use Rattle.states.proofs.States.{operation-le, page-length, blank-page, longest-in-range, busy-le-all, settle-le-all}
use Rattle.ladder.proofs.Passed.{passed, Stopped, stopped}
use Rattle.effects.specs.Effects.{latched, dozing, starting, refusal_leaves, Effect}
use Rattle.effects.proofs.Replies.{leaves_all}
use Rattle.operations.specs.Operations.{runs, written, finished_bits, forgotten, finished, cut_bits, torn_chip}
use Rattle.operations.proofs.Kept.{written-level, torn-level}
use Rattle.chip.specs.Frames.{Sent, head_for, head_of, refused_of, frame_of}
use Rattle.chip.proofs.Cases.{refusal, accepted, frame-cases, sort, shown-asked, refused-moves}
use Rattle.chip.proofs.Sorts.{Move, stays, latches, dozes, Begun, Turn, moved, begun, is-done, moves}
use Rattle.time.specs.Time.{later, waited, cycled, cut_off, chip_rows, chip_refusal, power_rows, power_refusal, pattern_rows, cut_refusal, wait_of, power_of, power_cut_of}
use Rattle.time.proofs.Time.{Fit, chip-fits, cuttable, cyclable}
use Rattle.answers.proofs.Tables.{spared}
use Rattle.fits.specs.Fits.{may_move}
use Rattle.packing.proofs.Packing.{Small}
use Rattle.packing.proofs.Valid.{place-near, valid-small}

-- ---- what a call leaves: where it may move the state, the one before was valid, and what is after fits the bytes; otherwise all is as it was
pub record Keeps (rec : Record) (x : Chip) (a : Answer) (next : State) (page : List ℕ) : Type 0 where
  pub valid : may_move a ≡ true → state_ok rec x.state ≡ true
  pub small : may_move a ≡ true → Small next
  pub long : may_move a ≡ true → length page ≡ 256
  pub same-state : may_move a ≡ false → next ≡ x.state
  pub same-page : may_move a ≡ false → page ≡ x.page

-- ---- frames
-- however one moves the state, it fits its bytes
module _ (rec : Record) (x : Chip) (ok : record_ok rec ≡ true) (h : Small x.state) (fit : page_ok rec.model x.state x.page ≡ true) where
  busy-for : (op : Option Operation) → operation_time rec op < 2 ^ 32
  busy-for op = omega (arith, operation-le rec op, busy-le-all rec, (longest-in-range rec ok).short)

  settles-for : (us : ℕ) → us ≤ longest_settle rec → us < 2 ^ 32
  settles-for us l = omega (arith, settle-le-all rec, (longest-in-range rec ok).short)

  move-small : {t : State} → Move rec x.state t → Small t
  unfolding latched dozing
  move-small stays = h
  move-small (latches b z) = record { level = h.level; short = h.short; brief = h.brief; near = h.near }
  move-small (dozes b us z l) = record { level = h.level; short = h.short; brief = settles-for us l; near = h.near }

  begun-small : {op : Option Operation} {t : State} {page : List ℕ} → Begun rec x op t page → Small t
  unfolding starting
  begun-small {op} b =
      rw b.is (record { level = h.level; short = busy-for op; brief = h.brief; near = place-near rec.model op b.place b.placed })

  turn-fits : {t : State} {page : List ℕ} → Turn rec x t page → Small t × (length page ≡ 256)
  turn-fits (moved m) = (move-small m, page-length rec.model x.state x.page fit)
  turn-fits (begun op b) = (begun-small b, (b.page-fits (blank-page rec.model x.state x.page fit b.idle-before)).0)

module _ (rec : Record) (x : Chip) (f : Sent) where
  head-page : (head_of rec x f).page ≡ true → page_ok rec.model x.state x.page ≡ true
  unfolding head_for
  head-page e = e

  pub frame-keeps : Keeps rec x (frame_of rec x f).reply.answer (frame_of rec x f).reply.state (frame_of rec x f).page
  frame-keeps = frame-cases rec x f (λ (e : Effect). Keeps rec x e.reply.answer e.reply.state e.page) does leaves
    where
      never : may_move (accepted rec x f).reply.answer ≡ false → ⊥
      never n = true≢false (sym (is-done (sort rec x f)) ∙ (neither _ _ n).0)

      does : is_done (refusal rec x f) ≡ true → Keeps rec x (accepted rec x f).reply.answer (accepted rec x f).reply.state (accepted rec x f).page
      does g =
          let p = passed rec x.state (head_of rec x f) g in
          let t = turn-fits rec x p.right (valid-small rec x.state p.right p.valid) (head-page p.page) (moves (sort rec x f) (shown-asked rec x f g)) in
          record { valid = λ d. p.valid; small = λ d. t.0; long = λ d. t.1; same-state = λ n. absurd (never n); same-page = λ n. absurd (never n) }

      at-17 : is_done (refusal rec x f) ≡ false → may_move (refusal rec x f) ≡ true → Stopped rec x.state (head_of rec x f)
      at-17 g d = stopped rec x.state (head_of rec x f) (rw g at d)

      leaves : is_done (refusal rec x f) ≡ false → Keeps rec x (refusal rec x f) (refusal_leaves rec.model (refusal rec x f) x.state) x.page
      leaves g =
          record {
            valid = λ d. (at-17 g d).valid;
            small = λ d. let p = at-17 g d in move-small rec x p.right (valid-small rec x.state p.right p.valid) (head-page p.page) (refused-moves rec x f);
            long = λ d. page-length rec.model x.state x.page (head-page (at-17 g d).page);
            same-state = λ n. leaves_all rec.model (refusal rec x f) x.state (neither (is_done (refusal rec x f)) (says_protected (refusal rec x f)) n).1;
            same-page = λ n. refl;
          }

  -- what a refusal leaves
  pub refused : is_done (frame_of rec x f).reply.answer ≡ false → frame_of rec x f ≡ refused_of rec (frame_of rec x f).reply.answer x f
  refused = frame-cases rec x f (λ (e : Effect). is_done e.reply.answer ≡ false → e ≡ refused_of rec e.reply.answer x f) (λ g d. absurd (true≢false (sym (is-done (sort rec x f)) ∙ d))) (λ n d. refl)

-- ---- waits, cuts and power cycles
-- none is answered 17
pub chip-spared : (rec : Record) (x : Chip) → says_protected (chip_refusal rec x) ≡ false
unfolding chip_refusal
chip-spared rec x = spared says_protected refl (chip_rows rec x) refl

pub cut-spared : (rec : Record) (x : Chip) (pattern : List ℕ) → says_protected (cut_refusal rec x pattern) ≡ false
unfolding cut_refusal
cut-spared rec x pattern = spared says_protected refl (chip_rows rec x ++ pattern_rows rec x pattern) refl

pub power-spared : (rec : Record) (s : State) (page : List ℕ) → says_protected (power_refusal rec s page) ≡ false
unfolding power_refusal
power-spared rec s page = spared says_protected refl (power_rows rec s page) refl

pub moves-as-done : (a : Answer) → says_protected a ≡ false → may_move a ≡ is_done a
moves-as-done a e = rw e (or-false (is_done a))

-- from what is shown of a call that is taken, and of one that is not
keeps-by : (rec : Record) (x : Chip) (a : Answer) (next : State) (page : List ℕ) → says_protected a ≡ false
    → (is_done a ≡ true → (state_ok rec x.state ≡ true) × (Small next × (length page ≡ 256)))
    → (is_done a ≡ false → (next ≡ x.state) × (page ≡ x.page))
    → Keeps rec x a next page
keeps-by rec x a next page e taken left =
    let m = sym (moves-as-done a e) in
    record { valid = λ d. (taken (m ∙ d)).0; small = λ d. (taken (m ∙ d)).1.0; long = λ d. (taken (m ∙ d)).1.1; same-state = λ n. (left (m ∙ n)).0; same-page = λ n. (left (m ∙ n)).1 }

-- what time and power leave fits
cycled-small : (s : State) → s.bp ≤ 15 → Small (cycled s)
unfolding cycled
cycled-small s l = record { level = l; short = omega arith; brief = omega arith; near = omega arith }

module _ (rec : Record) (x : Chip) (h : Small x.state) where
  finished-bits : (op : Option Operation) → ((finished_bits rec.model op x.state x.page).bp ≤ 15) × ((finished_bits rec.model op x.state x.page).settle < 2 ^ 32)
  unfolding written
  finished-bits None = (h.level, h.brief)
  finished-bits (Some WritesStatus) = (omega (arith, written-level rec.model x.state x.page, highest-bp rec.model), h.brief)
  finished-bits (Some Programs) = (h.level, h.brief)
  finished-bits (Some ErasesSector) = (h.level, h.brief)
  finished-bits (Some ErasesHalf) = (h.level, h.brief)
  finished-bits (Some ErasesBlock) = (h.level, h.brief)
  finished-bits (Some ErasesChip) = (h.level, h.brief)

  finished-small : Small (finished rec.model x).state
  unfolding finished forgotten
  finished-small =
      let k = finished-bits (runs rec.model x.state) in
      record { level = k.0; short = omega arith; brief = k.1; near = omega arith }

  waited-fits : (us : ℕ) → length x.page ≡ 256 → Small (waited rec.model x us).state × (length (waited rec.model x us).page ≡ 256)
  unfolding waited later finished
  waited-fits us n = go (eqb x.state.busy 0 || ltb us x.state.busy)
    where
      go : (b : Bool) → (let y = cond b (chip_of (later x.state us) x.page x.cells) (finished rec.model x) in Small y.state × (length y.page ≡ 256))
      go true = (record { level = h.level; short = omega (arith, h.short); brief = omega (arith, h.brief); near = h.near }, n)
      go false = (finished-small, refl)

  cut-bits : (op : Option Operation) (pattern : List ℕ) → (cut_bits rec.model op x.state x.page pattern).bp ≤ 15
  cut-bits None pattern = h.level
  cut-bits (Some WritesStatus) pattern = omega (arith, torn-level rec.model x.state x.page pattern, highest-bp rec.model)
  cut-bits (Some Programs) pattern = h.level
  cut-bits (Some ErasesSector) pattern = h.level
  cut-bits (Some ErasesHalf) pattern = h.level
  cut-bits (Some ErasesBlock) pattern = h.level
  cut-bits (Some ErasesChip) pattern = h.level

  cut_fits : (pattern : List ℕ) → Small (cut_off rec.model x pattern).state × (length (cut_off rec.model x pattern).page ≡ 256)
  unfolding cut_off torn_chip
  cut_fits pattern = (cycled-small _ (cut-bits (runs rec.model x.state) pattern), refl)

fit_small : (rec : Record) (x : Chip) → Fit rec x → Small x.state
fit_small rec x f = valid-small rec x.state f.right f.valid

pub wait-keeps : (rec : Record) (x : Chip) (us : ℕ) → Keeps rec x (wait_of rec x us).answer (wait_of rec x us).chip.state (wait_of rec x us).chip.page
unfolding wait_of
wait-keeps rec x us =
    keeps-by rec x (chip_refusal rec x) _ _ (chip-spared rec x)
    (λ d. let f = chip-fits rec x d in rw d (f.valid, waited-fits rec x (fit_small rec x f) us (page-length rec.model x.state x.page f.page)))
    (λ n. rw n (refl, refl))

pub cut_keeps : (rec : Record) (x : Chip) (pattern : List ℕ) → Keeps rec x (power_cut_of rec x pattern).answer (power_cut_of rec x pattern).chip.state (power_cut_of rec x pattern).chip.page
unfolding power_cut_of
cut_keeps rec x pattern =
    keeps-by rec x (cut_refusal rec x pattern) _ _ (cut-spared rec x pattern)
    (λ d. let f = (cuttable rec x pattern d).fit in rw d (f.valid, cut_fits rec x (fit_small rec x f) pattern))
    (λ n. rw n (refl, refl))

pub cycle-keeps : (rec : Record) (x : Chip) → Keeps rec x (power_of rec x.state x.page).answer (power_of rec x.state x.page).state x.page
unfolding power_of
cycle-keeps rec x =
    keeps-by rec x (power_refusal rec x.state x.page) _ x.page (power-spared rec x.state x.page)
    (λ d.
    let p = cyclable rec x.state x.page d in
    let h = valid-small rec x.state p.right p.valid in
    rw d (p.valid, (cycled-small x.state h.level, page-length rec.model x.state x.page p.page-data)))
    (λ n. rw n (refl, refl))
