-- The effects of the calls, from what the chip and the packing give.
use Rattle.std.specs.Prelude.{Result, Ok, Err}
use mathlib.Core.Path.{◌≡◌, refl, sym, ap, ◌∙◌}
use mathlib.Core.Bool.{Bool, true, false, not, ◌&&◌, cond, true≢false}
use mathlib.Core.List.{List, [], ◌∷◌, ◌++◌}
use Prim.Native.Nat.{ℕ, ◌≤◌}
use borrow.Author.Tests.{not-true}
use Rattle.time.proofs.Time.{no-chip, cut_parts, told-done, told-refused}
use lib.Dec.{eqb}
use lib.ListN.{length, take, take-append-drop}
use mir.Val.{bool_byte}
use borrow.Rule.Slice.PartMut.{mid_of, put_mid}
use Rattle.answers.specs.Answers.{Answer, Done, number, number_of, is_done, says_protected}
use Rattle.answers.specs.declared.Refusal.{Refusal}
use Rattle.answers.specs.declared.Refusal.TheVariants.{BadState, Busy}
use Rattle.answers.specs.Tables.{Rung, ◌gives◌, first_of}
use Rattle.answers.proofs.Tables.{spared, by-then, joined}
use Rattle.states.specs.States.{flag, record_ok, state_ok, page_ok, Chip, chip_of}
use Rattle.states.specs.declared.Record.{Record}
use Rattle.states.specs.declared.State.{State}
use Rattle.ladder.specs.Ladder.{Loan, absent, sized, call_rows, frame_rows, said_rows, data_rows, asks, refusal_of}
use Rattle.effects.specs.declared.Reply.{Reply}
use Rattle.effects.specs.ContractForms.{Gives}
use Rattle.chip.specs.Frames.{Sent, head_for, head_of, frame_of}
use Rattle.time.specs.Time.{After, waited, cut_off, chip_refusal, power_refusal, cut_refusal, Aftermath, unless, ended, wait_of, power_of, power_cut_of}
use Rattle.time.specs.ContractForms.{Ends}
use Rattle.packing.specs.Packing.{packed, page_in, is_packing, unpack_of}
use Rattle.pod.specs.Calls.{chip_in, bytes_refusal, first_refusal, state_in, kept_of, called, called_frame, altered, altered_of, called_wait, called_cut, answered, called_cycle, Leaves, Alters, Answers, Packs}
use Rattle.packing.proofs.Status.{flag-byte}
use Rattle.packing.proofs.Valid.{invalid}
use Rattle.fits.specs.Fits.{may_move}
use Rattle.fits.proofs.Lent.{page-long, page-lent, page-back, back-page, back-length}
use Rattle.fits.proofs.Fits.{Keeps, frame-keeps, chip-spared, cut-spared, power-spared, wait-keeps, cut_keeps, cycle-keeps}

-- an answer that is not 0 is a refusal
pub not-done : (a : Answer) → (number_of a ≡ 0 → ⊥) → is_done a ≡ false
not-done (Ok u) n = absurd (n refl)
not-done (Err r) n = refl

-- ---- the page data are lent, and what comes back stands in their place
module _ (xs : List ℕ) (n : length xs ≡ 272) where
  lent : (cells : List ℕ) {s : State} → s ≡ unpack_of xs → chip_of s (mid_of 16 256 xs) cells ≡ chip_in xs cells
  lent cells e = rw (e, page-lent xs n)

  -- where a call keeps to its bytes
  module _ (rec : Record) (cells : List ℕ) (a : Answer) (next : State) (page : List ℕ) (k : Keeps rec (chip_in xs cells) a next page) where
    page-size : length page ≡ 256
    page-size = go (may_move a) refl
      where
        go : (b : Bool) → may_move a ≡ b → length page ≡ 256
        go true d = k.long d
        go false d = ap length (k.same-page d) ∙ page-long xs n

    packs : Packs a next (put_mid 16 256 xs page)
    packs = record { room = back-length xs n page page-size; level = λ d. (k.small d).level }

    kept_back : kept_of a next (page_in (put_mid 16 256 xs page)) (put_mid 16 256 xs page) ≡ kept_of a next page xs
    unfolding kept_of
    kept_back = go (may_move a) refl
      where
        go : (b : Bool) → may_move a ≡ b → cond b (packed next (page_in (put_mid 16 256 xs page))) (put_mid 16 256 xs page) ≡ cond b (packed next page) xs
        go true d = ap (packed next) (back-page xs n page)
        go false d = page-back xs n page ∙ ap (λ (ys : List ℕ). take 16 xs ++ ys) (k.same-page d) ∙ take-append-drop 16 xs

-- ---- frames
module _ (rec : Record) (xs cells : List ℕ) (f : Sent) (n : length xs ≡ 272) {s : State} {reply : Reply} {page wear' out' : List ℕ} (se : s ≡ unpack_of xs) (g : Gives (frame_of rec (chip_of s (mid_of 16 256 xs) cells) f) reply page wear' out') where
  given : Gives (frame_of rec (chip_in xs cells) f) reply page wear' out'
  given = rw (lent xs n cells se) at g

  frame-kept : Keeps rec (chip_in xs cells) reply.answer reply.state page
  frame-kept = rw (given.reply, given.page-is) (frame-keeps rec (chip_in xs cells) f)

  pub fits-frame : Packs reply.answer reply.state (put_mid 16 256 xs page)
  fits-frame = packs xs n rec cells reply.answer reply.state page frame-kept

  pub leaves : {m : ℕ} {xs' : List ℕ} → m ≡ number_of reply.answer → xs' ≡ kept_of reply.answer reply.state (page_in (put_mid 16 256 xs page)) (put_mid 16 256 xs page)
      → Leaves (called_frame rec xs cells f) m xs' wear' out' reply.from reply.count (bool_byte reply.fold)
  unfolding called_frame
  leaves e k =
      record {
        number_is = e ∙ ap (λ (x : Reply). number_of x.answer) given.reply;
        state-is = k ∙ kept_back xs n rec cells reply.answer reply.state page frame-kept ∙ rw (given.reply, given.page-is);
        wear-is = given.wear-is;
        out-is = given.out;
        from_is = ap (λ (x : Reply). x.from) given.reply;
        count-is = ap (λ (x : Reply). x.count) given.reply;
        fold_is = flag-byte reply.fold ∙ ap (λ (x : Reply). flag x.fold 1) given.reply;
      }

-- ---- waits, cuts and power cycles
-- where nothing is refused the state after is packed, and where something is, but not by 17, the bytes stay
kept-done : {a : Answer} (next : State) (page xs : List ℕ) → a ≡ Done → kept_of a next page xs ≡ packed next page
unfolding kept_of
kept-done next page xs d = rw d

kept-stays : (a : Answer) (next : State) (page xs : List ℕ) {q : Refusal} → a ≡ Err q → says_protected a ≡ false → kept_of a next page xs ≡ xs
unfolding kept_of
kept-stays a next page xs d e = rw (ap is_done d, e)

module _ (rec : Record) (xs cells : List ℕ) (n : length xs ≡ 272) (o : Aftermath) (p : says_protected o.answer ≡ false) (k : Keeps rec (chip_in xs cells) o.answer o.chip.state o.chip.page) {r : Result State Refusal} {page cells' : List ℕ} (e : Ends o r page cells') where
  kept : Keeps rec (chip_in xs cells) o.answer o.chip.state page
  kept = rw e.page-is k

  fits_after : {next : State} → r ≡ Ok next → (next.bp ≤ 15) × (length (put_mid 16 256 xs page) ≡ 272)
  fits_after i =
      let d = told-done o.answer o.chip.state (sym i ∙ e.result-is) in
      let f = packs xs n rec cells o.answer o.chip.state page kept in
      (rw d.1 (f.level (rw d.0)), f.room)

  alters : {next : State} {xs' : List ℕ} → r ≡ Ok next → xs' ≡ packed next (page_in (put_mid 16 256 xs page)) → Alters (altered_of xs o) 0 xs' cells'
  alters i q =
      let d = told-done o.answer o.chip.state (sym i ∙ e.result-is) in
      record {
        number_is = sym (ap number_of d.0);
        state-is = q ∙ ap (λ (s : State). packed s (page_in (put_mid 16 256 xs page))) d.1 ∙ sym (kept-done o.chip.state _ _ d.0) ∙ kept_back xs n rec cells o.answer o.chip.state page kept ∙ rw e.page-is;
        cells_are = e.cells_are;
      }

  stays-refused : {q : Refusal} → r ≡ Err q → Alters (altered_of xs o) (number q) (put_mid 16 256 xs page) cells'
  stays-refused i =
      let d = told-refused o.answer o.chip.state (sym i ∙ e.result-is) in
      record {
        number_is = sym (ap number_of d);
        state-is = sym (kept-stays o.answer o.chip.state _ _ d p) ∙ kept_back xs n rec cells o.answer o.chip.state page kept ∙ rw e.page-is;
        cells_are = e.cells_are;
      }

module _ (rec : Record) (xs cells : List ℕ) (n : length xs ≡ 272) {s : State} {r : Result State Refusal} {page cells' : List ℕ} (se : s ≡ unpack_of xs) where
  module _ (us : ℕ) (g : Ends (wait_of rec (chip_of s (mid_of 16 256 xs) cells) us) r page cells') where
    ends-wait : Ends (wait_of rec (chip_in xs cells) us) r page cells'
    ends-wait = rw (lent xs n cells se) at g

    wait-spared : says_protected (wait_of rec (chip_in xs cells) us).answer ≡ false
    unfolding wait_of
    wait-spared = chip-spared rec (chip_in xs cells)

    pub fits-wait : {next : State} → r ≡ Ok next → (next.bp ≤ 15) × (length (put_mid 16 256 xs page) ≡ 272)
    fits-wait = fits_after rec xs cells n (wait_of rec (chip_in xs cells) us) wait-spared (wait-keeps rec (chip_in xs cells) us) ends-wait

    pub alters-wait : {next : State} {xs' : List ℕ} → r ≡ Ok next → xs' ≡ packed next (page_in (put_mid 16 256 xs page)) → Alters (called_wait rec xs cells us) 0 xs' cells'
    unfolding called_wait
    alters-wait = alters rec xs cells n (wait_of rec (chip_in xs cells) us) wait-spared (wait-keeps rec (chip_in xs cells) us) ends-wait

    pub refuses-wait : {q : Refusal} → r ≡ Err q → Alters (called_wait rec xs cells us) (number q) (put_mid 16 256 xs page) cells'
    unfolding called_wait
    refuses-wait = stays-refused rec xs cells n (wait_of rec (chip_in xs cells) us) wait-spared (wait-keeps rec (chip_in xs cells) us) ends-wait

  module _ (pattern : List ℕ) (g : Ends (power_cut_of rec (chip_of s (mid_of 16 256 xs) cells) pattern) r page cells') where
    ends-cut : Ends (power_cut_of rec (chip_in xs cells) pattern) r page cells'
    ends-cut = rw (lent xs n cells se) at g

    cut-is-spared : says_protected (power_cut_of rec (chip_in xs cells) pattern).answer ≡ false
    unfolding power_cut_of
    cut-is-spared = cut-spared rec (chip_in xs cells) pattern

    pub fits_cut : {next : State} → r ≡ Ok next → (next.bp ≤ 15) × (length (put_mid 16 256 xs page) ≡ 272)
    fits_cut = fits_after rec xs cells n (power_cut_of rec (chip_in xs cells) pattern) cut-is-spared (cut_keeps rec (chip_in xs cells) pattern) ends-cut

    pub alters-cut : {next : State} {xs' : List ℕ} → r ≡ Ok next → xs' ≡ packed next (page_in (put_mid 16 256 xs page)) → Alters (called_cut rec xs cells pattern) 0 xs' cells'
    unfolding called_cut
    alters-cut = alters rec xs cells n (power_cut_of rec (chip_in xs cells) pattern) cut-is-spared (cut_keeps rec (chip_in xs cells) pattern) ends-cut

    pub refuses-cut : {q : Refusal} → r ≡ Err q → Alters (called_cut rec xs cells pattern) (number q) (put_mid 16 256 xs page) cells'
    unfolding called_cut
    refuses-cut = stays-refused rec xs cells n (power_cut_of rec (chip_in xs cells) pattern) cut-is-spared (cut_keeps rec (chip_in xs cells) pattern) ends-cut

module _ (rec : Record) (xs : List ℕ) (n : length xs ≡ 272) {s : State} {r : Result State Refusal} (se : s ≡ unpack_of xs) (g : r ≡ ended (power_of rec s (mid_of 16 256 xs))) where
  abbrev o : After
  o = power_of rec (unpack_of xs) (page_in xs)

  cycle-is : r ≡ ended o
  cycle-is = rw (se, page-lent xs n) at g

  pub fits-cycle : {next : State} → r ≡ Ok next → (next.bp ≤ 15) × (length xs ≡ 272)
  fits-cycle i = let d = told-done o.answer o.state (sym i ∙ cycle-is) in (rw d.1 (((cycle-keeps rec (chip_in xs [])).small (rw d.0)).level), n)

  pub answers-cycle : {next : State} {xs' : List ℕ} → r ≡ Ok next → xs' ≡ packed next (page_in xs) → Answers (called_cycle rec xs) 0 xs'
  unfolding called_cycle
  answers-cycle i q =
      let d = told-done o.answer o.state (sym i ∙ cycle-is) in
      record { number_is = sym (ap number_of d.0); state-is = q ∙ ap (λ (s : State). packed s (page_in xs)) d.1 ∙ sym (kept-done o.state _ _ d.0) }

  cycle-spared : says_protected o.answer ≡ false
  unfolding power_of
  cycle-spared = power-spared rec (unpack_of xs) (page_in xs)

  pub refuses-cycle : {q : Refusal} → r ≡ Err q → Answers (called_cycle rec xs) (number q) xs
  unfolding called_cycle
  refuses-cycle i =
      let d = told-refused o.answer o.state (sym i ∙ cycle-is) in
      record { number_is = sym (ap number_of d); state-is = sym (kept-stays o.answer o.state _ _ d cycle-spared) }

-- ---- bytes that are refused
-- the state that they spell is not valid, or the page data do not fit it
abbrev pub Unfit : Record → List ℕ → Type 0
Unfit rec xs = (state_ok rec (unpack_of xs) && page_ok rec.model (unpack_of xs) (page_in xs)) ≡ false

no-packing : (rec : Record) (xs : List ℕ) → is_packing xs ≡ false → Unfit rec xs
no-packing rec xs n = rw (invalid rec xs n)

-- a wait or a cut that is refused, and a power cycle
pub refused-altered : (xs cells : List ℕ) (a : Answer) (y : Chip) → says_protected a ≡ false → is_done a ≡ false
    → altered_of xs (unless a (chip_in xs cells) y) ≡ altered (number_of a) xs cells
unfolding kept_of
refused-altered xs cells a y e d = rw (d, e)

pub refused-answered : (rec : Record) (xs : List ℕ) → is_done (power_refusal rec (unpack_of xs) (page_in xs)) ≡ false
    → called_cycle rec xs ≡ answered (number_of (power_refusal rec (unpack_of xs) (page_in xs))) xs
unfolding called_cycle power_of kept_of
refused-answered rec xs d = rw (d, power-spared rec (unpack_of xs) (page_in xs))

-- the row of the state refuses, or one before it
never_done : (rec : Record) (array table : Loan) → is_done (first_of (call_rows rec array table false)) ≡ false
never_done rec array table = not-true _ (by-then (λ (a : Answer). not (is_done a)) BadState (call_rows rec array table false) refl refl)

-- a frame that is refused, but not by 17
refused-called : (rec : Record) (xs cells : List ℕ) (f : Sent) (a : Answer) → refusal_of rec (unpack_of xs) (head_of rec (chip_in xs cells) f) ≡ a → is_done a ≡ false → says_protected a ≡ false
    → called_frame rec xs cells f ≡ called (number_of a) xs f.wear f.out 0 0 0
unfolding called_frame frame_of kept_of
refused-called rec xs cells f a e d p = rw (e, d, d, p)

module _ (rec : Record) (xs cells : List ℕ) (u : Unfit rec xs) where
  unfit-refusal : (f : Sent) → refusal_of rec (unpack_of xs) (head_of rec (chip_in xs cells) f) ≡ first_of (call_rows rec (sized (length cells)) (sized (length f.wear)) false)
  unfolding refusal_of head_for
  unfit-refusal f = rw u

  pub unfit-frame : (f : Sent) → called_frame rec xs cells f ≡ called (bytes_refusal rec (sized (length cells)) (sized (length f.wear))) xs f.wear f.out 0 0 0
  unfit-frame f =
      let table : Loan = sized (length f.wear) in
      refused-called rec xs cells f _ (unfit-refusal f) (never_done rec (sized (length cells)) table) (spared says_protected refl (call_rows rec (sized (length cells)) table false) refl)

  unfit-chip : (number_of (chip_refusal rec (chip_in xs cells)) ≡ bytes_refusal rec (sized (length cells)) absent) × (is_done (chip_refusal rec (chip_in xs cells)) ≡ false)
  unfolding chip_refusal
  unfit-chip = rw u (refl, never_done rec (sized (length cells)) absent)

  unfit-altered : (a : Answer) (y : Chip) → a ≡ chip_refusal rec (chip_in xs cells) → altered_of xs (unless a (chip_in xs cells) y) ≡ altered (bytes_refusal rec (sized (length cells)) absent) xs cells
  unfit-altered a y e =
      refused-altered xs cells a y (ap says_protected e ∙ chip-spared rec (chip_in xs cells)) (ap is_done e ∙ unfit-chip.1)
      ∙ ap (λ (m : ℕ). altered m xs cells) (ap number_of e ∙ unfit-chip.0)

  pub unfit-wait : (us : ℕ) → called_wait rec xs cells us ≡ altered (bytes_refusal rec (sized (length cells)) absent) xs cells
  unfolding called_wait wait_of
  unfit-wait us = unfit-altered (chip_refusal rec (chip_in xs cells)) (waited rec.model (chip_in xs cells) us) refl

  pub unfit-cut : (pattern : List ℕ) → called_cut rec xs cells pattern ≡ altered (bytes_refusal rec (sized (length cells)) absent) xs cells
  unfolding called_cut power_cut_of
  unfit-cut pattern = unfit-altered (cut_refusal rec (chip_in xs cells) pattern) (cut_off rec.model (chip_in xs cells) pattern) (cut_parts rec (chip_in xs cells) pattern ∙ rw unfit-chip.1)

power-row : (rec : Record) (s : State) (page : List ℕ) → (state_ok rec s && page_ok rec.model s page) ≡ false → power_refusal rec s page ≡ first_of (call_rows rec absent absent false)
unfolding power_refusal
power-row rec s page u = rw u

pub unfit-cycle : (rec : Record) (xs : List ℕ) → Unfit rec xs → called_cycle rec xs ≡ answered (bytes_refusal rec absent absent) xs
unfit-cycle rec xs u =
    refused-answered rec xs (ap is_done unfit-power ∙ never_done rec absent absent) ∙ ap (λ (a : Answer). answered (number_of a) xs) unfit-power
  where
    unfit-power : power_refusal rec (unpack_of xs) (page_in xs) ≡ first_of (call_rows rec absent absent false)
    unfit-power = power-row rec (unpack_of xs) (page_in xs) u

-- ---- what is read of the bytes
module _ (rec : Record) (xs : List ℕ) (array table : Loan) where
  -- a state is read of a packing alone
  pub was_read : {s : State} → Ok s ≡ state_in rec xs array table → (is_packing xs ≡ true) × (s ≡ unpack_of xs)
  unfolding state_in
  was_read e =
      let d = told-done (first_refusal rec xs array table) (unpack_of xs) e in
      (go (record_ok rec) (is_packing xs) d.0, d.1)
    where
      go : (a b : Bool) → cond (a && b) Done (first_of (call_rows rec array table false)) ≡ Done → b ≡ true
      go true true f = refl
      go true false f = absurd (true≢false (sym (ap is_done f) ∙ never_done rec array table))
      go false true f = refl
      go false false f = absurd (true≢false (sym (ap is_done f) ∙ never_done rec array table))

  -- what is refused of the bytes, the call refuses: whether the state fits need not be known
  pub not-read : {q : Refusal} → Err q ≡ state_in rec xs array table
      → first_of (call_rows rec array table (state_ok rec (unpack_of xs) && page_ok rec.model (unpack_of xs) (page_in xs))) ≡ Err q
  unfolding state_in
  not-read {q} e = go (record_ok rec) refl (is_packing xs) refl (told-refused (first_refusal rec xs array table) (unpack_of xs) e)
    where
      go : (a : Bool) → record_ok rec ≡ a → (b : Bool) → is_packing xs ≡ b → cond (a && b) Done (first_of (call_rows rec array table false)) ≡ Err q
          → first_of (call_rows rec array table (state_ok rec (unpack_of xs) && page_ok rec.model (unpack_of xs) (page_in xs))) ≡ Err q
      go true r true p f = absurd (true≢false (ap is_done f))
      go true r false p f = rw (no-packing rec xs p) f
      go false r b p f = rw r (rw r at f)

-- one refusal after another table is the first's
first-refuses : (us vs : List Rung) {q : Refusal} → first_of us ≡ Err q → first_of (us ++ vs) ≡ Err q
first-refuses us vs e = joined us vs ∙ rw e

module _ (rec : Record) (xs cells : List ℕ) {q : Refusal} where
  pub unread-frame : (f : Sent) → Err q ≡ state_in rec xs (sized (length cells)) (sized (length f.wear)) → Leaves (called_frame rec xs cells f) (number q) xs f.wear f.out 0 0 0
  unfolding refusal_of head_for
  unread-frame f e =
      let h = head_of rec (chip_in xs cells) f in
      let rows = call_rows rec (sized (length cells)) (sized (length f.wear)) (state_ok rec (unpack_of xs) && page_ok rec.model (unpack_of xs) (page_in xs)) in
      let a : first_of rows ≡ Err q = not-read rec xs (sized (length cells)) (sized (length f.wear)) e in
      let b : refusal_of rec (unpack_of xs) h ≡ Err q = first-refuses (rows ++ frame_rows h) (said_rows rec (unpack_of xs) h (asks rec h) ++ data_rows h) (first-refuses rows (frame_rows h) a) in
      rw (refused-called rec xs cells f (Err q) b refl (sym (ap says_protected a) ∙ spared says_protected refl rows refl)) (record { number_is = refl; state-is = refl; wear-is = refl; out-is = refl; from_is = refl; count-is = refl; fold_is = refl })

  unread-chip : Err q ≡ state_in rec xs (sized (length cells)) absent → chip_refusal rec (chip_in xs cells) ≡ Err q
  unfolding chip_refusal
  unread-chip e = not-read rec xs (sized (length cells)) absent e

  unread-altered : (a : Answer) (y : Chip) → a ≡ Err q → says_protected a ≡ false → Alters (altered_of xs (unless a (chip_in xs cells) y)) (number q) xs cells
  unread-altered a y e p = rw (refused-altered xs cells a y p (ap is_done e), e) (record { number_is = refl; state-is = refl; cells_are = refl })

  pub unread-wait : (us : ℕ) → Err q ≡ state_in rec xs (sized (length cells)) absent → Alters (called_wait rec xs cells us) (number q) xs cells
  unfolding called_wait wait_of
  unread-wait us e = unread-altered (chip_refusal rec (chip_in xs cells)) (waited rec.model (chip_in xs cells) us) (unread-chip e) (chip-spared rec (chip_in xs cells))

  pub unread-cut : (pattern : List ℕ) → Err q ≡ state_in rec xs (sized (length cells)) absent → Alters (called_cut rec xs cells pattern) (number q) xs cells
  unfolding called_cut power_cut_of
  unread-cut pattern e = unread-altered (cut_refusal rec (chip_in xs cells) pattern) (cut_off rec.model (chip_in xs cells) pattern) (no-chip rec (chip_in xs cells) pattern (unread-chip e)) (cut-spared rec (chip_in xs cells) pattern)

pub unread-cycle : (rec : Record) (xs : List ℕ) {q : Refusal} → Err q ≡ state_in rec xs absent absent → Answers (called_cycle rec xs) (number q) xs
unfolding power_refusal
unread-cycle rec xs {q} e =
    let rows = call_rows rec absent absent (state_ok rec (unpack_of xs) && page_ok rec.model (unpack_of xs) (page_in xs)) in
    let a : power_refusal rec (unpack_of xs) (page_in xs) ≡ Err q = first-refuses rows ((not (eqb (unpack_of xs).busy 0) gives Busy) ∷ []) (not-read rec xs absent absent e) in
    rw (refused-answered rec xs (ap is_done a), a) (record { number_is = refl; state-is = refl })
