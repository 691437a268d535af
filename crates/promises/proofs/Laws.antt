-- The statements of `specs/Laws.antt`.
use Rattle.std.specs.Prelude.{Option, Some, None}
use mathlib.Core.Path.{◌≡◌, refl, sym, ap, ap₂, subst, ◌∙◌}
use mathlib.Core.Bool.{Bool, true, false, not, ◌&&◌, ◌||◌, cond, or-true, true≢false, false≢true}
use mathlib.Core.List.{List}
use mathlib.Core.Logic.{⊎_elim}
use Prim.Native.Nat.{ℕ, ◌+◌, ◌-◌, ◌*◌, ◌/◌, ◌%◌, ◌≤◌, ◌<◌}
use native.Mathlib.Nat.{le_refl}
use native.Mathlib.Omega.{arith}
use lib.Dec.{eqb, ltb}
use lib.ListN.{length, get_or}
use borrow.Author.Tests.{eqb-true, ltb-true, ltb-false, lt-ltb, le-ltb, ne_eqb, eq-eqb, not-true}
use Rattle.units.specs.declared.Address.{Address}
use Rattle.units.specs.Kinds.{page_start, page_offset}
use Rattle.units.proofs.Bools.{both, neither}
use Rattle.models.proofs.Rules.{latch-falls-model}
use Rattle.cells.specs.Cell.{bit, torn}
use Rattle.cells.proofs.Cell.{torn-bit}
use Rattle.fold.specs.Fold.{cell_after}
use Rattle.flash.specs.Arrays.{programmed}
use Rattle.fold.proofs.Counts.{only-falls}
use Rattle.flash.proofs.Arrays.{page-folds, outside-stays}
use Rattle.answers.specs.Answers.{Answer, number_of, is_done, says_protected}
use Rattle.answers.specs.declared.Refusal.TheVariants.{Settling}
use Rattle.answers.proofs.Tables.{by-then}
use Rattle.commands.specs.Commands.{decode_of}
use Rattle.commands.specs.declared.Operation.{Operation}
use Rattle.commands.specs.declared.Operation.TheVariants.{WritesStatus, Programs, ErasesSector, ErasesHalf, ErasesBlock, ErasesChip}
use Rattle.states.specs.States.{tb_of, blank_page, Chip, chip_of}
use Rattle.states.specs.declared.Record.{Record}
use Rattle.states.specs.declared.State.{State}
use Rattle.states.proofs.States.{Sound, sound}
use Rattle.ladder.specs.Ladder.{ladder, asks, refusal_of}
use Rattle.effects.proofs.Replies.{leaves_all, leaves-latch, clears-latch}
use Rattle.effects.specs.declared.Reply.{Reply}
use Rattle.counts.specs.Counts.{counted}
use Rattle.effects.specs.Effects.{Effect, latched, dozing, starting, state_only}
use Rattle.operations.specs.Operations.{runs, runs_at, page_address, config_after, written, finished_bits, finished_cells, forgotten, finished, torn_bits, cut_bits, torn_chip}
use Rattle.operations.proofs.Fits.{inside, page-fits}
use Rattle.operations.proofs.Kept.{config-after-tb, finished-settle}
use Rattle.operations.proofs.Only.{finished-only, cut-only}
use Rattle.operations.proofs.Patterns.{old-cells, new-cells}
use Rattle.time.specs.Time.{later, waited, cycled, cut_off, chip_refusal, power_refusal, cut_refusal, wait_of, power_of, power_cut_of}
use Rattle.time.proofs.Time.{chip-fits, fit-taken, ready, cuttable}
use Rattle.chip.specs.Frames.{head_for, refused_of, Sent, frame_of}
use Rattle.chip.specs.Driven.{driven_bytes, fold_of}
use Rattle.chip.proofs.Sorts.{is-done, notes, counts, moves, Move, stays, latches, dozes, Turn, moved, begun}
use Rattle.chip.proofs.Cases.{head, refusal, frame-cases, sort, shown-asked, refused-moves, table-frame}
use Rattle.calls.specs.Calls.{sends, waits, cycles, cuts, after, Bench}
use Rattle.calls.proofs.Steps.{wait-taken, waits-to, refused-frame}
use Rattle.promises.specs.Laws.{WaitsAdd, RefusedFrame, RefusedWait, RefusedCut, RefusedCycle, OnlyItsUnit, CutsOnlyItsUnit, ProgramFalls, NotBefore, unit_cells, PatternOld, PatternFinished, OneOutcome, OneEffect, OneShown, OneStarted, OneDone, OneCounting, OneLeft, OneEnd, OneCycle, NumberFixed, FoldNoted, RefusalKeeps, RefusalClears, LatchFalls, TbStays, among, settling_numbers, SettlingAnswers, SettlingStays, WearCounted}

-- ---- waits
-- both waits run the time out exactly where their sum does
out-of-time : (busy a b : ℕ) → (eqb busy 0 || ltb a busy) ≡ true → (eqb (busy - a) 0 || ltb b (busy - a)) ≡ (eqb busy 0 || ltb (a + b) busy)
out-of-time busy a b t = go (eqb busy 0) refl (ltb a busy) refl (ltb (a + b) busy) refl t
  where
    go : (x : Bool) → eqb busy 0 ≡ x → (y : Bool) → ltb a busy ≡ y → (z : Bool) → ltb (a + b) busy ≡ z → (x || y) ≡ true
        → (eqb (busy - a) 0 || ltb b (busy - a)) ≡ (x || z)
    go true p y q z r t =
        let n : busy ≡ 0 = eqb-true busy 0 p in
        rw (eq-eqb (busy - a) 0 (omega arith))
    go false p true q true r t =
        let l : a < busy = ltb-true a busy q in
        let m : a + b < busy = ltb-true (a + b) busy r in
        rw (ne_eqb (busy - a) 0 (λ e. omega arith), lt-ltb b (busy - a) (omega arith))
    go false p true q false r t =
        let l : a < busy = ltb-true a busy q in
        let m : busy ≤ a + b = ltb-false (a + b) busy r in
        rw (ne_eqb (busy - a) 0 (λ e. omega arith), le-ltb b (busy - a) (omega arith))
    go false p false q z r t = absurd (false≢true t)

later-adds : (s : State) (a b : ℕ) → later (later s a) b ≡ later s (a + b)
unfolding later
later-adds s a b =
    let e : s.busy - a - b ≡ s.busy - (a + b) = omega arith in
    let k : s.settle - a - b ≡ s.settle - (a + b) = omega arith in
    rw (e, k)

-- a chip that has finished an operation has nothing left to wait for
ended-waits : (rec : Record) (x : Chip) (b : ℕ) → Sound rec x.state → (x.state.busy ≡ 0 → ⊥) → waited rec.model (finished rec.model x) b ≡ finished rec.model x
unfolding waited finished forgotten later
ended-waits rec x b p n =
    let z : (finished_bits rec.model (runs rec.model x.state) x.state x.page).settle ≡ 0 =
    finished-settle rec.model x.state x.page (runs rec.model x.state) ∙ ⊎_elim (λ q. absurd (n q.idle)) (λ q. q.settled) p.mood
    in
    let o : 0 - b ≡ 0 = omega arith in
    rw (z, o)

-- the operation that runs stays the same while its time does not run out
same_end : (rec : Record) (x : Chip) (a : ℕ) → Sound rec x.state → (x.state.busy ≡ 0 → ⊥) → finished rec.model (chip_of (later x.state a) x.page x.cells) ≡ finished rec.model x
unfolding finished forgotten later written config_after
same_end rec x a p n =
    let z : x.state.settle ≡ 0 = ⊎_elim (λ q. absurd (n q.idle)) (λ q. q.settled) p.mood in
    let e : x.state.settle - a ≡ x.state.settle = omega arith in
    bits (runs rec.model x.state) e
  where
    bits : (op : Option Operation) → x.state.settle - a ≡ x.state.settle
        → chip_of (forgotten (finished_bits rec.model op (later x.state a) x.page)) blank_page (finished_cells op (runs_at x.state) x.page x.cells)
        ≡ chip_of (forgotten (finished_bits rec.model op x.state x.page)) blank_page (finished_cells op (runs_at x.state) x.page x.cells)
    bits None e = rw e
    bits (Some WritesStatus) e = rw e
    bits (Some Programs) e = rw e
    bits (Some ErasesSector) e = rw e
    bits (Some ErasesHalf) e = rw e
    bits (Some ErasesBlock) e = rw e
    bits (Some ErasesChip) e = rw e

goes_on : (rec : Record) (x : Chip) (a b : ℕ) → (eqb (x.state.busy - a) 0 || ltb b (x.state.busy - a)) ≡ true
    → waited rec.model (chip_of (later x.state a) x.page x.cells) b ≡ chip_of (later x.state (a + b)) x.page x.cells
unfolding waited later
goes_on rec x a b t = rw t (ap (λ (s : State). chip_of s x.page x.cells) (later-adds x.state a b))

runs-out : (rec : Record) (x : Chip) (a b : ℕ) → Sound rec x.state → (eqb (x.state.busy - a) 0 || ltb b (x.state.busy - a)) ≡ false → (x.state.busy ≡ 0 → ⊥)
    → waited rec.model (chip_of (later x.state a) x.page x.cells) b ≡ finished rec.model x
unfolding waited later
runs-out rec x a b p t n = rw t (same_end rec x a p n)

-- what the first wait has run out the sum does too
both_out : (busy a b : ℕ) → (eqb busy 0 || ltb a busy) ≡ false → (eqb busy 0 || ltb (a + b) busy) ≡ false
both_out busy a b t =
    let k = neither (eqb busy 0) (ltb a busy) t in
    let l : busy ≤ a = ltb-false a busy k.1 in
    rw (k.0, le-ltb (a + b) busy (omega arith))

waited-adds : (rec : Record) (x : Chip) (a b : ℕ) → Sound rec x.state → waited rec.model (waited rec.model x a) b ≡ waited rec.model x (a + b)
unfolding waited
waited-adds rec x a b p = go (eqb x.state.busy 0 || ltb a x.state.busy) refl (eqb x.state.busy 0 || ltb (a + b) x.state.busy) refl
  where
    go : (t : Bool) → (eqb x.state.busy 0 || ltb a x.state.busy) ≡ t → (u : Bool) → (eqb x.state.busy 0 || ltb (a + b) x.state.busy) ≡ u
        → waited rec.model (cond t (chip_of (later x.state a) x.page x.cells) (finished rec.model x)) b ≡ cond u (chip_of (later x.state (a + b)) x.page x.cells) (finished rec.model x)
    go true e true g = goes_on rec x a b (out-of-time x.state.busy a b e ∙ g)
    go true e false g = runs-out rec x a b p (out-of-time x.state.busy a b e ∙ g) (λ z. absurd (false≢true (sym g ∙ rw (eq-eqb x.state.busy 0 z))))
    go false e true g = absurd (false≢true (sym (both_out x.state.busy a b e) ∙ g))
    go false e false g = ended-waits rec x b p (λ z. absurd (false≢true (sym e ∙ rw (eq-eqb x.state.busy 0 z))))

refused-again : (rec : Record) (x : Chip) (b : ℕ) → is_done (chip_refusal rec x) ≡ false → wait_of rec x b ≡ record { answer = chip_refusal rec x; chip = x }
unfolding wait_of
refused-again rec x b e = rw e

taken-again : (rec : Record) (x : Chip) (a b : ℕ) → is_done (chip_refusal rec x) ≡ true
    → wait_of rec (waited rec.model x a) b ≡ record { answer = chip_refusal rec x; chip = waited rec.model x (a + b) }
taken-again rec x a b e =
    let f = chip-fits rec x e in
    let w : Bench rec x = record { right = f.right; whole = f.whole; valid = f.valid; page = f.page } in
    let y = waits-to rec x w a (waited rec.model x a) refl in
    wait-taken rec (waited rec.model x a) b y.bench
    ∙ ap₂ (λ (t : Answer) (c : Chip). record { answer = t; chip = c }) (sym (fit-taken rec x f)) (waited-adds rec x a b (sound rec x.state f.valid))

pub waits-add : WaitsAdd
unfolding wait_of
waits-add rec x a b = go (is_done (chip_refusal rec x)) refl
  where
    go : (t : Bool) → is_done (chip_refusal rec x) ≡ t
        → wait_of rec (cond t (waited rec.model x a) x) b ≡ record { answer = chip_refusal rec x; chip = cond t (waited rec.model x (a + b)) x }
    go false e = refused-again rec x b e
    go true e = taken-again rec x a b e

-- ---- refused calls
pub refused : RefusedFrame
refused rec x f =
    frame-cases rec x f (λ (e : Effect). is_done e.reply.answer ≡ false → e ≡ refused_of rec e.reply.answer x f)
    (λ d q. absurd (true≢false (sym (is-done (sort rec x f)) ∙ q))) (λ d q. refl)

pub refusal-keeps : RefusalKeeps
refusal-keeps rec a s h = ⊎_elim (λ e. leaves-latch rec.model a s e) (λ n. leaves_all rec.model a s (ne_eqb (number_of a) 17 n)) h

pub refusal-clears : RefusalClears
refusal-clears rec a s e n = clears-latch rec.model a s e (eq-eqb (number_of a) 17 n)

pub latch-falls : LatchFalls
latch-falls n = latch-falls-model n

-- what an answer that refuses leaves
kept-chip : (a : Answer) (x y : Chip) → is_done a ≡ false → cond (is_done a) y x ≡ x
kept-chip a x y d = rw d

pub refused-wait : RefusedWait
unfolding wait_of
refused-wait rec x us d = kept-chip (chip_refusal rec x) x (waited rec.model x us) d

pub refused-cut : RefusedCut
unfolding power_cut_of
refused-cut rec x pattern d = kept-chip (cut_refusal rec x pattern) x (cut_off rec.model x pattern) d

pub refused-cycle : RefusedCycle
unfolding power_of
refused-cycle rec s page d = rw d

-- ---- TB
moved-tb : {rec : Record} {s t : State} → Move rec s t → tb_of s ≡ true → tb_of t ≡ true
unfolding tb_of latched dozing
moved-tb stays h = h
moved-tb (latches b z) h = h
moved-tb (dozes b t z l) h = h

turned-tb : {rec : Record} {x : Chip} {t : State} {page : List ℕ} → Turn rec x t page → tb_of x.state ≡ true → tb_of t ≡ true
unfolding tb_of starting
turned-tb (moved m) h = moved-tb m h
turned-tb (begun op b) h = rw b.is h

cycled-tb : (s : State) → tb_of s ≡ true → tb_of (cycled s) ≡ true
unfolding tb_of cycled
cycled-tb s h = let e : s.config / 8 % 2 ≡ 1 = eqb-true (s.config / 8 % 2) 1 h in eq-eqb (s.config / 8 % 2 * 8 / 8 % 2) 1 (omega arith)

finished-tb : (n : ℕ) (s : State) (page : List ℕ) (op : Option Operation) → tb_of s ≡ true → tb_of (forgotten (finished_bits n op s page)) ≡ true
unfolding tb_of forgotten written
finished-tb n s page None h = h
finished-tb n s page (Some WritesStatus) h = config-after-tb n s page h
finished-tb n s page (Some Programs) h = h
finished-tb n s page (Some ErasesSector) h = h
finished-tb n s page (Some ErasesHalf) h = h
finished-tb n s page (Some ErasesBlock) h = h
finished-tb n s page (Some ErasesChip) h = h

-- a cut bit that was 1 and was to be 1 is 1
torn-tb : (n : ℕ) (s : State) (page pattern : List ℕ) → tb_of s ≡ true → tb_of (torn_bits n s page pattern) ≡ true
unfolding tb_of torn_bits written
torn-tb n s page pattern h =
    let new = config_after n s page in
    let o : bit 3 s.config ≡ 1 = eqb-true (s.config / 8 % 2) 1 h in
    let w : bit 3 new ≡ 1 = eqb-true (new / 8 % 2) 1 (config-after-tb n s page h) in
    eq-eqb (torn s.config new (get_or pattern 1 0) / 8 % 2) 1 (torn-bit 3 s.config new (get_or pattern 1 0) ∙ rw (o, w))

cut-tb : (n : ℕ) (s : State) (page pattern : List ℕ) (op : Option Operation) → tb_of s ≡ true → tb_of (cut_bits n op s page pattern) ≡ true
cut-tb n s page pattern None h = h
cut-tb n s page pattern (Some WritesStatus) h = torn-tb n s page pattern h
cut-tb n s page pattern (Some Programs) h = h
cut-tb n s page pattern (Some ErasesSector) h = h
cut-tb n s page pattern (Some ErasesHalf) h = h
cut-tb n s page pattern (Some ErasesBlock) h = h
cut-tb n s page pattern (Some ErasesChip) h = h

pub by : (P : Chip → Type 0) (b : Bool) (x y : Chip) → (b ≡ false → P x) → (b ≡ true → P y) → P (cond b y x)
by P true x y f g = g refl
by P false x y f g = f refl

abbrev Tb : Chip → Type 0
Tb y = tb_of y.state ≡ true

pub tb-stays : TbStays
unfolding after wait_of waited finished power_of power_cut_of cut_off torn_chip later tb_of
tb-stays rec (sends f) x h =
    frame-cases rec x f (λ (e : Effect). tb_of e.reply.state ≡ true)
    (λ d. turned-tb (moves (sort rec x f) (shown-asked rec x f d)) h) (λ d. moved-tb (refused-moves rec x f) h)
tb-stays rec (waits us) x h =
    by Tb (is_done (chip_refusal rec x)) x (waited rec.model x us) (λ d. h)
    (λ d. by Tb (eqb x.state.busy 0 || ltb us x.state.busy) (finished rec.model x) (chip_of (later x.state us) x.page x.cells) (λ t. finished-tb rec.model x.state x.page (runs rec.model x.state) h) (λ t. h))
tb-stays rec cycles x h = go (is_done (power_refusal rec x.state x.page))
  where
    go : (b : Bool) → tb_of (cond b (cycled x.state) x.state) ≡ true
    go true = cycled-tb x.state h
    go false = h
tb-stays rec (cuts pattern) x h =
    by Tb (is_done (cut_refusal rec x pattern)) x (cut_off rec.model x pattern) (λ d. h) (λ d. cycled-tb _ (cut-tb rec.model x.state x.page pattern (runs rec.model x.state) h))

-- ---- units
pub only-its-unit : OnlyItsUnit
unfolding wait_of waited finished
only-its-unit rec x us k o =
    by (λ (y : Chip). get_or y.cells k 0 ≡ get_or x.cells k 0) (is_done (chip_refusal rec x)) x (waited rec.model x us) (λ d. refl)
    (λ d. by (λ (y : Chip). get_or y.cells k 0 ≡ get_or x.cells k 0) (eqb x.state.busy 0 || ltb us x.state.busy) (finished rec.model x) (chip_of (later x.state us) x.page x.cells)
    (λ t. let r = ready rec x (chip-fits rec x d) in (finished-only rec.model (runs_at x.state) x.page x.cells r.whole (runs rec.model x.state) r.placed).rest k o) (λ t. refl))

pub cuts-only-its-unit : CutsOnlyItsUnit
unfolding power_cut_of cut_off torn_chip
cuts-only-its-unit rec x pattern k o =
    by (λ (y : Chip). get_or y.cells k 0 ≡ get_or x.cells k 0) (is_done (cut_refusal rec x pattern)) x (cut_off rec.model x pattern) (λ d. refl)
    (λ d.
    let c = cuttable rec x pattern d in
    let r = ready rec x c.fit in
    (cut-only rec.model (runs_at x.state) x.page x.cells r.whole pattern (runs rec.model x.state) r.placed c.long).rest k o)

pub not-before : NotBefore
unfolding wait_of waited
not-before rec x us l =
    by (λ (y : Chip). y.cells ≡ x.cells) (is_done (chip_refusal rec x)) x (waited rec.model x us) (λ d. refl)
    (λ d. rw (lt-ltb us x.state.busy l, or-true (eqb x.state.busy 0)))

-- ---- programs
falls-in : (cells : List ℕ) (at : Address) (sent : List ℕ) (b k : ℕ) → page_start at + 256 ≤ length cells → bit b (get_or (programmed cells at sent) k 0) ≤ bit b (get_or cells k 0)
falls-in cells at sent b k h = go (ltb k (page_start at)) refl (ltb k (page_start at + 256)) refl
  where
    same : get_or (programmed cells at sent) k 0 ≡ get_or cells k 0 → bit b (get_or (programmed cells at sent) k 0) ≤ bit b (get_or cells k 0)
    same e = rw e (le_refl (bit b (get_or cells k 0)))

    go : (x : Bool) → ltb k (page_start at) ≡ x → (y : Bool) → ltb k (page_start at + 256) ≡ y → bit b (get_or (programmed cells at sent) k 0) ≤ bit b (get_or cells k 0)
    go true p y q =
        let l : k < page_start at = ltb-true k (page_start at) p in
        same (outside-stays cells at sent k h (λ e. omega arith))
    go false p false q =
        let l : page_start at + 256 ≤ k = ltb-false k (page_start at + 256) q in
        same (outside-stays cells at sent k h (λ e. omega arith))
    go false p true q =
        let l : page_start at ≤ k = ltb-false k (page_start at) p in
        let m : k < page_start at + 256 = ltb-true k (page_start at + 256) q in
        let i : page_start at + (k - page_start at) ≡ k = omega arith in
        let e = page-folds cells at sent (k - page_start at) h (omega arith) in
        let f : get_or (programmed cells at sent) k 0 ≡ cell_after (page_offset at) sent (k - page_start at) (get_or cells k 0) =
        subst (λ (n : ℕ). get_or (programmed cells at sent) n 0 ≡ cell_after (page_offset at) sent (k - page_start at) (get_or cells n 0)) i e
        in
        rw f (only-falls b (page_offset at) sent (k - page_start at) (get_or cells k 0))

pub program-falls : ProgramFalls
unfolding wait_of waited finished
program-falls rec x us b k e =
    by Falls (is_done (chip_refusal rec x)) x (waited rec.model x us) (λ d. le_refl (bit b (get_or x.cells k 0)))
    (λ d. by Falls (eqb x.state.busy 0 || ltb us x.state.busy) (finished rec.model x) (chip_of (later x.state us) x.page x.cells) (λ t. ended d) (λ t. le_refl (bit b (get_or x.cells k 0))))
  where
    Falls : Chip → Type 0
    Falls y = bit b (get_or y.cells k 0) ≤ bit b (get_or x.cells k 0)

    ended : is_done (chip_refusal rec x) ≡ true → bit b (get_or (finished_cells (runs rec.model x.state) (runs_at x.state) x.page x.cells) k 0) ≤ bit b (get_or x.cells k 0)
    ended d =
        let r = ready rec x (chip-fits rec x d) in
        let i = inside rec.model (Some Programs) x.state.address x.cells e r.placed r.whole refl in
        rw e (falls-in x.cells (page_address (runs_at x.state)) x.page b k (omega (arith, page-fits rec.model x.cells (runs_at x.state) i r.whole)))

-- ---- patterns
pub pattern-old : PatternOld
unfolding power_cut_of cut_off torn_chip
pattern-old rec x d =
    let c = cuttable rec x (unit_cells rec x x.cells) d in
    let r = ready rec x c.fit in
    rw d (old-cells rec.model (runs_at x.state) x.page x.cells r.whole r.page-data (runs rec.model x.state) r.placed)

pub pattern-finished : PatternFinished
unfolding power_cut_of cut_off torn_chip finished
pattern-finished rec x d =
    let c = cuttable rec x (unit_cells rec x (finished rec.model x).cells) d in
    let r = ready rec x c.fit in
    rw d (new-cells rec.model (runs_at x.state) x.page x.cells r.whole r.page-data (runs rec.model x.state) r.placed)

-- ---- no second answer
pub one-outcome : OneOutcome
one-outcome A a r t p q = p ∙ sym q

pub one-effect : OneEffect
one-effect rec x f r t page page' wear wear' os ps g k = (g.reply ∙ sym k.reply, g.page-is ∙ sym k.page-is, g.wear-is ∙ sym k.wear-is, g.out ∙ sym k.out)

pub one-shown : OneShown
one-shown e r t os ps g k = (g.reply ∙ sym k.reply, g.out ∙ sym k.out)

pub one-started : OneStarted
one-started e r t page page' g k = (g.reply ∙ sym k.reply, g.page-is ∙ sym k.page-is)

pub one-done : OneDone
one-done e r t page page' os ps g k = (g.reply ∙ sym k.reply, g.page-is ∙ sym k.page-is, g.out ∙ sym k.out)

pub one-counting : OneCounting
one-counting op at before r t xs ys g k =
    let e : r ≡ t = g.done-is ∙ sym k.done-is in
    (e, g.table_is ∙ ap (λ (b : Bool). cond b (counted op at before) before) e ∙ sym k.table_is)

pub one_left : OneLeft
one_left x s t page page' xs ys g k = (g.state-is ∙ sym k.state-is, g.page-is ∙ sym k.page-is, g.cells_are ∙ sym k.cells_are)

pub one_end : OneEnd
one_end o r t page page' xs ys g k =
    (g.result-is ∙ sym k.result-is, g.page-is ∙ sym k.page-is, g.cells_are ∙ sym k.cells_are)

pub one-cycle : OneCycle
one-cycle rec s page r t p q = p ∙ sym q

-- ---- a chip that settles
-- an answer that is neither 0 nor 17, one of those numbers
abbrev pub Refuses : List ℕ → Answer → Bool
Refuses ns a = not (is_done a) && (not (says_protected a) && among (number_of a) ns)

-- a frame that is answered so changes nothing
module _ (rec : Record) (x : Chip) (f : Sent) (ns : List ℕ) (r : Refuses ns (refusal rec x f) ≡ true) where
  refuses : (is_done (refusal rec x f) ≡ false) × (says_protected (refusal rec x f) ≡ false) × (among (number_of (refusal rec x f)) ns ≡ true)
  refuses =
      let a = refusal rec x f in
      let k = both (not (is_done a)) (not (says_protected a) && among (number_of a) ns) r in
      let l = both (not (says_protected a)) (among (number_of a) ns) k.1 in
      (not-true _ k.0, not-true _ l.0, l.1)

  left_alone : frame_of rec x f ≡ state_only (refusal rec x f) x.state x.page f.wear f.out
  left_alone = refused-frame rec x f (refusal rec x f) refl refuses.0 ∙ rw (leaves_all rec.model (refusal rec x f) x.state refuses.1)

  pub answers-among : among (number_of (frame_of rec x f).reply.answer) ns ≡ true
  answers-among = rw left_alone refuses.2

  pub stays_all : frame_of rec x f ≡ state_only (frame_of rec x f).reply.answer x.state x.page f.wear f.out
  stays_all = left_alone ∙ ap (λ (e : Effect). state_only e.reply.answer x.state x.page f.wear f.out) (sym left_alone)

-- 22, or a row before it
by-22 : (rec : Record) (x : Chip) (f : Sent) → (x.state.settle ≡ 0 → ⊥) → Refuses settling_numbers (refusal rec x f) ≡ true
unfolding refusal_of head_for
by-22 rec x f settling = by-then (Refuses settling_numbers) Settling (ladder rec x.state (head rec x f) (asks rec (head rec x f))) refl (ap not (ne_eqb x.state.settle 0 settling))

pub settling-answers : SettlingAnswers
settling-answers rec x f z = answers-among rec x f settling_numbers (by-22 rec x f z)

pub settling-stays : SettlingStays
settling-stays rec x f z = stays_all rec x f settling_numbers (by-22 rec x f z)

-- ---- the number of driven bytes
pub number-fixed : NumberFixed
unfolding head_for
number-fixed rec x f r page wear os g d =
    ap (λ (q : Reply). q.count) g.reply
    ∙ frame-cases rec x f (λ (e : Effect). is_done e.reply.answer ≡ true → e.reply.count ≡ driven_bytes (decode_of rec.model (get_or f.bytes 0 0)) (length f.bytes))
    (λ e p. counts (sort rec x f)) (λ e p. absurd (true≢false (sym p ∙ e)))
    (sym (ap (λ (q : Reply). is_done q.answer) g.reply) ∙ d)

-- ---- the note on a fold
pub fold-noted : FoldNoted
fold-noted rec x f =
    frame-cases rec x f (λ (e : Effect). e.reply.fold ≡ (is_done e.reply.answer && fold_of (head rec x f).command (head rec x f).address (length f.bytes)))
    (λ d. let k = sort rec x f in rw (is-done k) (notes k)) (λ d. rw d)

-- ---- the wear table
pub wear-counted : WearCounted
wear-counted rec x f = table-frame rec x f
