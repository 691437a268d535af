-- The statements of `specs/Strict.antt`.
use Rattle.std.specs.Prelude.{Option, Some, None, Err, Ok}
use mathlib.Core.Path.{◌≡◌, refl, sym, ap, subst, ◌∙◌}
use mathlib.Core.Bool.{Bool, true, false, not, ◌&&◌, cond, true≢false, false≢true}
use mathlib.Core.List.{List}
use mathlib.Core.Logic.{◌⊎◌, ⊎_elim}
use Prim.Native.Nat.{ℕ, ◌+◌, ◌≤◌, ◌<◌}
use native.Mathlib.Omega.{arith}
use lib.Dec.{eqb}
use lib.ListN.{length, get_or, drop}
use borrow.Author.Tests.{eqb-true, ne_eqb, le-ltb, not-false}
use Rattle.parts.specs.Parts.{Bytes, part}
use Rattle.parts.proofs.Bytes.{bytes_drop, bytes-part}
use Rattle.parts.proofs.Lay.{length_part, part_at}
use Rattle.units.specs.declared.Address.{Address}
use Rattle.units.specs.Kinds.{sector_of, sector_start, page_start, page_offset}
use Rattle.units.proofs.Bools.{only_if}
use Rattle.models.specs.Models.{model_of}
use Rattle.models.proofs.Rules.{units-inside}
use Rattle.fold.specs.Fold.{counts, cell_after, page_after}
use Rattle.fold.specs.Strict.{reached, over_old}
use Rattle.fold.proofs.Fold.{page_after-at}
use Rattle.fold.proofs.Strict.{reads-back, erased-accepts}
use Rattle.flash.specs.Arrays.{sector_erased, programmed}
use Rattle.flash.proofs.Arrays.{part-sector_erased}
use Rattle.answers.specs.Answers.{Answer, Done, number_of, is_done}
use Rattle.answers.specs.declared.Refusal.TheVariants.{NotErased, WornOut}
use Rattle.commands.specs.Commands.{traits_of, started_by, operation_of}
use Rattle.commands.specs.declared.Command.{Command}
use Rattle.commands.specs.declared.Command.TheVariants.{Program}
use Rattle.commands.specs.declared.Operation.{Operation}
use Rattle.commands.specs.declared.Operation.TheVariants.{WritesStatus, Programs, ErasesSector, ErasesHalf, ErasesBlock, ErasesChip}
use Rattle.counts.specs.Counts.{covered, worn_out}
use Rattle.states.specs.States.{page_ok, blank_page, Chip, chip_of}
use Rattle.states.specs.declared.Record.{Record}
use Rattle.states.specs.declared.State.{State}
use Rattle.states.proofs.States.{blank-page, times}
use Rattle.ladder.specs.Ladder.{refusal_of}
use Rattle.ladder.specs.Stages.{given_of, said_of}
use Rattle.ladder.specs.declared.Head.{Head}
use Rattle.ladder.proofs.Stages.{stops-given, stops-said, goes_on, both-pass, data_is}
use Rattle.ladder.proofs.Passed.{passed, erased-spares}
use Rattle.effects.specs.Effects.{Effect, state_only, started, starting, program_page, programs_over, goes_over}
use Rattle.effects.proofs.Replies.{leaves_all}
use Rattle.effects.proofs.Strict.{off, on}
use Rattle.operations.specs.Operations.{page_address, finished_cells, finished}
use Rattle.operations.proofs.Page.{page-done}
use Rattle.time.specs.Time.{wait_of}
use Rattle.chip.specs.Frames.{Sent, head_for, head_of, over_by, worn_by, accepted_of, refused_of, frame_of}
use Rattle.chip.proofs.Sorts.{is-done}
use Rattle.chip.proofs.Cases.{head, refusal, accepted, frame-cases, sort, shown-ready, shown-asked}
use Rattle.calls.specs.Calls.{after, left, Bench}
use Rattle.calls.proofs.Steps.{sends-to, waits-out}
use Rattle.promises.specs.Strict.{under, off_of, on_of, is_over, OffNever, OnRefuses, OnElse, ErasedNever, TakenReadsBack}

-- ---- the answer of a frame
module _ (rec : Record) (x : Chip) (f : Sent) where
  -- what is taken, nothing refuses; and the answer of what is refused is the refusal
  pub taken-passes : is_done (frame_of rec x f).reply.answer ≡ true → is_done (refusal rec x f) ≡ true
  taken-passes = frame-cases rec x f (λ (e : Effect). is_done e.reply.answer ≡ true → is_done (refusal rec x f) ≡ true) (λ d q. d) (λ d q. q)

  no-number : (a : Answer) → is_done a ≡ true → number_of a ≡ 0
  no-number (Ok u) e = refl
  no-number (Err r) e = absurd (false≢true e)

  answered-19 : number_of (frame_of rec x f).reply.answer ≡ 19 → number_of (refusal rec x f) ≡ 19
  answered-19 =
      frame-cases rec x f (λ (e : Effect). number_of e.reply.answer ≡ 19 → number_of (refusal rec x f) ≡ 19)
      (λ d q. let z : number_of (accepted rec x f).reply.answer ≡ 0 = no-number (accepted rec x f).reply.answer (is-done (sort rec x f)) in absurd (omega arith)) (λ d q. q)

  -- 19 is answered only where the frame goes over old data
  pub never : over_by rec.model x.cells f ≡ false → number_of (frame_of rec x f).reply.answer ≡ 19 → ⊥
  unfolding head_for
  never o e = erased-spares rec x.state (head rec x f) o (answered-19 e)

-- off, none does
off-over : (rec : Record) (x : Chip) (f : Sent) → over_by rec.model x.cells (under false f) ≡ false
unfolding head_for
off-over rec x f = off (started_by rec.model (get_or f.bytes 0 0)) (head rec x f).address x.cells f.bytes

pub off-never : OffNever
off-never rec x f = never rec x (under false f) (off-over rec x f)

-- ---- on and off
module _ (rec : Record) (x : Chip) (f : Sent) where
  -- the head of the frame, with whatever is said of the cells
  abbrev saying : Bool → Head
  saying o = head_for rec.model (length x.cells) (length f.wear) (page_ok rec.model x.state x.page) f.bytes f.tail f.wp (length f.out) o (worn_by rec.model f.bytes f.wear)

  refused-by : Bool → Answer
  refused-by o = refusal_of rec x.state (saying o)

  abbrev by : Answer → Effect
  by a = cond (is_done a) (accepted_of rec x (saying false).command (saying false).address f.bytes f.wear f.out) (refused_of rec a x f)

  frame-by : (strict : Bool) → frame_of rec x (under strict f) ≡ by (refused-by (over_by rec.model x.cells (under strict f)))
  unfolding frame_of head_for refused-by
  frame-by strict = refl

  off-by : off_of rec x f ≡ by (refused-by false)
  off-by = frame-by false ∙ ap (λ (o : Bool). by (refused-by o)) (off-over rec x f)

  -- the first rows look at neither setting nor cells
  same-given : given_of rec x.state (saying true) ≡ given_of rec x.state (saying false)
  unfolding given_of head_for
  same-given = refl

  same-said : said_of rec x.state (saying true) ≡ said_of rec x.state (saying false)
  unfolding said_of head_for
  same-said = refl

  -- where they let it pass and the cells speak against it
  refused-19 : is_done (given_of rec x.state (saying false)) ≡ true → is_done (said_of rec x.state (saying false)) ≡ true → refused-by true ≡ Err NotErased
  unfolding head_for refused-by
  refused-19 p q = goes_on rec x.state (saying true) (ap is_done same-given ∙ p) (ap is_done same-said ∙ q) ∙ data_is rec x.state (saying true)

  off-passes : is_done (off_of rec x f).reply.answer ≡ true → is_done (refused-by false) ≡ true
  unfolding refused-by head_for
  off-passes d = ap (λ (o : Bool). is_done (refusal_of rec x.state (saying o))) (sym (off-over rec x f)) ∙ taken-passes rec x (under false f) d

  on-refused : is_done (off_of rec x f).reply.answer ≡ true → is_over rec x f ≡ true → on_of rec x f ≡ state_only (Err NotErased) x.state x.page f.wear f.out
  unfolding refused-by
  on-refused d o =
      let p = both-pass rec x.state (saying false) (off-passes d) in
      frame-by true ∙ ap (λ (b : Bool). by (refused-by b)) o ∙ ap by (refused-19 p.0 p.1) ∙ ap (λ (s : State). state_only (Err NotErased) s x.page f.wear f.out) (leaves_all rec.model (Err NotErased) x.state refl)

  -- a program counts no sector
  unworn : (op : Option Operation) (at to : Address) → goes_over op true at x.cells f.bytes ≡ true → worn_out op to f.wear ≡ false
  unfolding worn_out covered
  unworn None at to e = absurd (false≢true e)
  unworn (Some WritesStatus) at to e = absurd (false≢true e)
  unworn (Some Programs) at to e = refl
  unworn (Some ErasesSector) at to e = absurd (false≢true e)
  unworn (Some ErasesHalf) at to e = absurd (false≢true e)
  unworn (Some ErasesBlock) at to e = absurd (false≢true e)
  unworn (Some ErasesChip) at to e = absurd (false≢true e)

  -- a frame that is refused off is refused on, by the same row
  same-refusal : is_done (refused-by false) ≡ false → is_over rec x f ≡ true → refused-by true ≡ refused-by false
  unfolding refused-by head_for
  same-refusal d o = go (is_done (given_of rec x.state (saying false))) refl (is_done (said_of rec x.state (saying false))) refl
    where
      go : (a : Bool) → is_done (given_of rec x.state (saying false)) ≡ a → (b : Bool) → is_done (said_of rec x.state (saying false)) ≡ b → refusal_of rec x.state (saying true) ≡ refusal_of rec x.state (saying false)
      go false p b q = stops-given rec x.state (saying true) (ap is_done same-given ∙ p) ∙ same-given ∙ sym (stops-given rec x.state (saying false) p)
      go true p false q = stops-said rec x.state (saying true) (ap is_done same-given ∙ p) (ap is_done same-said ∙ q) ∙ same-said ∙ sym (stops-said rec x.state (saying false) p q)
      go true p true q =
          let worn = unworn (started_by rec.model (get_or f.bytes 0 0)) _ (saying false).address o in
          absurd (false≢true (sym d ∙ ap is_done (goes_on rec x.state (saying false) p q ∙ data_is rec x.state (saying false) ∙ ap (λ (w : Bool). cond w (Err WornOut) Done) worn)))

  off-stops : is_done (off_of rec x f).reply.answer ≡ false → is_done (refused-by false) ≡ false
  unfolding head_for
  off-stops d = go (is_done (refused-by false)) refl
    where
      go : (t : Bool) → is_done (refused-by false) ≡ t → t ≡ false
      go false e = refl
      go true e =
          let taken : off_of rec x f ≡ accepted rec x f = off-by ∙ rw e in
          absurd (true≢false (sym (is-done (sort rec x f)) ∙ sym (ap (λ (k : Effect). is_done k.reply.answer) taken) ∙ d))

  on_same : (is_done (off_of rec x f).reply.answer ≡ false) ⊎ (is_over rec x f ≡ false) → on_of rec x f ≡ off_of rec x f
  on_same h = frame-by true ∙ ap by (go (is_over rec x f) refl h) ∙ sym off-by
    where
      go : (o : Bool) → is_over rec x f ≡ o → (is_done (off_of rec x f).reply.answer ≡ false) ⊎ (is_over rec x f ≡ false) → refused-by o ≡ refused-by false
      go false e h = refl
      go true e h = ⊎_elim (λ d. same-refusal (off-stops d) e) (λ n. absurd (true≢false (sym e ∙ n))) h

pub on-refuses : OnRefuses
on-refuses rec x f d o = on-refused rec x f d o

pub on-else : OnElse
on-else rec x f h = on_same rec x f h

-- ---- after an erase
module _ (rec : Record) (x : Chip) (f : Sent) (b : Bytes f.bytes) where
  abbrev aim : Address
  aim = (head_of rec x f).address

  abbrev cleared : List ℕ
  cleared = sector_erased x.cells (sector_of aim)

  erased-under : sector_start (sector_of aim) + 4096 ≤ length x.cells → (op : Option Operation) (strict : Bool) → goes_over op strict aim cleared f.bytes ≡ false
  unfolding programs_over
  erased-under w op false = off op aim cleared f.bytes
  erased-under w None true = refl
  erased-under w (Some WritesStatus) true = refl
  erased-under w (Some Programs) true =
      ap (over_old (page_offset aim) (drop 4 f.bytes)) (part-sector_erased x.cells (sector_of aim) w (page_start aim) 256 (omega arith) (omega arith))
      ∙ erased-accepts (page_offset aim) (drop 4 f.bytes) (bytes_drop 4 b)
  erased-under w (Some ErasesSector) true = refl
  erased-under w (Some ErasesHalf) true = refl
  erased-under w (Some ErasesBlock) true = refl
  erased-under w (Some ErasesChip) true = refl

pub erased-never : ErasedNever
unfolding head_for
erased-never rec x f b w = never rec (chip_of x.state x.page (cleared rec x f b)) f (erased-under rec x f b w (started_by rec.model (get_or f.bytes 0 0)) f.strict)

-- ---- what is taken reads back
module _ (rec : Record) (x : Chip) (f : Sent) (d : is_done (frame_of rec x f).reply.answer ≡ true) (c : (head_of rec x f).command ≡ Program) where
  abbrev at : Address
  at = (head_of rec x f).address

  abbrev sent : List ℕ
  sent = drop 4 f.bytes

  abbrev page : List ℕ
  page = part x.cells (page_start at) 256

  passes : is_done (refusal rec x f) ≡ true
  passes = taken-passes rec x f d

  bench : Bench rec x
  unfolding head_for
  bench = let p = passed rec x.state (head rec x f) passes in record { right = p.right; whole = p.whole; valid = p.valid; page = p.page }

  page-in : page_start at + 256 ≤ length x.cells
  page-in = let r = shown-ready rec x f passes in omega (arith, (units-inside rec.model at (omega (arith, r.inside, r.whole))).page, r.whole)

  -- no other operation runs, so the page data are blank
  idle : x.state.busy ≡ 0
  unfolding traits_of
  idle =
      let busy : Bool = not (eqb x.state.busy 0) in
      eqb-true x.state.busy 0
      (not-false _
      (only_if busy false (subst (λ (k : Command). (busy && not (traits_of (model_of rec.model).register k).while_busy) ≡ false) c (shown-asked rec x f passes).listens) refl))

  -- it starts
  abbrev starts : Effect
  starts = started f.wear f.out (program_page rec x.state x.page at f.bytes)

  taken : frame_of rec x f ≡ starts
  unfolding frame_of accepted_of
  taken = rw passes (ap (λ (k : Command). accepted_of rec x k at f.bytes f.wear f.out) c)

  abbrev begun : Chip
  begun = chip_of (starting x.state (get_or f.bytes 0 0) at.0 rec.page) (page_after (page_offset at) sent blank_page) x.cells

  begins : left x starts ≡ begun
  unfolding program_page
  begins =
      ap (λ (z : List ℕ). chip_of (starting x.state (get_or f.bytes 0 0) at.0 rec.page) (page_after (page_offset at) sent z) x.cells)
      (blank-page rec.model x.state x.page bench.page idle)

  begun-bench : Bench rec begun
  unfolding program_page
  begun-bench = subst (Bench rec) begins (sends-to rec x bench f starts taken refl).bench

  -- and ends
  ended : (us : ℕ) → rec.page ≤ us → (wait_of rec begun us).chip ≡ finished rec.model begun
  unfolding after starting
  ended us l =
      let some = (times rec bench.right).page in
      (waits-out rec begun begun-bench us (rw (ne_eqb rec.page 0 (λ z. omega arith), le-ltb us rec.page l))).leads

  done-cells : (finished rec.model begun).cells ≡ programmed x.cells (page_address at) (page_after (page_offset at) sent blank_page)
  unfolding finished starting head_for
  done-cells = ap (λ (k : Command). finished_cells (operation_of k) at (page_after (page_offset at) sent blank_page) x.cells) c

  -- it went over no old data
  fresh : f.strict ≡ true → over_old (page_offset at) sent page ≡ false
  unfolding head_for
  fresh t =
      sym (on at x.cells f.bytes)
      ∙ ap (λ (b : Bool). programs_over b at x.cells f.bytes) (sym t)
      ∙ ap (λ (k : Command). goes_over (operation_of k) f.strict at x.cells f.bytes) (sym c)
      ∙ (passed rec x.state (head rec x f) passes).fresh

  held : (k : ℕ) → f.strict ≡ true → Bytes x.cells → k < 256
      → cell_after (page_offset at) sent k (get_or x.cells (page_start at + k) 0)
      ≡ cond (reached (page_offset at) (length sent) k) (counts (page_offset at) sent (length sent) k) (get_or x.cells (page_start at + k) 0)
  held k t b l =
      let n : k < length page = omega (arith, length_part x.cells (page_start at) 256 page-in) in
      let old = part_at x.cells (page_start at) 256 k l in
      ap (cell_after (page_offset at) sent k) (sym old)
      ∙ sym (page_after-at (page_offset at) sent page k n)
      ∙ reads-back (page_offset at) sent page k (bytes-part (page_start at) 256 b) (fresh t) n
      ∙ ap (cond (reached (page_offset at) (length sent) k) (counts (page_offset at) sent (length sent) k)) old

pub taken-reads-back : TakenReadsBack
taken-reads-back rec x f us k t d c b s w l =
    let y = ap (left x) (taken rec x f d c) ∙ begins rec x f d c in
    ap (λ (z : Chip). get_or (wait_of rec z us).chip.cells (page_start (at rec x f d c) + k) 0) y
    ∙ ap (λ (z : Chip). get_or z.cells (page_start (at rec x f d c) + k) 0) (ended rec x f d c us w)
    ∙ ap (λ (z : List ℕ). get_or z (page_start (at rec x f d c) + k) 0) (done-cells rec x f d c)
    ∙ page-done x.cells (at rec x f d c) (drop 4 f.bytes) k (page-in rec x f d c) (bytes_drop 4 s) l
    ∙ held rec x f d c k t b l
