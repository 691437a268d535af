-- Laws of single calls of the model, and how calls compose.
use Rattle.std.specs.Prelude.{Option, Some, None, Err}
use mathlib.Core.Path.{◌≡◌, refl, sym, ap, subst, ◌∙◌}
use mathlib.Core.Bool.{Bool, true, false, ◌&&◌, ◌||◌, and-false, cond}
use mathlib.Core.List.{List, [], ◌∷◌, ◌++◌, append_assoc}
use mathlib.Core.Logic.{⊎_elim}
use Prim.Native.Nat.{ℕ, suc, ◌+◌, ◌≤◌, ◌<◌}
use native.Mathlib.Omega.{arith}
use lib.Dec.{eqb, leb, ltb, lit≤, eqb-suc-zero}
use lib.ListN.{length, get_or, replicate}
use borrow.Author.Tests.{eq-eqb, ne_eqb, le-ltb, leb-true}
use Rattle.units.specs.declared.Address.{Address}
use Rattle.units.specs.declared.Block.{Block}
use Rattle.units.specs.Kinds.{block_of}
use Rattle.models.specs.Models.{model_of, address_of, range_of, is_protected}
use Rattle.models.proofs.Rules.{range_none, half-erase-model}
use Rattle.parts.proofs.Lay.{lay-none}
use Rattle.answers.specs.Answers.{Answer, Done, is_done}
use Rattle.commands.specs.Commands.{decode_of, traits_of, length_ok}
use Rattle.commands.specs.declared.Command.{Command}
use Rattle.commands.specs.declared.Command.TheVariants.{EraseHalf, Read, Program, WriteStatus}
use Rattle.commands.proofs.Rows.{between, least_on, one-byte-write}
use Rattle.states.specs.States.{tb_of, Chip, chip_of}
use Rattle.states.specs.declared.Record.{Record}
use Rattle.answers.specs.declared.Refusal.TheVariants.{Settling, Busy}
use Rattle.states.proofs.States.{sound, valid}
use Rattle.ladder.specs.Ladder.{refusal_of}
use Rattle.ladder.specs.Stages.{given_of, said_of, data_of}
use Rattle.ladder.specs.declared.Head.{Head}
use Rattle.ladder.proofs.Stages.{all_pass, stops-said}
use Rattle.commands.specs.declared.Operation.TheVariants.{ErasesSector, ErasesHalf, ErasesBlock, ErasesChip}
use Rattle.counts.specs.Counts.{covered, worn_out, counted}
use Rattle.effects.specs.Effects.{Effect, state_only, turned, started, shown, drives, latched, dozing, write_enable, write_status, erase_starts, nowhere, program_page, programs_over, read_from, wake, waking_time, sleep}
use Rattle.chip.specs.Frames.{Sent, head_for, head_of, accepted_of, refused_of, frame_of}
use Rattle.time.specs.Time.{Aftermath, later, waited, wait_of}
use Rattle.time.proofs.Time.{Fit, fit-taken}
use Rattle.operations.specs.Operations.{finished}
use Rattle.calls.specs.Calls.{Call, sends, waits, cycles, cuts, ours, left, after, answer, run, answers, tables, Bench, Roomy, Tabled, frame}
use Rattle.calls.proofs.Valid.{call-fine, call_length}

-- a busy chip does not settle
busy-settled : (rec : Record) (x : Chip) → Bench rec x → 0 < x.state.busy → x.state.settle ≡ 0
busy-settled rec x b busy = ⊎_elim (λ z. absurd (omega (arith, z.idle))) (λ q. q.settled) (sound rec x.state b.valid).mood

-- ---- a frame on a bench
module _ (rec : Record) (x : Chip) (b : Bench rec x) (f : Sent) where
  abbrev h : Head
  h = head_of rec x f

  -- the rows of what the call is given ask for a bench, a table, a short enough frame and room
  first-pass : length f.bytes ≤ 65541 → f.tail ≤ 7 → Roomy f → Tabled rec f → given_of rec x.state h ≡ Done
  unfolding given_of head_for
  first-pass l t r k =
      rw (
        b.right,
        eq-eqb (length x.cells) (model_of rec.model).length b.whole,
        eq-eqb (length f.wear) (model_of rec.model).sectors k,
        b.valid,
        b.page,
        le-ltb 65541 (length f.bytes) l,
        le-ltb 7 f.tail t,
        le-ltb (length f.out) (length f.bytes) r,
      )

  -- where the others stop nothing it is accepted
  pub taken : length f.bytes ≤ 65541 → f.tail ≤ 7 → Roomy f → Tabled rec f → said_of rec x.state h ≡ Done → data_of rec x.state h ≡ Done
      → frame_of rec x f ≡ accepted_of rec x h.command h.address f.bytes f.wear f.out
  unfolding frame_of
  taken l t r k p q = rw (all_pass rec x.state h (first-pass l t r k) p q)

  -- where one of them stops it
  pub stopped_by : (a : Answer) → is_done a ≡ false → length f.bytes ≤ 65541 → f.tail ≤ 7 → Roomy f → Tabled rec f → said_of rec x.state h ≡ a → refusal_of rec x.state h ≡ a
  stopped_by a d l t r k e = stops-said rec x.state h (ap is_done (first-pass l t r k)) (ap is_done e ∙ d) ∙ e

  -- on a busy chip it is answered 11, unless its command is taken while busy
  busy-refusal : 0 < x.state.busy → 0 < length f.bytes → length f.bytes ≤ 65541 → f.tail ≤ 7 → Roomy f → Tabled rec f
      → (traits_of (model_of rec.model).register (decode_of rec.model (get_or f.bytes 0 0))).while_busy ≡ false → refusal_of rec x.state h ≡ Err Busy
  unfolding said_of head_for
  busy-refusal busy some l t r k w =
      stopped_by (Err Busy) refl l t r k
      (rw (
        ne_eqb (length f.bytes) 0 (λ z. omega arith),
        eq-eqb x.state.settle 0 (busy-settled rec x b busy),
        ne_eqb x.state.busy 0 (λ z. omega arith),
        w,
      ))

  -- on a settling chip it is answered 22, whatever its command
  settling-refusal : 0 < x.state.settle → 0 < length f.bytes → length f.bytes ≤ 65541 → f.tail ≤ 7 → Roomy f → Tabled rec f → refusal_of rec x.state h ≡ Err Settling
  unfolding said_of head_for
  settling-refusal settling some l t r k = stopped_by (Err Settling) refl l t r k (rw (ne_eqb (length f.bytes) 0 (λ z. omega arith), ne_eqb x.state.settle 0 (λ z. omega arith)))

-- a refused frame leaves what a refusal leaves
pub refused-frame : (rec : Record) (x : Chip) (f : Sent) (a : Answer) → refusal_of rec x.state (head_of rec x f) ≡ a → is_done a ≡ false
    → frame_of rec x f ≡ refused_of rec a x f
unfolding frame_of
refused-frame rec x f a e d = rw (e, d)

pub while-busy : (rec : Record) (x : Chip) (b : Bench rec x) (bytes : List ℕ) (strict : Bool) (wear out : List ℕ) → 0 < x.state.busy
    → 0 < length bytes → length bytes ≤ 65541 → Roomy (frame bytes strict wear out) → Tabled rec (frame bytes strict wear out) → (traits_of (model_of rec.model).register (decode_of rec.model (get_or bytes 0 0))).while_busy ≡ false
    → answer ours rec [] (sends (frame bytes strict wear out)) x ≡ Err Busy
unfolding answer
while-busy rec x b bytes strict wear out busy some l r k w =
    ap (λ (e : Effect). e.reply.answer)
    (refused-frame rec x (frame bytes strict wear out) (Err Busy) (busy-refusal rec x b (frame bytes strict wear out) busy some l (lit≤ tt) r k w) refl)

pub while-settling : (rec : Record) (x : Chip) (b : Bench rec x) (bytes : List ℕ) (strict : Bool) (wear out : List ℕ) → 0 < x.state.settle
    → 0 < length bytes → length bytes ≤ 65541 → Roomy (frame bytes strict wear out) → Tabled rec (frame bytes strict wear out) → answer ours rec [] (sends (frame bytes strict wear out)) x ≡ Err Settling
unfolding answer
while-settling rec x b bytes strict wear out settling some l r k =
    ap (λ (e : Effect). e.reply.answer)
    (refused-frame rec x (frame bytes strict wear out) (Err Settling) (settling-refusal rec x b (frame bytes strict wear out) settling some l (lit≤ tt) r k) refl)

-- at BP 0 no block is protected
pub unprotected : (n : ℕ) (tb : Bool) (b : Block) → is_protected n tb 0 b ≡ false
unfolding is_protected
unprotected n tb b = go (leb (range_of n tb 0).0.0 b.0) refl
  where
    go : (t : Bool) → leb (range_of n tb 0).0.0 b.0 ≡ t → (t && ltb b.0 ((range_of n tb 0).0.0 + (range_of n tb 0).1)) ≡ false
    go true e = le-ltb b.0 ((range_of n tb 0).0.0 + (range_of n tb 0).1) (omega (arith, range_none n tb, leb-true (range_of n tb 0).0.0 b.0 e))
    go false e = refl

-- on model 3 the byte 52 erases a half block
decodes-half : (n : ℕ) → n ≡ 3 → decode_of n 0x52 ≡ EraseHalf
unfolding decode_of
decodes-half n e = rw e

-- ---- the frames of the list
module _ (rec : Record) (x : Chip) (b : Bench rec x) (z : x.state.busy ≡ 0) (q : x.state.settle ≡ 0) (strict : Bool) (wear out : List ℕ) (k : length wear ≡ (model_of rec.model).sectors) where
  idle : eqb x.state.busy 0 ≡ true
  idle = eq-eqb x.state.busy 0 z

  still : eqb x.state.settle 0 ≡ true
  still = eq-eqb x.state.settle 0 q

  pub wake-taken : 1 ≤ length out → frame_of rec x (frame (0xAB ∷ []) strict wear out) ≡ state_only Done (dozing x.state false (cond x.state.asleep rec.wake 0)) x.page wear out
  unfolding accepted_of decode_of traits_of head_for length_ok wake waking_time drives covered worn_out said_of data_of
  wake-taken r =
      taken rec x b (frame (0xAB ∷ []) strict wear out) (lit≤ tt) (lit≤ tt) r k
      (rw (still, idle, and-false x.state.asleep)) refl
      ∙ rw (lay-none out 4)

  pub sign-taken : 5 ≤ length out → frame_of rec x (frame (0xAB ∷ 0 ∷ 0 ∷ 0 ∷ 0 ∷ []) strict wear out)
      ≡ shown x.page wear (wake rec x.state (0xAB ∷ 0 ∷ 0 ∷ 0 ∷ 0 ∷ []) out)
  unfolding accepted_of decode_of traits_of head_for length_ok covered worn_out said_of data_of
  sign-taken r =
      taken rec x b (frame (0xAB ∷ 0 ∷ 0 ∷ 0 ∷ 0 ∷ []) strict wear out) (lit≤ tt) (lit≤ tt) r k
      (rw (still, idle, and-false x.state.asleep)) refl

  pub sleep-taken : x.state.asleep ≡ false → 1 ≤ length out
      → frame_of rec x (frame (0xB9 ∷ []) strict wear out) ≡ state_only Done (dozing x.state true rec.sleep) x.page wear out
  unfolding accepted_of sleep decode_of traits_of head_for length_ok covered worn_out said_of data_of
  sleep-taken a r =
      taken rec x b (frame (0xB9 ∷ []) strict wear out) (lit≤ tt) (lit≤ tt) r k
      (rw (still, idle, a)) refl

  pub enable-taken : x.state.asleep ≡ false → 1 ≤ length out
      → frame_of rec x (frame (0x06 ∷ []) strict wear out) ≡ state_only Done (latched x.state true) x.page wear out
  unfolding accepted_of write_enable decode_of traits_of head_for length_ok covered worn_out said_of data_of
  enable-taken a r =
      taken rec x b (frame (0x06 ∷ []) strict wear out) (lit≤ tt) (lit≤ tt) r k
      (rw (still, idle, a)) refl

  pub write-taken : (v : ℕ) → x.state.asleep ≡ false → x.state.wel ≡ true → 2 ≤ length out
      → frame_of rec x (frame (0x01 ∷ v ∷ []) strict wear out) ≡ started wear out (write_status rec x.state x.page (0x01 ∷ v ∷ []))
  unfolding accepted_of decode_of traits_of head_for covered worn_out said_of data_of
  write-taken v a w r =
      let has = (model_of rec.model).register in
      taken rec x b (frame (0x01 ∷ v ∷ []) strict wear out) (lit≤ tt) (lit≤ tt) r k
      (rw (still, idle, a, between (traits_of has WriteStatus) 2 (lit≤ tt) (one-byte-write has), w, and-false x.state.srwd)) refl

  module _ (high middle low : ℕ) where
    abbrev pub to : Address
    to = address_of rec.model high middle low

    pub erase-taken : x.state.asleep ≡ false → x.state.wel ≡ true → x.state.bp ≡ 0 → 4 ≤ length out → worn_out (Some ErasesSector) to wear ≡ false
        → frame_of rec x (frame (0x20 ∷ high ∷ middle ∷ low ∷ []) strict wear out) ≡ turned x.page (counted (Some ErasesSector) to wear) out (erase_starts rec x.state (Some ErasesSector) to (0x20 ∷ high ∷ middle ∷ low ∷ []))
    unfolding accepted_of decode_of traits_of head_for length_ok tb_of covered worn_out said_of data_of
    erase-taken a w p r n =
        taken rec x b (frame (0x20 ∷ high ∷ middle ∷ low ∷ []) strict wear out) (lit≤ tt) (lit≤ tt) r k
        (rw (still, idle, a, w, p, unprotected rec.model (tb_of x.state) (block_of to))) (rw n)

    pub program-taken : (sent : List ℕ) → x.state.asleep ≡ false → x.state.wel ≡ true → x.state.bp ≡ 0
        → 1 ≤ length sent → 4 + length sent ≤ 65541 → Roomy (frame (0x02 ∷ high ∷ middle ∷ low ∷ sent) strict wear out)
        → programs_over strict to x.cells (0x02 ∷ high ∷ middle ∷ low ∷ sent) ≡ false
        → frame_of rec x (frame (0x02 ∷ high ∷ middle ∷ low ∷ sent) strict wear out)
        ≡ started wear out (program_page rec x.state x.page to (0x02 ∷ high ∷ middle ∷ low ∷ sent))
    unfolding accepted_of decode_of traits_of head_for length_ok tb_of covered worn_out said_of data_of
    program-taken sent a w p n l r v =
        taken rec x b (frame (0x02 ∷ high ∷ middle ∷ low ∷ sent) strict wear out) (omega arith) (lit≤ tt) r k
        (rw (eqb-suc-zero (suc (suc (suc (length sent)))), still, idle, a, between (traits_of (model_of rec.model).register Program) (suc (suc (suc (suc (length sent))))) (omega arith) (omega arith), w, p, unprotected rec.model (tb_of x.state) (block_of to)))
        (rw v)

    pub read_taken : (more : List ℕ) → x.state.asleep ≡ false → 4 + length more ≤ 65541 → Roomy (frame (0x03 ∷ high ∷ middle ∷ low ∷ more) strict wear out)
        → frame_of rec x (frame (0x03 ∷ high ∷ middle ∷ low ∷ more) strict wear out)
        ≡ shown x.page wear (read_from 4 x.state x.cells to (0x03 ∷ high ∷ middle ∷ low ∷ more) out)
    unfolding accepted_of decode_of traits_of head_for length_ok covered worn_out said_of data_of
    read_taken more a l r =
        taken rec x b (frame (0x03 ∷ high ∷ middle ∷ low ∷ more) strict wear out) (omega arith) (lit≤ tt) r k
        (rw (eqb-suc-zero (suc (suc (suc (length more)))), still, idle, a, least_on (traits_of (model_of rec.model).register Read) (suc (suc (suc (suc (length more))))) 0 (omega arith))) refl

    -- the other operations, for a chip that waits too short a time after them
    pub half-taken : (model_of rec.model).half_erase ≡ true → x.state.asleep ≡ false → x.state.wel ≡ true → x.state.bp ≡ 0 → 4 ≤ length out → worn_out (Some ErasesHalf) to wear ≡ false
        → frame_of rec x (frame (0x52 ∷ high ∷ middle ∷ low ∷ []) strict wear out) ≡ turned x.page (counted (Some ErasesHalf) to wear) out (erase_starts rec x.state (Some ErasesHalf) to (0x52 ∷ high ∷ middle ∷ low ∷ []))
    unfolding accepted_of traits_of head_for length_ok tb_of covered worn_out said_of data_of
    half-taken m a w p r n =
        let sent : Sent = frame (0x52 ∷ high ∷ middle ∷ low ∷ []) strict wear out in
        let d : decode_of rec.model 0x52 ≡ EraseHalf = decodes-half rec.model (half-erase-model rec.model m) in
        taken rec x b sent (lit≤ tt) (lit≤ tt) r k
        (rw (d, still, idle, a, w, p, unprotected rec.model (tb_of x.state) (block_of to))) (rw (d, n))
        ∙ ap (λ (c : Command). accepted_of rec x c to sent.bytes wear out) d

    pub block-taken : x.state.asleep ≡ false → x.state.wel ≡ true → x.state.bp ≡ 0 → 4 ≤ length out → worn_out (Some ErasesBlock) to wear ≡ false
        → frame_of rec x (frame (0xD8 ∷ high ∷ middle ∷ low ∷ []) strict wear out) ≡ turned x.page (counted (Some ErasesBlock) to wear) out (erase_starts rec x.state (Some ErasesBlock) to (0xD8 ∷ high ∷ middle ∷ low ∷ []))
    unfolding accepted_of decode_of traits_of head_for length_ok tb_of covered worn_out said_of data_of
    block-taken a w p r n =
        taken rec x b (frame (0xD8 ∷ high ∷ middle ∷ low ∷ []) strict wear out) (lit≤ tt) (lit≤ tt) r k
        (rw (still, idle, a, w, p, unprotected rec.model (tb_of x.state) (block_of to))) (rw n)

  pub chip-taken : x.state.asleep ≡ false → x.state.wel ≡ true → x.state.bp ≡ 0 → 1 ≤ length out → worn_out (Some ErasesChip) nowhere wear ≡ false
      → frame_of rec x (frame (0xC7 ∷ []) strict wear out) ≡ turned x.page (counted (Some ErasesChip) nowhere wear) out (erase_starts rec x.state (Some ErasesChip) nowhere (0xC7 ∷ []))
  unfolding accepted_of decode_of traits_of head_for length_ok covered worn_out said_of data_of
  chip-taken a w p r n =
      taken rec x b (frame (0xC7 ∷ []) strict wear out) (lit≤ tt) (lit≤ tt) r k
      (rw (still, idle, a, w, p)) (rw n)

-- ---- one call
-- our model does not look at the calls seen
pub answer-any : (rec : Record) (seen : List Call) (c : Call) (x : Chip) → answer ours rec seen c x ≡ answer ours rec [] c x
unfolding answer
answer-any rec seen (sends f) x = refl
answer-any rec seen (waits us) x = refl
answer-any rec seen cycles x = refl
answer-any rec seen (cuts pattern) x = refl

pub after_any : (rec : Record) (seen : List Call) (c : Call) (x : Chip) → after ours rec seen c x ≡ after ours rec [] c x
unfolding after
after_any rec seen (sends f) x = refl
after_any rec seen (waits us) x = refl
after_any rec seen cycles x = refl
after_any rec seen (cuts pattern) x = refl

-- a call on a bench, answered 0, that leaves a bench; and the wear table that it leaves, if it is a frame
pub record Step (rec : Record) (c : Call) (x y : Chip) (ts : List (List ℕ)) : Type 0 where
  pub done : answer ours rec [] c x ≡ Done
  pub leads : after ours rec [] c x ≡ y
  pub leaves : tables ours rec [] (c ∷ []) x ≡ ts
  pub bench : Bench rec y

fit : {rec : Record} {x : Chip} → Bench rec x → Fit rec x
fit b = record { right = b.right; whole = b.whole; valid = b.valid; page = b.page }

pub wait-taken : (rec : Record) (x : Chip) (us : ℕ) → Bench rec x → wait_of rec x us ≡ record { answer = Done; chip = waited rec.model x us }
unfolding wait_of
wait-taken rec x us b = rw (fit-taken rec x (fit b))

module _ (rec : Record) (x : Chip) (b : Bench rec x) where
  -- a bench stays one
  bench-next : (c : Call) (y : Chip) → after ours rec [] c x ≡ y → Bench rec y
  bench-next c y e =
      let k = call-fine rec [] c x (record { sound = sound rec x.state b.valid; page-data = b.page }) in
      subst (Bench rec) e
      (record { right = b.right; whole = call_length rec [] c x ∙ b.whole; valid = valid rec _ k.sound; page = k.page-data })

  step : (c : Call) (y : Chip) (ts : List (List ℕ)) → answer ours rec [] c x ≡ Done → after ours rec [] c x ≡ y → tables ours rec [] (c ∷ []) x ≡ ts → Step rec c x y ts
  step c y ts d e w = record { done = d; leads = e; leaves = w; bench = bench-next c y e }

  pub sends-to : (f : Sent) (e : Effect) → frame_of rec x f ≡ e → e.reply.answer ≡ Done → Step rec (sends f) x (left x e) (e.wear ∷ [])
  unfolding answer after
  sends-to f e p d = step (sends f) (left x e) (e.wear ∷ []) (ap (λ (g : Effect). g.reply.answer) p ∙ d) (ap (left x) p) (ap (λ (g : Effect). g.wear ∷ []) p)

  -- to a chip that the wait is known to lead to
  pub waits-to : (us : ℕ) (y : Chip) → waited rec.model x us ≡ y → Step rec (waits us) x y []
  unfolding answer after
  waits-to us y e =
      let k = wait-taken rec x us b in
      step (waits us) y [] (ap (λ (f : Aftermath). f.answer) k) (ap (λ (f : Aftermath). f.chip) k ∙ e) refl

  -- a wait that does not run the time out, and one that does
  pub waits-on : (us : ℕ) → (eqb x.state.busy 0 || ltb us x.state.busy) ≡ true → Step rec (waits us) x (chip_of (later x.state us) x.page x.cells) []
  unfolding waited
  waits-on us t = waits-to us _ (rw t)

  pub waits-out : (us : ℕ) → (eqb x.state.busy 0 || ltb us x.state.busy) ≡ false → Step rec (waits us) x (finished rec.model x) []
  unfolding waited
  waits-out us t = waits-to us _ (rw t)

-- ---- calls one after the other
-- whatever is answered, a bench stays one
pub run-bench : (rec : Record) (seen cs : List Call) (x : Chip) → Bench rec x → Bench rec (run ours rec seen cs x)
run-bench rec seen [] x b = b
run-bench rec seen (c ∷ cs) x b = run-bench rec (c ∷ seen) cs (after ours rec seen c x) (bench-next rec x b c _ (sym (after_any rec seen c x)))

-- a list of calls, each answered 0, where it leads, and the wear tables that its frames leave
pub data Goes (rec : Record) : List Call → Chip → Chip → List (List ℕ) → Type 0 where
  ends : {x : Chip} → Goes rec [] x x []
  goes : {c : Call} {cs : List Call} {x y w : Chip} {ts us : List (List ℕ)} → Step rec c x y ts → Goes rec cs y w us → Goes rec (c ∷ cs) x w (ts ++ us)

pub goes_on : {rec : Record} {cs ds : List Call} {x y w : Chip} {ts us : List (List ℕ)} → Goes rec cs x y ts → Goes rec ds y w us → Goes rec (cs ++ ds) x w (ts ++ us)
goes_on ends h = h
goes_on {rec} {ds = ds} {w = v} {us = vs} (goes {c} {cs} {x} {ts = ts} {us = us} a g) h =
    subst (λ (all : List (List ℕ)). Goes rec (c ∷ (cs ++ ds)) x v all) (sym (append_assoc ts us vs)) (goes a (goes_on g h))

pub goes-run : {rec : Record} {cs : List Call} {x w : Chip} {ts : List (List ℕ)} (seen : List Call) → Goes rec cs x w ts → run ours rec seen cs x ≡ w
goes-run seen ends = refl
goes-run {rec} seen (goes {c} {cs} {x} a g) = ap (run ours rec (c ∷ seen) cs) (after_any rec seen c x ∙ a.leads) ∙ goes-run (c ∷ seen) g

-- the answers of the calls, and of one more
pub goes_then : {rec : Record} {cs : List Call} {x w : Chip} {ts : List (List ℕ)} (seen : List Call) (k : Call) → Goes rec cs x w ts
    → answers ours rec seen (cs ++ (k ∷ [])) x ≡ replicate (length cs) Done ++ (answer ours rec [] k w ∷ [])
goes_then {rec} seen k (ends {x}) = ap (λ (a : Answer). a ∷ []) (answer-any rec seen k x)
goes_then {rec} seen k (goes {c} {cs} {x} a g) =
    ap (λ (b : Answer). b ∷ answers ours rec (c ∷ seen) (cs ++ (k ∷ [])) (after ours rec seen c x)) (answer-any rec seen c x ∙ a.done)
    ∙ ap (λ (y : Chip). Done ∷ answers ours rec (c ∷ seen) (cs ++ (k ∷ [])) y) (after_any rec seen c x ∙ a.leads)
    ∙ ap (λ (ds : List Answer). Done ∷ ds) (goes_then (c ∷ seen) k g)

pub goes-answers : {rec : Record} {cs : List Call} {x w : Chip} {ts : List (List ℕ)} (seen : List Call) → Goes rec cs x w ts
    → answers ours rec seen cs x ≡ replicate (length cs) Done
goes-answers seen ends = refl
goes-answers {rec} seen (goes {c} {cs} {x} a g) =
    ap (λ (d : Answer). d ∷ answers ours rec (c ∷ seen) cs (after ours rec seen c x)) (answer-any rec seen c x ∙ a.done)
    ∙ ap (λ (y : Chip). Done ∷ answers ours rec (c ∷ seen) cs y) (after_any rec seen c x ∙ a.leads)
    ∙ ap (λ (ds : List Answer). Done ∷ ds) (goes-answers (c ∷ seen) g)

-- the wear tables of the calls: of one, and of those after it
tables-cons : (rec : Record) (seen cs : List Call) (c : Call) (x : Chip)
    → tables ours rec seen (c ∷ cs) x ≡ tables ours rec [] (c ∷ []) x ++ tables ours rec (c ∷ seen) cs (after ours rec seen c x)
tables-cons rec seen cs (sends f) x = refl
tables-cons rec seen cs (waits us) x = refl
tables-cons rec seen cs cycles x = refl
tables-cons rec seen cs (cuts pattern) x = refl

pub goes-tables : {rec : Record} {cs : List Call} {x w : Chip} {ts : List (List ℕ)} (seen : List Call) → Goes rec cs x w ts → tables ours rec seen cs x ≡ ts
goes-tables seen ends = refl
goes-tables {rec} seen (goes {c} {cs} {x} {y} {w} {ts} {us} a g) =
    tables-cons rec seen cs c x
    ∙ ap (λ (one : List (List ℕ)). one ++ tables ours rec (c ∷ seen) cs (after ours rec seen c x)) a.leaves
    ∙ ap (λ (z : Chip). ts ++ tables ours rec (c ∷ seen) cs z) (after_any rec seen c x ∙ a.leads)
    ∙ ap (λ (rest : List (List ℕ)). ts ++ rest) (goes-tables (c ∷ seen) g)
