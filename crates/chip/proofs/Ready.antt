-- What the refusals have shown is what the commands ask for.
use Rattle.std.specs.Prelude.{Option, Some, None, Ok, Err, ⊤}
use mathlib.Core.Path.{◌≡◌, refl, sym, ap, subst, ◌∙◌}
use mathlib.Core.Bool.{Bool, true, false, cond, not}
use mathlib.Core.List.{List, []}
use Prim.Native.Nat.{ℕ, ◌+◌, ◌≤◌, ◌<◌}
use native.Mathlib.Nat.{mod-lt}
use native.Mathlib.Omega.{arith}
use lib.ListN.{length, get_or}
use Rattle.units.specs.declared.Address.{Address}
use Rattle.units.specs.Kinds.{page_start}
use Rattle.models.specs.Models.{model_of, address_of}
use Rattle.models.proofs.Rules.{row-rules, highest-bp, units-inside}
use Rattle.answers.specs.Answers.{Answer, Done, is_done, says_protected}
use Rattle.commands.specs.Commands.{traits_of, length_ok, fewest, most_written, operation_of}
use Rattle.commands.proofs.Rows.{long-enough, write-length, program-length}
use Rattle.states.specs.declared.Record.{Record}
use Rattle.commands.specs.declared.Command.{Command}
use Rattle.commands.specs.declared.Command.TheVariants.{Unknown, Withdrawn, WriteEnable, WriteDisable, ReadStatus, ReadConfig, WriteStatus, Read, FastRead, EraseSector, EraseHalf, EraseBlock, EraseChip, Program, ReadId, Wake, ReadMaker, Sleep, ReadSfdp}
use Rattle.answers.specs.declared.Refusal.{Refusal}
use Rattle.answers.specs.declared.Refusal.TheVariants.{WornOut, NotErased}
use Rattle.commands.specs.declared.Operation.{Operation}
use Rattle.commands.specs.declared.Operation.TheVariants.{Programs}
use Rattle.states.specs.declared.State.{State}
use Rattle.counts.specs.Counts.{worn_out, counted, InTable}
use Rattle.counts.proofs.Laws.{in_table}
use Rattle.states.specs.States.{page_ok, Chip}
use Rattle.states.proofs.States.{sound, page-length}
use Rattle.ladder.specs.Ladder.{refusal_of}
use Rattle.ladder.specs.Stages.{given_of, said_of, data_of}
use Rattle.ladder.proofs.Stages.{stops-given, stops-said, goes_on, data_is, all_pass}
use Rattle.ladder.specs.declared.Head.{Head}
use Rattle.ladder.proofs.Passed.{Passed, passed, given-spares}
use Rattle.effects.specs.declared.Reply.{Reply}
use Rattle.effects.specs.Effects.{Effect, quiet, state_only, refusal_leaves, goes_over}
use Rattle.effects.specs.ContractForms.{Gives, Room}
use Rattle.effects.proofs.Replies.{leaves_all}
use Rattle.chip.specs.Frames.{Sent, head_for, head_read, head_of, accepted_of, taken_of, refused_of, frame_of}
use Rattle.chip.specs.ContractForms.{Does, Ready}
use borrow.Author.Tests.{not-true, not-false}
use Rattle.chip.proofs.Sorts.{table-after}

-- an arm of the dispatch: what its command asks for and gives is what the command in hand does
pub room_for : {rec : Record} {x : Chip} {c k : Command} {at : Address} {bytes out : List ℕ} → Ready rec x c at bytes out → c ≡ k
    → Room (fewest (traits_of (model_of rec.model).register k)) bytes out
room_for {rec} {x} {c} {k} {at} {bytes} {out} p e = subst (λ (d : Command). Room (fewest (traits_of (model_of rec.model).register d)) bytes out) e p.fits

-- a status write has at most three bytes
pub at-most-3 : (r : Bool) (n : ℕ) → n ≤ most_written r → n ≤ 3
at-most-3 true n h = h
at-most-3 false n h = omega arith

module _ (rec : Record) (x : Chip) (at : Address) (bytes out : List ℕ) where
  pub at-command : {c k : Command} {r : Reply} {xs os : List ℕ} → c ≡ k
      → Does (accepted_of rec x k at bytes [] out) r xs os
      → Does (accepted_of rec x c at bytes [] out) r xs os
  at-command {c} {k} {r} {xs} {os} e g = subst (λ (d : Command). Does (accepted_of rec x d at bytes [] out) r xs os) (sym e) g

-- what a command does does not depend on the wear table, but for the table itself
module _ (rec : Record) (x : Chip) (at : Address) (bytes wear out : List ℕ) {r : Reply} {xs os : List ℕ} where
  pub with-table : (c : Command) → Does (accepted_of rec x c at bytes [] out) r xs os → Gives (accepted_of rec x c at bytes wear out) r xs (accepted_of rec x c at bytes wear out).wear os
  unfolding accepted_of
  with-table WriteEnable g = record { reply = g.reply; page-is = g.page-is; wear-is = refl; out = g.out }
  with-table WriteDisable g = record { reply = g.reply; page-is = g.page-is; wear-is = refl; out = g.out }
  with-table ReadStatus g = record { reply = g.reply; page-is = g.page-is; wear-is = refl; out = g.out }
  with-table ReadConfig g = record { reply = g.reply; page-is = g.page-is; wear-is = refl; out = g.out }
  with-table WriteStatus g = record { reply = g.reply; page-is = g.page-is; wear-is = refl; out = g.out }
  with-table Read g = record { reply = g.reply; page-is = g.page-is; wear-is = refl; out = g.out }
  with-table FastRead g = record { reply = g.reply; page-is = g.page-is; wear-is = refl; out = g.out }
  with-table EraseSector g = record { reply = g.reply; page-is = g.page-is; wear-is = refl; out = g.out }
  with-table EraseHalf g = record { reply = g.reply; page-is = g.page-is; wear-is = refl; out = g.out }
  with-table EraseBlock g = record { reply = g.reply; page-is = g.page-is; wear-is = refl; out = g.out }
  with-table EraseChip g = record { reply = g.reply; page-is = g.page-is; wear-is = refl; out = g.out }
  with-table Program g = record { reply = g.reply; page-is = g.page-is; wear-is = refl; out = g.out }
  with-table ReadId g = record { reply = g.reply; page-is = g.page-is; wear-is = refl; out = g.out }
  with-table Wake g = record { reply = g.reply; page-is = g.page-is; wear-is = refl; out = g.out }
  with-table ReadMaker g = record { reply = g.reply; page-is = g.page-is; wear-is = refl; out = g.out }
  with-table Sleep g = record { reply = g.reply; page-is = g.page-is; wear-is = refl; out = g.out }
  with-table Unknown g = record { reply = g.reply; page-is = g.page-is; wear-is = refl; out = g.out }
  with-table Withdrawn g = record { reply = g.reply; page-is = g.page-is; wear-is = refl; out = g.out }
  with-table ReadSfdp g = record { reply = g.reply; page-is = g.page-is; wear-is = refl; out = g.out }

module _ (rec : Record) (x : Chip) (f : Sent) where
  abbrev H : Head
  H = head_of rec x f

  -- with whatever is said of the cells and of the counts
  abbrev head_with : Bool → Bool → Head
  head_with o w = head_for rec.model (length x.cells) (length f.wear) (page_ok rec.model x.state x.page) f.bytes f.tail f.wp (length f.out) o w

  pub arrived : (o w : Bool) → Passed rec x.state (head_with o w) → Ready rec x H.command H.address f.bytes f.out
  unfolding head_for address_of
  arrived o w p =
      let b : List ℕ = f.bytes in
      record {
        level = omega (arith, (sound rec x.state p.valid).level, highest-bp rec.model);
        whole = p.whole;
        inside = subst (λ (n : ℕ). (address_of rec.model (get_or b 1 0) (get_or b 2 0) (get_or b 3 0)).0 < n) (sym p.whole) (mod-lt _ (omega (arith, (row-rules rec.model).some)));
        page-data = page-length rec.model x.state x.page p.page;
        written = λ e. (write-length (model_of rec.model).register (length b) f.tail p.short (subst (λ (c : Command). length_ok (traits_of (model_of rec.model).register c) (length b) f.tail ≡ true) e p.fits)).1;
        fits = record { long = long-enough _ _ _ p.fits; short = p.short; room = p.roomy };
      }

  -- the head that the code reads: it has looked at neither yet
  abbrev unworn : Head
  unworn = head_with false false

  given-unworn : given_of rec x.state unworn ≡ given_of rec x.state H
  unfolding given_of head_for
  given-unworn = refl

  said-unworn : said_of rec x.state unworn ≡ said_of rec x.state H
  unfolding said_of head_for
  said-unworn = refl

  spared-unworn : data_of rec x.state unworn ≡ Done
  unfolding head_for
  spared-unworn = data_is rec x.state unworn

  -- what the code has before it reads the frame; it has found whether the page data fit
  abbrev pub unread : Bool → Head
  unread fits =
      record {
        cells = length x.cells;
        sectors = length f.wear;
        page = fits;
        count = length f.bytes;
        tail = f.tail;
        wp = f.wp;
        room = length f.out;
        command = Unknown;
        address = record { 0 = 0 };
        over = false;
        worn = false;
      }

  pub read_head : {h : Head} {b : Bool} → b ≡ page_ok rec.model x.state x.page → h ≡ head_read rec.model (unread b) f.bytes → h ≡ unworn
  unfolding head_for
  read_head p e = e ∙ ap (λ (b : Bool). head_read rec.model (unread b) f.bytes) p

  -- no row of what a call is given looks at what the frame says
  pub given-unread : (b : Bool) → given_of rec x.state (unread b) ≡ given_of rec x.state (head_read rec.model (unread b) f.bytes)
  unfolding given_of
  given-unread b = refl

  -- what it has found where the rows before 19 let the frame pass: the head that it read, and the operation
  pub record Found (h : Head) (op : Option Operation) : Type 0 where
    pub read : h ≡ unworn
    pub given : given_of rec x.state h ≡ Done
    pub said : said_of rec x.state h ≡ Done
    pub op-is : op ≡ operation_of h.command

  pub found : {h : Head} {op : Option Operation} {b : Bool} {g a : Answer} {u v : ⊤}
      → b ≡ page_ok rec.model x.state x.page → h ≡ head_read rec.model (unread b) f.bytes
      → g ≡ given_of rec x.state (unread b) → g ≡ Ok u → a ≡ said_of rec x.state h → a ≡ Ok v → op ≡ operation_of h.command → Found h op
  found {b = b} p e g i a j o =
      record { read = read_head p e; given = ap (given_of rec x.state) e ∙ sym (given-unread b) ∙ sym g ∙ i; said = sym a ∙ j; op-is = o }

  all_given : {h : Head} {op : Option Operation} → Found h op → given_of rec x.state H ≡ Done
  all_given k = sym given-unworn ∙ sym (ap (given_of rec x.state) k.read) ∙ k.given

  all_said : {h : Head} {op : Option Operation} → Found h op → said_of rec x.state H ≡ Done
  all_said k = sym said-unworn ∙ sym (ap (said_of rec x.state) k.read) ∙ k.said

  -- every row but the last two has let it pass
  all_but_last : {h : Head} {op : Option Operation} → Found h op → Passed rec x.state unworn
  all_but_last k =
      passed rec x.state unworn (ap is_done (all_pass rec x.state unworn (given-unworn ∙ all_given k) (said-unworn ∙ all_said k) spared-unworn))

  pub ready : {h : Head} {op : Option Operation} → Found h op → Ready rec x h.command h.address f.bytes f.out
  unfolding head_for
  ready k = subst (λ (h : Head). Ready rec x h.command h.address f.bytes f.out) (sym k.read) (arrived false false (all_but_last k))

  -- a program has data bytes, and its page lies in the array
  pub lookable : {h : Head} {op : Option Operation} → Found h op → (op ≡ Some Programs → 5 ≤ length f.bytes) × (page_start h.address + 256 ≤ length x.cells)
  lookable {h} k =
      let r = ready k in (
        λ e. omega (arith, program-length (model_of rec.model).register h.command (sym k.op-is ∙ e), r.fits.long),
        omega (arith, (units-inside rec.model h.address (omega (arith, r.inside, r.whole))).page, r.whole),
      )

  -- the sectors that it covers lie in the table
  pub countable : {h : Head} {op : Option Operation} → Found h op → InTable op h.address f.wear
  unfolding head_for
  countable {h} k =
      let p = all_but_last k in
      let r = arrived false false p in
      subst (λ (q : Option Operation). InTable q h.address f.wear) (sym k.op-is)
      (subst (λ (q : Head). InTable (operation_of q.command) q.address f.wear) (sym k.read)
      (in_table rec.model (operation_of unworn.command) unworn.address f.wear p.table (omega (arith, r.inside, r.whole))))

  -- the last two rows are left: the frame is refused for the cells or for its counts, or it is what its command does
  taken_is : given_of rec x.state H ≡ Done → said_of rec x.state H ≡ Done
      → taken_of rec x unworn.command unworn.address f.strict f.bytes f.wear f.out ≡ frame_of rec x f
  unfolding frame_of head_for
  taken_is p q = go H.over H.worn (goes_on rec x.state H (ap is_done p) (ap is_done q) ∙ data_is rec x.state H)
    where
      refused_as : (a : Answer) → says_protected a ≡ false → state_only a x.state x.page f.wear f.out ≡ refused_of rec a x f
      refused_as a e = ap (λ (s : State). state_only a s x.page f.wear f.out) (sym (leaves_all rec.model a x.state e))

      go : (o b : Bool) → refusal_of rec x.state H ≡ cond o (Err NotErased) (cond b (Err WornOut) Done)
          → cond o (state_only (Err NotErased) x.state x.page f.wear f.out) (cond b (state_only (Err WornOut) x.state x.page f.wear f.out) (accepted_of rec x H.command H.address f.bytes f.wear f.out))
          ≡ cond (is_done (refusal_of rec x.state H)) (accepted_of rec x H.command H.address f.bytes f.wear f.out) (refused_of rec (refusal_of rec x.state H) x f)
      go true b e = rw e (refused_as (Err NotErased) refl)
      go false true e = rw e (refused_as (Err WornOut) refl)
      go false false e = rw e

  -- the same of the operation that the code has found
  abbrev taken_as : Head → Option Operation → Effect
  taken_as h op =
      cond (goes_over op f.strict h.address x.cells f.bytes) (state_only (Err NotErased) x.state x.page f.wear f.out)
      (cond (worn_out op h.address f.wear) (state_only (Err WornOut) x.state x.page f.wear f.out) (accepted_of rec x h.command h.address f.bytes f.wear f.out))

  frame_is : {h : Head} {op : Option Operation} → Found h op → taken_as h op ≡ frame_of rec x f
  frame_is {h} k = ap (taken_as h) k.op-is ∙ ap (λ (q : Head). taken_of rec x q.command q.address f.strict f.bytes f.wear f.out) k.read ∙ taken_is (all_given k) (all_said k)

  module _ {h : Head} {op : Option Operation} {over : Bool} (k : Found h op) (o : over ≡ goes_over op f.strict h.address x.cells f.bytes) where
    -- refused for the cells
    pub not-erased : {r : Reply} → over ≡ true → r ≡ quiet (Err NotErased) x.state → Gives (frame_of rec x f) r x.page f.wear f.out
    not-erased {r} t q =
        let turned-away : taken_as h op ≡ state_only (Err NotErased) x.state x.page f.wear f.out = rw (sym o ∙ t) in
        subst (λ (e : Effect). Gives e r x.page f.wear f.out) (sym turned-away ∙ frame_is k) (record { reply = q; page-is = refl; wear-is = refl; out = refl })

    module _ {done : Bool} {ws : List ℕ} {r : Reply} (t : over ≡ false)
        (n : done ≡ not (worn_out op h.address f.wear)) (w : ws ≡ cond done (counted op h.address f.wear) f.wear) where
      -- refused for its counts
      pub worn-out : done ≡ false → r ≡ quiet (Err WornOut) x.state → Gives (frame_of rec x f) r x.page ws f.out
      worn-out y q =
          let turned-away : taken_as h op ≡ state_only (Err WornOut) x.state x.page f.wear f.out = rw (sym o ∙ t, not-false (worn_out op h.address f.wear) (sym n ∙ y)) in
          subst (λ (e : Effect). Gives e r x.page ws f.out) (sym turned-away ∙ frame_is k) (record { reply = q; page-is = refl; wear-is = w ∙ rw y; out = refl })

      -- counted and done
      pub accept : {xs os : List ℕ} → done ≡ true → Does (accepted_of rec x h.command h.address f.bytes [] f.out) r xs os → Gives (frame_of rec x f) r xs ws os
      accept {xs} {os} y q =
          let table : (accepted_of rec x h.command h.address f.bytes f.wear f.out).wear ≡ ws = table-after rec x h.address f.bytes f.wear f.out h.command ∙ ap (λ (p : Option Operation). counted p h.address f.wear) (sym k.op-is) ∙ sym (w ∙ rw y) in
          let taken : taken_as h op ≡ accepted_of rec x h.command h.address f.bytes f.wear f.out = rw (sym o ∙ t, not-true (worn_out op h.address f.wear) (sym n ∙ y)) in
          subst (λ (e : Effect). Gives e r xs ws os) (sym taken ∙ frame_is k)
          (subst (λ (us : List ℕ). Gives (accepted_of rec x h.command h.address f.bytes f.wear f.out) r xs us os) table (with-table rec x h.address f.bytes f.wear f.out h.command q))

  -- what a frame comes to, by whether it is refused
  abbrev either_way : Bool → Effect
  either_way b = cond b (accepted_of rec x H.command H.address f.bytes f.wear f.out) (refused_of rec (refusal_of rec x.state H) x f)

  -- a refusal, wherever it came from
  refused : {a : Answer} {r : Reply} → a ≡ refusal_of rec x.state H → is_done a ≡ false → r ≡ quiet a (refusal_leaves rec.model a x.state)
      → Gives (frame_of rec x f) r x.page f.wear f.out
  unfolding frame_of
  refused {a} {r} g d q =
      subst (λ (b : Bool). Gives (either_way b) r x.page f.wear f.out)
      (sym (sym (ap is_done g) ∙ d))
      (record { reply = q ∙ ap (λ (k : Answer). quiet k (refusal_leaves rec.model k x.state)) g; page-is = refl; wear-is = refl; out = refl })

  pub refuse-given : {h : Head} {e : Refusal} {r : Reply} → h ≡ unworn → Err e ≡ given_of rec x.state h → r ≡ quiet (Err e) x.state → Gives (frame_of rec x f) r x.page f.wear f.out
  refuse-given {e = e} k g q =
      let g : Err e ≡ given_of rec x.state H = g ∙ ap (given_of rec x.state) k ∙ given-unworn in
      let n = ap says_protected g ∙ given-spares rec x.state H in
      refused (g ∙ sym (stops-given rec x.state H (ap is_done (sym g)))) refl (q ∙ ap (quiet _) (sym (leaves_all rec.model _ x.state n)))

  pub refuse : {h : Head} {e : Refusal} {r : Reply} → h ≡ unworn → given_of rec x.state h ≡ Done → Err e ≡ said_of rec x.state h
      → r ≡ quiet (Err e) (refusal_leaves rec.model (Err e) x.state)
      → Gives (frame_of rec x f) r x.page f.wear f.out
  refuse {e = e} k p g q =
      let p : given_of rec x.state H ≡ Done = sym given-unworn ∙ sym (ap (given_of rec x.state) k) ∙ p in
      let g : Err e ≡ said_of rec x.state H = g ∙ ap (said_of rec x.state) k ∙ said-unworn in
      refused (g ∙ sym (stops-said rec x.state H (ap is_done p) (ap is_done (sym g)))) refl q
