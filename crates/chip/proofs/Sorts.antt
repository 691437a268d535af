-- Each command is of one of three kinds, in one clause of `kind`; what holds of every accepted frame is shown of the kinds.
use Rattle.std.specs.Prelude.{Option, Some, None}
use mathlib.Core.Path.{◌≡◌, refl, sym, ap, ◌∙◌}
use mathlib.Core.Bool.{Bool, true, false, not, ◌&&◌, ◌||◌, cond}
use mathlib.Core.List.{List, [], ◌∷◌}
use Prim.Native.Nat.{ℕ, zero, suc, ◌+◌, ◌-◌, ◌≤◌, ◌<◌}
use native.Mathlib.Omega.{arith}
use lib.Dec.{eqb, ltb, lit≤}
use lib.ListN.{length, get_or, drop, replicate, length-drop, drop_of_length-le}
use lib.Seq.{drop_at}
use borrow.Author.Tests.{eqb-true, eqb-false, not-false, eq-eqb, ltb-true, ltb-false, lt-ltb}
use Rattle.units.specs.declared.Address.{Address}
use Rattle.units.specs.Kinds.{page_offset, sfdp_address}
use Rattle.sfdp_image.specs.Image.{sfdp_from}
use Rattle.fold.specs.Fold.{folds, page_after}
use Rattle.fold.proofs.Fold.{length-page_after}
use Rattle.models.specs.Models.{model_of}
use Rattle.units.proofs.Bools.{both, unless, only_if}
use Rattle.parts.specs.Parts.{all_are, lay}
use Rattle.parts.proofs.Lay.{length-lay}
use Rattle.rings.specs.Ring.{ring}
use Rattle.answers.specs.Answers.{Answer, Done, is_done, says_protected}
use Rattle.commands.specs.Commands.{decode_of, traits_of, most_written, operation_of, started_by}
use Rattle.commands.specs.declared.Operation.{Operation}
use Rattle.commands.specs.declared.Operation.TheVariants.{WritesStatus, Programs, ErasesSector, ErasesHalf, ErasesBlock, ErasesChip}
use Rattle.states.specs.States.{record_ok, status_of, longest_settle, operation_time, place_ok, used_bytes, no_address, blank_page, Chip}
use Rattle.states.specs.declared.Record.{Record}
use Rattle.states.specs.declared.State.{State}
use Rattle.commands.specs.declared.Command.{Command}
use Rattle.commands.specs.declared.Command.TheVariants.{WriteEnable, WriteDisable, ReadStatus, ReadConfig, WriteStatus, Read, FastRead, EraseSector, EraseHalf, EraseBlock, EraseChip, Program, ReadId, Wake, ReadMaker, Sleep, Unknown, Withdrawn, ReadSfdp}
use Rattle.commands.proofs.Rows.{half-only-3}
use Rattle.states.proofs.States.{sleep-le, wake-le, sign_le, times, half-some}
use Rattle.counts.specs.Counts.{sector_at, counted, covered, sectors}
use Rattle.effects.specs.Effects.{Effect, state_only, turned, drives, folding, latched, dozing, starting, refusal_leaves, write_enable, write_disable, write_status, erase_starts, nowhere, sleep, id_bytes, maker_bytes, read_status, read_config, read_from, program_page, read_id, waking_time, wake, read_maker, read_sfdp}
use Rattle.chip.specs.Frames.{accepted_of}
use Rattle.chip.specs.Driven.{driven_bytes, fold_of}
use Rattle.counts.proofs.Laws.{uncounted, all-counted}

-- ---- how the state moves, and what a command that moves it so has been asked
-- what the refusals 22, 11, 12, 14 and 15 have shown, and that the address is the array's
pub record Asked (rec : Record) (s : State) (c : Command) (at : Address) (bytes : List ℕ) : Type 0 where
  pub settled : s.settle ≡ 0
  pub listens : (not (eqb s.busy 0) && not (traits_of (model_of rec.model).register c).while_busy) ≡ false
  pub awake : (s.asleep && not (traits_of (model_of rec.model).register c).while_asleep) ≡ false
  pub enabled : ((traits_of (model_of rec.model).register c).latch && not s.wel) ≡ false
  pub means : decode_of rec.model (get_or bytes 0 0) ≡ c
  pub inside : at.0 < (model_of rec.model).length
  pub written : c ≡ WriteStatus → (2 ≤ length bytes) × (length bytes ≤ most_written (model_of rec.model).register)

-- the page data stay, and so does the operation
pub data Move (rec : Record) (s : State) : State → Type 0 where
  stays : Move rec s s
  latches : (b : Bool) → s.busy ≡ 0 → Move rec s (latched s b)
  dozes : (b : Bool) (t : ℕ) → s.busy ≡ 0 → t ≤ longest_settle rec → Move rec s (dozing s b t)

-- an operation starts
pub record Begun (rec : Record) (x : Chip) (op : Option Operation) (t : State) (page : List ℕ) : Type 0 where
  pub command : ℕ
  pub place : ℕ
  pub is : t ≡ starting x.state command place (operation_time rec op)
  pub starts-it : started_by rec.model command ≡ op
  pub placed : place_ok rec.model op place ≡ true
  pub takes-time : record_ok rec ≡ true → 0 < operation_time rec op
  pub idle-before : x.state.busy ≡ 0
  pub latch : x.state.wel ≡ true
  pub awake : x.state.asleep ≡ false
  pub settled : x.state.settle ≡ 0
  pub page-fits : x.page ≡ blank_page → (length page ≡ 256) × (all_are 0xFF (drop (used_bytes op place) page) ≡ true)

-- one of the two
pub data Turn (rec : Record) (x : Chip) : State → List ℕ → Type 0 where
  moved : {t : State} → Move rec x.state t → Turn rec x t x.page
  begun : {t : State} {page : List ℕ} (op : Option Operation) → Begun rec x op t page → Turn rec x t page

-- a refusal leaves the state as it is, or clears the latch of an idle chip
pub leaves : (rec : Record) (s : State) (a : Answer) → (says_protected a ≡ true → s.busy ≡ 0) → Move rec s (refusal_leaves rec.model a s)
unfolding refusal_leaves
leaves rec s a i = go (model_of rec.model).latch_falls (says_protected a) i
  where
    go : (l p : Bool) → (p ≡ true → s.busy ≡ 0) → Move rec s (cond (l && p) (latched s false) s)
    go true true i = latches false (i refl)
    go true false i = stays
    go false p i = stays

-- ---- the kinds: the state only; bytes driven from a position on; an operation started
pub data Kind (rec : Record) (x : Chip) (c : Command) (at : Address) (bytes wear out : List ℕ) : ℕ → Bool → Effect → Type 0 where
  turns : (t : State) → (Asked rec x.state c at bytes → Move rec x.state t) → Kind rec x c at bytes wear out 0 false (state_only Done t x.page wear out)
  drove : (t : State) (from : ℕ) (ys : List ℕ) → (Asked rec x.state c at bytes → Move rec x.state t)
      → Kind rec x c at bytes wear out (length bytes - from) false (record { reply = drives t from (length bytes); page = x.page; wear = wear; out = lay out from ys })
  begins : (op : Option Operation) (t : State) (page after : List ℕ) (fold : Bool) → (Asked rec x.state c at bytes → Begun rec x op t page)
      → Kind rec x c at bytes wear out 0 fold (record { reply = folding t fold; page = page; wear = after; out = out })

-- the test for 11 fails at a command that is not taken while busy: the chip is idle
idle : (busy : ℕ) → (not (eqb busy 0) && not false) ≡ false → busy ≡ 0
idle busy i = eqb-true busy 0 (not-false _ (only_if (not (eqb busy 0)) false i refl))

-- what an AB settles for is one of the settling times, or nothing
waking-le : (rec : Record) (s : State) (n : ℕ) → waking_time rec s n ≤ longest_settle rec
unfolding waking_time
waking-le rec s n = go s.asleep (ltb 4 n)
  where
    go : (a b : Bool) → cond a (cond b rec.sign rec.wake) 0 ≤ longest_settle rec
    go true true = sign_le rec
    go true false = wake-le rec
    go false b = omega arith

-- ---- operations
-- what every command that starts one has been asked
module _ (rec : Record) (x : Chip) (at : Address) (bytes : List ℕ) (c : Command) (k : (traits_of (model_of rec.model).register c).latch ≡ true) (q : Asked rec x.state c at bytes) where
  latched-is : x.state.wel ≡ true
  latched-is = unless true x.state.wel (rw k at q.enabled) refl

  not-busy : (traits_of (model_of rec.model).register c).while_busy ≡ false → x.state.busy ≡ 0
  not-busy w = idle x.state.busy (rw w at q.listens)

  not-asleep : (traits_of (model_of rec.model).register c).while_asleep ≡ false → x.state.asleep ≡ false
  not-asleep w = only_if x.state.asleep false (rw w at q.awake) refl

  begin : (op : Option Operation) (place : ℕ) (page : List ℕ) → operation_of c ≡ op → place_ok rec.model op place ≡ true → (record_ok rec ≡ true → 0 < operation_time rec op)
      → (traits_of (model_of rec.model).register c).while_busy ≡ false → (traits_of (model_of rec.model).register c).while_asleep ≡ false
      → (x.page ≡ blank_page → (length page ≡ 256) × (all_are 0xFF (drop (used_bytes op place) page) ≡ true))
      → Begun rec x op (starting x.state (get_or bytes 0 0) place (operation_time rec op)) page
  begin op place page e p t b a h =
      record {
        command = get_or bytes 0 0;
        place = place;
        is = refl;
        starts-it = ap operation_of q.means ∙ e;
        placed = p;
        takes-time = t;
        idle-before = not-busy b;
        latch = latched-is;
        awake = not-asleep a;
        settled = q.settled;
        page-fits = h;
      }

-- blank page data stay blank, a program uses all of them, a status write the first ones
blank-stays : {page : List ℕ} → page ≡ blank_page → (length page ≡ 256) × (all_are 0xFF page ≡ true)
blank-stays e = (ap length e, ap (all_are 0xFF) e)

all-used : (a : ℕ) (sent page : List ℕ) → page ≡ blank_page → (length (page_after a sent page) ≡ 256) × (all_are 0xFF (drop 256 (page_after a sent page)) ≡ true)
all-used a sent page e =
    let l : length (page_after a sent page) ≡ 256 = length-page_after a sent page ∙ ap length e in
    (l, ap (all_are 0xFF) (drop_of_length-le (page_after a sent page) {i = 256} (omega arith)))

-- what is left of a list that is one byte over and over is so too
rest-same : (v n : ℕ) (xs : List ℕ) → all_are v xs ≡ true → all_are v (drop n xs) ≡ true
rest-same v zero xs e = e
rest-same v (suc n) [] e = refl
rest-same v (suc n) (x ∷ xs) e = rest-same v n xs (both (eqb x v) (all_are v xs) e).1

drop-lay : (xs ys : List ℕ) → drop (length ys) (lay xs 0 ys) ≡ drop (length ys) xs
unfolding lay
drop-lay xs ys = let e : 0 + length ys ≡ length ys = omega arith in rw e (drop_at ys (drop (length ys) xs) (length ys) refl)

-- one data byte, or two
number-of-bytes : (r : Bool) (n : ℕ) → 2 ≤ n → n ≤ most_written r → (eqb (n - 1) 1 || (r && eqb (n - 1) 2)) ≡ true
number-of-bytes false n l h = rw (eq-eqb (n - 1) 1 (omega arith))
number-of-bytes true n l h = go (eqb (n - 1) 1) refl
  where
    go : (b : Bool) → eqb (n - 1) 1 ≡ b → (b || eqb (n - 1) 2) ≡ true
    go true e = refl
    go false e = eq-eqb (n - 1) 2 (omega (arith, eqb-false (n - 1) 1 e))

first-used : (r : Bool) (bytes page : List ℕ) → page ≡ blank_page → length bytes ≤ most_written r
    → (length (lay page 0 (drop 1 bytes)) ≡ 256) × (all_are 0xFF (drop (length bytes - 1) (lay page 0 (drop 1 bytes))) ≡ true)
first-used r bytes page e h =
    let l : length page ≡ 256 = ap length e in
    let m : length bytes ≤ 3 = omega (arith, most-3 r) in
    let n : length (drop 1 bytes) ≡ length bytes - 1 = length-drop 1 bytes in
    (length-lay page 0 (drop 1 bytes) (omega arith) ∙ l, rw (← n) (ap (all_are 0xFF) (drop-lay page (drop 1 bytes)) ∙ rest-same 0xFF (length (drop 1 bytes)) page (blank-stays e).1))
  where
    most-3 : (r : Bool) → most_written r ≤ 3
    most-3 true = lit≤ tt
    most-3 false = lit≤ tt

-- one clause a command
module _ (rec : Record) (x : Chip) (at : Address) (bytes wear out : List ℕ) where
  abbrev s : State
  s = x.state

  -- an erase of the unit that holds the address
  erases : (op : Option Operation) (c : Command) → operation_of c ≡ op → (traits_of (model_of rec.model).register c).latch ≡ true
      → (traits_of (model_of rec.model).register c).while_busy ≡ false → (traits_of (model_of rec.model).register c).while_asleep ≡ false
      → place_ok rec.model op at.0 ≡ ltb at.0 (model_of rec.model).length → used_bytes op at.0 ≡ 0
      → (Asked rec s c at bytes → record_ok rec ≡ true → 0 < operation_time rec op)
      → Kind rec x c at bytes wear out 0 false (turned x.page (counted op at wear) out (erase_starts rec s op at bytes))
  unfolding erase_starts
  erases op c e l b a p u t =
      begins op (starting s (get_or bytes 0 0) at.0 (operation_time rec op)) x.page (counted op at wear) false
      (λ q. begin rec x at bytes c l q op at.0 x.page e (p ∙ lt-ltb at.0 (model_of rec.model).length q.inside) (t q) b a (λ z. rw u (blank-stays z)))

  pub kind : (c : Command) → Kind rec x c at bytes wear out (driven_bytes c (length bytes)) (fold_of c at (length bytes)) (accepted_of rec x c at bytes wear out)
  unfolding accepted_of write_enable write_disable write_status erase_starts sleep traits_of driven_bytes fold_of read_status read_config read_from program_page read_id wake read_maker read_sfdp
  kind WriteEnable = turns (latched s true) (λ q. latches true (idle s.busy q.listens))
  kind WriteDisable = turns (latched s false) (λ q. latches false (idle s.busy q.listens))
  kind ReadStatus = drove s 1 (replicate (length bytes - 1) (status_of s)) (λ q. stays)
  kind ReadConfig = drove s 1 (replicate (length bytes - 1) s.config) (λ q. stays)
  kind WriteStatus =
      begins (Some WritesStatus) (starting s (get_or bytes 0 0) (length bytes - 1) (operation_time rec (Some WritesStatus))) (lay x.page 0 (drop 1 bytes)) wear false
      (λ q. begin rec x at bytes WriteStatus refl q (Some WritesStatus) (length bytes - 1) (lay x.page 0 (drop 1 bytes)) refl (number-of-bytes (model_of rec.model).register (length bytes) (q.written refl).0 (q.written refl).1) (λ r. (times rec r).status) refl refl (λ z. first-used (model_of rec.model).register bytes x.page z (q.written refl).1))
  kind Read = drove s 4 (ring x.cells at.0 (length bytes - 4)) (λ q. stays)
  kind FastRead = drove s 5 (ring x.cells at.0 (length bytes - 5)) (λ q. stays)
  kind EraseSector = erases (Some ErasesSector) EraseSector refl refl refl refl refl refl (λ q r. (times rec r).sector)
  kind EraseHalf = erases (Some ErasesHalf) EraseHalf refl refl refl refl refl refl (λ q r. half-some rec r (half-only-3 rec.model (get_or bytes 0 0) q.means))
  kind EraseBlock = erases (Some ErasesBlock) EraseBlock refl refl refl refl refl refl (λ q r. (times rec r).block)
  kind EraseChip =
      begins (Some ErasesChip) (starting s (get_or bytes 0 0) no_address (operation_time rec (Some ErasesChip))) x.page (counted (Some ErasesChip) nowhere wear) false
      (λ q. begin rec x at bytes EraseChip refl q (Some ErasesChip) no_address x.page refl refl (λ r. (times rec r).chip) refl refl (λ z. blank-stays z))
  kind Program =
      rw (← (length-drop 4 bytes))
      (begins (Some Programs) (starting s (get_or bytes 0 0) at.0 (operation_time rec (Some Programs))) (page_after (page_offset at) (drop 4 bytes) x.page) wear (folds (page_offset at) (length (drop 4 bytes)))
      (λ q. begin rec x at bytes Program refl q (Some Programs) at.0 (page_after (page_offset at) (drop 4 bytes) x.page) refl (lt-ltb at.0 (model_of rec.model).length q.inside) (λ r. (times rec r).page) refl refl (λ z. all-used (page_offset at) (drop 4 bytes) x.page z)))
  kind ReadId = drove s 1 (ring (id_bytes (model_of rec.model)) 0 (length bytes - 1)) (λ q. stays)
  kind Wake =
      drove (dozing s false (waking_time rec s (length bytes))) 4 (replicate (length bytes - 4) (model_of rec.model).signature)
      (λ q. dozes false _ (idle s.busy q.listens) (waking-le rec s (length bytes)))
  kind ReadMaker = drove s 4 (ring (maker_bytes (model_of rec.model) (get_or bytes 3 0)) 0 (length bytes - 4)) (λ q. stays)
  kind Sleep = turns (dozing s true rec.sleep) (λ q. dozes true rec.sleep (idle s.busy q.listens) (sleep-le rec))
  kind Unknown = turns s (λ q. stays)
  kind Withdrawn = turns s (λ q. stays)
  kind ReadSfdp = drove s 5 (sfdp_from (sfdp_address (get_or bytes 1 0) (get_or bytes 2 0) (get_or bytes 3 0)).0 (length bytes - 5)) (λ q. stays)

-- ---- what holds of every kind
drives-within : (t : State) (from n : ℕ) → (drives t from n).from + (drives t from n).count ≤ n
unfolding drives
drives-within t from n = go (ltb from n) refl
  where
    go : (b : Bool) → ltb from n ≡ b → cond b from 0 + (n - from) ≤ n
    go true e =
        let l : from < n = ltb-true from n e in
        omega arith
    go false e =
        let l : n ≤ from = ltb-false from n e in
        omega arith

module _ {rec : Record} {x : Chip} {c : Command} {at : Address} {bytes wear out : List ℕ} where
  pub is-done : {n : ℕ} {b : Bool} {e : Effect} → Kind rec x c at bytes wear out n b e → is_done e.reply.answer ≡ true
  unfolding drives
  is-done (turns t m) = refl
  is-done (drove t from ys m) = refl
  is-done (begins op t page after fold m) = refl

  pub counts : {n : ℕ} {b : Bool} {e : Effect} → Kind rec x c at bytes wear out n b e → e.reply.count ≡ n
  unfolding drives
  counts (turns t m) = refl
  counts (drove t from ys m) = refl
  counts (begins op t page after fold m) = refl

  pub within : {n : ℕ} {b : Bool} {e : Effect} → Kind rec x c at bytes wear out n b e → e.reply.from + e.reply.count ≤ length bytes
  within (turns t m) = omega arith
  within (drove t from ys m) = drives-within t from (length bytes)
  within (begins op t page after fold m) = omega arith

  pub moves : {n : ℕ} {b : Bool} {e : Effect} → Kind rec x c at bytes wear out n b e → Asked rec x.state c at bytes → Turn rec x e.reply.state e.page
  unfolding drives
  moves (turns t m) q = moved (m q)
  moves (drove t from ys m) q = moved (m q)
  moves (begins op t page after fold m) q = begun op (m q)

  pub notes : {n : ℕ} {b : Bool} {e : Effect} → Kind rec x c at bytes wear out n b e → e.reply.fold ≡ b
  unfolding drives
  notes (turns t m) = refl
  notes (drove t from ys m) = refl
  notes (begins op t page after fold m) = refl

-- ---- the wear table of an accepted frame: the counts of the sectors that its operation covers are one more; only an erase covers any
module _ (rec : Record) (x : Chip) (at : Address) (bytes wear out : List ℕ) where
  none : (op : Option Operation) → covered op at (length wear) ≡ sectors (sector_at 0) 0 → wear ≡ counted op at wear
  none op e = sym (uncounted op at wear e)

  pub table-after : (c : Command) → (accepted_of rec x c at bytes wear out).wear ≡ counted (operation_of c) at wear
  unfolding accepted_of covered
  table-after WriteEnable = none None refl
  table-after WriteDisable = none None refl
  table-after ReadStatus = none None refl
  table-after ReadConfig = none None refl
  table-after WriteStatus = none (Some WritesStatus) refl
  table-after Read = none None refl
  table-after FastRead = none None refl
  table-after EraseSector = refl
  table-after EraseHalf = refl
  table-after EraseBlock = refl
  table-after EraseChip = all-counted nowhere at wear
  table-after Program = none (Some Programs) refl
  table-after ReadId = none None refl
  table-after Wake = none None refl
  table-after ReadMaker = none None refl
  table-after Sleep = none None refl
  table-after Unknown = none None refl
  table-after Withdrawn = none None refl
  table-after ReadSfdp = none None refl
