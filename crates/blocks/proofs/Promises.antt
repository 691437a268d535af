-- The promises of specs/Promises.antt.
use mathlib.Core.Path.{◌≡◌, refl, sym, ap, subst, ◌∙◌}
use mathlib.Core.Bool.{Bool, true, false}
use mathlib.Core.List.{List, ◌++◌}
use Prim.Native.Nat.{ℕ}
use native.Mathlib.Omega.{arith}
use lib.Dec.{eqb, leb}
use lib.ListN.{length, take, drop}
use borrow.Author.Tests.{eqb-true, leb-true}
use Rattle.states.specs.States.{Chip}
use Rattle.states.specs.declared.Record.{Record}
use Rattle.packing.proofs.Packing.{page-packed, unpack-pack}
use Rattle.lines.specs.Lines.{lines_from, last_line}
use Rattle.lines.specs.Cutting.{Holds}
use Rattle.script_log.specs.Row.{longest_row}
use Rattle.stepper.specs.Rows.{log_from}
use Rattle.feed.specs.Feed.{Stand, chip_now, feed_of, last_of}
use Rattle.feed.specs.Fed.{Did}
use Rattle.feed.specs.Script.{begun}
use Rattle.feed.proofs.Feeds.{feed-feeds, last-finishes}
use Rattle.feed.proofs.Script.{put-filled}
use Rattle.blocks.specs.Blocks.{Lending, lent_stand, lent_after, block_refusal, played_from, played_block, played_last, BlockDone}
use Rattle.blocks.specs.Promises.{BlockCarries, LastCarries, with_log, rows_in, ends, plays, RowsAreTheLog, OneBlock, OneLast}
use Rattle.blocks.proofs.Lines.{Fitting, feed-fits, last_fits}
use Rattle.blocks.proofs.Lent.{Taken, taken, fitting, done, played-done}

-- ---- what the next call finds
lent-after : (t : Stand) → Fitting t → lent_stand (lent_after t) ≡ begun t
lent-after t h = rw (unpack-pack t.state t.page h.small h.long, page-packed t.state t.page)

-- an answer of 0 is that of a call that is not refused
not-refused : (x : Lending) (n : ℕ) (t : Stand) → (played_from x n t).number ≡ 0 → n ≡ 0
not-refused x n t = go (eqb n 0) refl
  where
    go : (b : Bool) → eqb n 0 ≡ b → (played_from x n t).number ≡ 0 → n ≡ 0
    go true e z = eqb-true n 0 e
    go false e z = rw e at z

module _ (rec : Record) (strict : Bool) (script : List ℕ) (x : Lending) (z : (played_block rec strict script x).number ≡ 0) where
  abbrev fed : Stand
  fed = feed_of rec strict script (lent_stand x)

  abbrev said : ℕ
  said = block_refusal x.state (length x.held) x.used true

  block-zero : said ≡ 0
  unfolding played_block
  block-zero = not-refused x said fed z

  block-done : played_block rec strict script x ≡ done x fed
  unfolding played_block
  block-done = played-done x fed said block-zero

  block-shown : Taken x.state (length x.held) x.used true
  block-shown = taken x.state (length x.held) x.used true block-zero

  fed-fits : Fitting fed
  fed-fits = feed-fits rec strict script (lent_stand x) (fitting x block-shown.packing)

module _ (rec : Record) (strict : Bool) (x : Lending) (z : (played_last rec strict x).number ≡ 0) where
  abbrev ended : Stand
  ended = last_of rec strict (lent_stand x)

  abbrev roomy : Bool
  roomy = leb longest_row (length x.log)

  abbrev said-last : ℕ
  said-last = block_refusal x.state (length x.held) x.used roomy

  last-zero : said-last ≡ 0
  unfolding played_last
  last-zero = not-refused x said-last ended z

  last_done : played_last rec strict x ≡ done x ended
  unfolding played_last
  last_done = played-done x ended said-last last-zero

  last-shown : Taken x.state (length x.held) x.used roomy
  last-shown = taken x.state (length x.held) x.used roomy last-zero

pub block-carries : BlockCarries
block-carries rec strict script x z =
    ap (λ (d : BlockDone). lent_stand d.after) (block-done rec strict script x z) ∙ lent-after (fed rec strict script x z) (fed-fits rec strict script x z)

pub last-carries : LastCarries
last-carries rec strict x z =
    ap (λ (d : BlockDone). lent_stand d.after) (last_done rec strict x z)
    ∙ lent-after (ended rec strict x z) (last_fits rec strict (lent_stand x) (fitting x (last-shown rec strict x z).packing))

-- ---- the rows of all calls
-- of one call: the log of the lines to come is its rows and the log of the lines still to come
record Rows (rec : Record) (strict : Bool) (script : List ℕ) (x : Lending) (line : List ℕ) (d : BlockDone) : Type 0 where
  rest : List ℕ
  holds : Holds rest d.after.held d.after.used
  same : (later log : List ℕ)
      → log_from rec strict (chip_now (lent_stand x)) x.wear x.line (lines_from line (script ++ later))
      ≡ rows_in d ++ log_from rec strict (chip_now (lent_stand (with_log d.after log))) d.after.wear d.after.line (lines_from rest (drop d.taken script ++ later))

block-rows : (rec : Record) (strict : Bool) (script : List ℕ) (x : Lending) (line : List ℕ) → (played_block rec strict script x).number ≡ 0 → Holds line x.held x.used
    → Rows rec strict script x line (played_block rec strict script x)
block-rows rec strict script x line z h = subst (Rows rec strict script x line) (sym (block-done rec strict script x z)) rows
  where
    did : Did rec strict script (lent_stand x) (feed_of rec strict script (lent_stand x)) line
    did =
        let k = block-shown rec strict script x z in
        (feed-feeds rec strict script (lent_stand x) (record { inside = omega arith; hold = k.hold; used = k.within; within = omega arith })).did line h

    chip-after : chip_now (lent_stand (lent_after (feed_of rec strict script (lent_stand x)))) ≡ chip_now (feed_of rec strict script (lent_stand x))
    chip-after = ap chip_now (lent-after (feed_of rec strict script (lent_stand x)) (fed-fits rec strict script x z))

    rows : Rows rec strict script x line (done x (feed_of rec strict script (lent_stand x)))
    rows =
        let t : Stand = feed_of rec strict script (lent_stand x) in
        record {
          rest = did.rest;
          holds = did.holds;
          same = λ later log.
              did.same later
              ∙ ap (λ (r : List ℕ). r ++ log_from rec strict (chip_now t) t.wear t.run.number (lines_from did.rest (drop t.run.at script ++ later))) (sym (put-filled did.put))
              ∙ ap (λ (c : Chip). take t.run.filled t.log ++ log_from rec strict c t.wear t.run.number (lines_from did.rest (drop t.run.at script ++ later))) (sym chip-after);
        }

last-rows : (rec : Record) (strict : Bool) (x : Lending) (line : List ℕ) → (played_last rec strict x).number ≡ 0 → Holds line x.held x.used
    → rows_in (played_last rec strict x) ≡ log_from rec strict (chip_now (lent_stand x)) x.wear x.line (last_line line)
last-rows rec strict x line z h =
    let k = last-shown rec strict x z in
    ap rows_in (last_done rec strict x z)
    ∙ put-filled ((last-finishes rec strict (lent_stand x) k.hold (leb-true longest_row (length x.log) k.space)).did line h)

pub rows-are-the-log : RowsAreTheLog
rows-are-the-log rec strict x line text rows h (ends z) = last-rows rec strict x line z h
rows-are-the-log rec strict x line text rows h (plays {rows = more} script later log z p) =
    let b = block-rows rec strict script x line z h in
    let d : BlockDone = played_block rec strict script x in
    ap (λ (r : List ℕ). rows_in d ++ r) (rows-are-the-log rec strict (with_log d.after log) b.rest (drop d.taken script ++ later) more b.holds p) ∙ sym (b.same later log)

-- ---- no second answer
pub one_block : OneBlock
one_block d n n₂ state state₂ cells cells₂ wear wear₂ held held₂ used used₂ line line₂ log log₂ taken taken₂ written written₂ p q =
    (p.number_is ∙ sym q.number_is, p.state-is ∙ sym q.state-is, p.cells_are ∙ sym q.cells_are, p.wear-is ∙ sym q.wear-is, p.held-is ∙ sym q.held-is, p.used-is ∙ sym q.used-is, p.line-is ∙ sym q.line-is, p.log_is ∙ sym q.log_is, p.taken_is ∙ sym q.taken_is, p.written_is ∙ sym q.written_is)

pub one_last : OneLast
one_last d n n₂ state state₂ cells cells₂ wear wear₂ used used₂ line line₂ log log₂ written written₂ p q =
    (p.number_is ∙ sym q.number_is, p.state-is ∙ sym q.state-is, p.cells_are ∙ sym q.cells_are, p.wear-is ∙ sym q.wear-is, p.used-is ∙ sym q.used-is, p.line-is ∙ sym q.line-is, p.log_is ∙ sym q.log_is, p.written_is ∙ sym q.written_is)
