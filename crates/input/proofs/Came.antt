-- One block, one read, and read after read: what they leave.
use mathlib.Core.Path.{◌≡◌, refl, sym, ap, subst, ◌∙◌}
use mathlib.Core.Bool.{Bool, true, false, false≢true}
use mathlib.Core.List.{List, [], ◌∷◌, ◌++◌}
use Prim.Native.Nat.{ℕ, ◌<◌, ◌≤◌}
use native.Mathlib.Omega.{arith}
use lib.Dec.{eqb}
use lib.ListN.{length, take}
use borrow.Author.Tests.{eqb-true, eqb-false}
use Rattle.std.specs.Prelude.{Option, is_some}
use Rattle.std.specs.declared.ops.ControlFlow.{ControlFlow}
use Rattle.std.specs.declared.ops.ControlFlow.TheVariants.{Continue, Break}
use Rattle.states.specs.declared.Record.{Record}
use Rattle.states.specs.declared.State.{State}
use Rattle.states.specs.States.{power_on, chip_of}
use Rattle.lines.specs.Lines.{lines_from, joined_up}
use Rattle.lines.specs.Cutting.{held_room}
use Rattle.lines.proofs.Says.{holds-none}
use Rattle.script_log.specs.Row.{longest_row}
use Rattle.play.specs.declared.Bench.{Bench}
use Rattle.play.specs.Play.{StaysLent}
use Rattle.stepper.specs.Rows.{Device, device_from}
use Rattle.feed.specs.declared.Run.{Run}
use Rattle.feed.specs.Feed.{Stand, standing, device_now, feed_of, last_of, Stands}
use Rattle.feed.specs.Script.{begun, emptied_run, stand_after, whole_block, passed_blocks}
use Rattle.feed.proofs.Turns.{stands}
use Rattle.feed.proofs.Script.{whole-device}
use Rattle.feed.proofs.Blocks.{Passing, passing-on, passing-less, passed-more}
use Rattle.input.specs.Input.{first_run, brought, BlockPlayed, Kept, BlockTaken, BlockRead, ScriptPlayed}

-- ---- one block
-- a feed more, of the bench with the record and the setting that it began with
pub passing-fed : {a b c : Bench} {block : List ℕ} {start : Stand} {r r' : Run} {held held' log log' : List ℕ} → StaysLent a b → Passing a.rec a.strict block start (standing r b held log) → r.at < length block
    → Stands (feed_of b.rec b.strict block (standing r b held log)) r' c held' log' → Passing a.rec a.strict block start (standing (emptied_run r') c held' log')
passing-fed k g l f = passing-on g l (rw (k.same_record, k.same_setting) at f) refl

pub passing-further : {a b c : Bench} {block : List ℕ} {start : Stand} {r r' : Run} {held held' log log' : List ℕ} → StaysLent a b → Passing a.rec a.strict block start (standing r b held log) → r.at < length block
    → Stands (feed_of b.rec b.strict block (standing r b held log)) r' c held' log' → r.at < r'.at
passing-further k g l f = passing-less g l (rw (k.same_record, k.same_setting) at f)

-- ---- what a read answered
-- some block brought it from s to t
pub record SomeBlock (rec : Record) (strict : Bool) (s t : Stand) : Type 0 where
  pub block : List ℕ
  pub is : t ≡ (whole_block rec strict block s).stand

-- one read from s on: where it goes on, some block was played; where it has ended well, the last line was
abbrev pub Went : Record → Bool → Stand → ControlFlow Bool Run → Bench → List ℕ → List ℕ → Type 0
Went rec strict s (Continue run) b held log = (run.used ≤ held_room) × SomeBlock rec strict s (standing run b held log)
Went rec strict s (Break well) b held log = well ≡ true → Kept (last_of rec strict (begun s)) b

went_on : (rec : Record) (strict written : Bool) (block : List ℕ) (s : Stand) (r : ControlFlow Bool Run) (b : Bench) (held log : List ℕ) → BlockPlayed rec strict written block s r b held log → Went rec strict s r b held log
went_on rec strict written block s (Continue run) b held log p = (p.0, record { block = block; is = stands p.1 })
went_on rec strict written block s (Break well) b held log p = λ q. absurd (false≢true (sym p.0 ∙ q))

went : {rec : Record} {strict written : Bool} {block : List ℕ} {s : Stand} {r : ControlFlow Bool Run} {b : Bench} {held log : List ℕ} (got : Option ℕ) → BlockTaken rec strict written got block s r b held log
    → Went rec strict s r b held log
went {rec} {strict} {written} {block} {s} {r} {b} {held} {log} got t = go (is_some got) refl (eqb (brought got (length block)) 0) refl
  where
    ended : {well : Bool} → r ≡ Break well → (well ≡ true → Kept (last_of rec strict (begun s)) b) → Went rec strict s r b held log
    ended e k = subst (λ (z : ControlFlow Bool Run). Went rec strict s z b held log) (sym e) k

    go : (a : Bool) → is_some got ≡ a → (z : Bool) → eqb (brought got (length block)) 0 ≡ z → Went rec strict s r b held log
    go false h z e = ended (t.failed h).0 (λ q. absurd (false≢true q))
    go true h true e =
        let l = t.last h (eqb-true (brought got (length block)) 0 e) in
        ended l.ends (λ q. l.played.kept)
    go true h false e = went_on rec strict written (take (brought got (length block)) block) s r b held log (t.some (omega (arith, eqb-false (brought got (length block)) 0 e)))

-- ---- read after read: some blocks brought it from `start` to `now`
pub record Came (rec : Record) (strict : Bool) (start now : Stand) : Type 0 where
  pub blocks : List (List ℕ)
  pub is : now ≡ passed_blocks rec strict start blocks

pub came-none : (rec : Record) (strict : Bool) (s : Stand) → Came rec strict s s
came-none rec strict s = record { blocks = []; is = refl }

pub came-more : {rec : Record} {strict : Bool} {start s t : Stand} → Came rec strict start s → SomeBlock rec strict s t → Came rec strict start t
came-more {rec} {strict} {start} c b =
    record {
      blocks = c.blocks ++ (b.block ∷ []);
      is = b.is ∙ ap (λ (z : Stand). (whole_block rec strict b.block z).stand) c.is ∙ sym (passed-more rec strict start c.blocks b.block);
    }

-- at the input's end chip and table are as the lines of all blocks leave them
came-last : {rec : Record} {strict : Bool} (b : Bench) {c : Bench} {s : Stand} {held log : List ℕ} → b.state ≡ power_on → length held ≡ held_room → longest_row ≤ length log
    → Came rec strict (standing first_run b held log) s → Kept (last_of rec strict (begun s)) c → ScriptPlayed rec strict b.page.now b.array.now b.wear.now c.page.now c.array.now c.wear.now
came-last {rec} {strict} b {c} {s} {held} {log} o l r d k =
    record {
      script = joined_up d.blocks;
      page-is = k.page' ∙ ap (λ (z : Stand). (last_of rec strict (begun z)).page) d.is ∙ ap (λ (z : Device). z.chip.page) whole;
      cells_are = k.cells' ∙ ap (λ (z : Stand). (last_of rec strict (begun z)).cells) d.is ∙ ap (λ (z : Device). z.chip.cells) whole;
      wear-is = k.wear' ∙ ap (λ (z : Stand). (last_of rec strict (begun z)).wear) d.is ∙ ap (λ (z : Device). z.wear) whole;
    }
  where
    whole : device_now (stand_after rec strict (standing first_run b held log) d.blocks) ≡ device_from rec strict (chip_of power_on b.page.now b.array.now) b.wear.now (lines_from [] (joined_up d.blocks))
    whole =
        whole-device rec strict (standing first_run b held log) [] d.blocks l r (holds-none held)
        ∙ ap (λ (z : State). device_from rec strict (chip_of z b.page.now b.array.now) b.wear.now (lines_from [] (joined_up d.blocks))) o

-- of the bench with the record and the setting that it began with: it goes on, or it has ended
pub came-on : {a b c : Bench} {start : Stand} {run next : Run} {written : Bool} {block held held' log log' : List ℕ} → StaysLent a b → Came a.rec a.strict start (standing run b held log)
    → BlockRead b.rec b.strict written block (standing run b held log) (Continue next) c held' log' → (next.used ≤ held_room) × Came a.rec a.strict start (standing next c held' log')
came-on k d t =
    let w = rw (k.same_record, k.same_setting) at (went t.got t.taken) in
    (w.0, came-more d w.1)

pub came-ended : (a : Bench) {b c : Bench} {run : Run} {written well : Bool} {block held₀ held held' log₀ log log' : List ℕ} → StaysLent a b → a.state ≡ power_on → length held₀ ≡ held_room → longest_row ≤ length log₀
    → Came a.rec a.strict (standing first_run a held₀ log₀) (standing run b held log) → BlockRead b.rec b.strict written block (standing run b held log) (Break well) c held' log' → well ≡ true
    → ScriptPlayed a.rec a.strict a.page.now a.array.now a.wear.now c.page.now c.array.now c.wear.now
came-ended a k o l r d t e = came-last a o l r d (rw (k.same_record, k.same_setting) at (went t.got t.taken e))
