-- What is shown of blocks played on lent bytes; proofs/Promises.antt proves each under its name in small letters.
use Rattle.std.specs.Prelude.{Bool, List, [], ◌++◌, ◌≡◌, ℕ, take, drop}
use Rattle.states.specs.declared.Record.{Record}
use Rattle.lines.specs.Lines.{lines_from}
use Rattle.lines.specs.Cutting.{Holds}
use Rattle.stepper.specs.Rows.{log_from}
use Rattle.feed.specs.Feed.{chip_now, feed_of, last_of}
use Rattle.feed.specs.Script.{begun}
use Rattle.blocks.specs.Blocks.{Lending, lending, lent_stand, played_block, played_last, BlockDone, LeavesBlock, LeavesLast}

-- ---- what the next call finds is where this one left off, at the start of its block and with an empty log
abbrev pub BlockCarries : Type 0
BlockCarries =
    (rec : Record) (strict : Bool) (script : List ℕ) (x : Lending) → (played_block rec strict script x).number ≡ 0
    → lent_stand (played_block rec strict script x).after ≡ begun (feed_of rec strict script (lent_stand x))

abbrev pub LastCarries : Type 0
LastCarries = (rec : Record) (strict : Bool) (x : Lending) → (played_last rec strict x).number ≡ 0 → lent_stand (played_last rec strict x).after ≡ begun (last_of rec strict (lent_stand x))

-- ---- a script played call by call: each is lent what the one before has left and a log of any length, and gets of the text that was not taken yet a block of any
-- length; at the text's end comes the last line
abbrev pub with_log : Lending → List ℕ → Lending
with_log x log = lending x.state x.cells x.wear x.held x.used x.line log

abbrev pub rows_in : BlockDone → List ℕ
rows_in d = take d.written d.after.log

pub data PlayedAll (rec : Record) (strict : Bool) : Lending → List ℕ → List ℕ → Type 0 where
  ends : {x : Lending} → (played_last rec strict x).number ≡ 0 → PlayedAll rec strict x [] (rows_in (played_last rec strict x))
  plays : {x : Lending} {rows : List ℕ} (script later log : List ℕ) → (played_block rec strict script x).number ≡ 0
      → PlayedAll rec strict (with_log (played_block rec strict script x).after log) (drop (played_block rec strict script x).taken script ++ later) rows
      → PlayedAll rec strict x (script ++ later) (rows_in (played_block rec strict script x) ++ rows)

-- all rows together are the log of the text's lines, whatever `line` is held at the start
abbrev pub RowsAreTheLog : Type 0
RowsAreTheLog =
    (rec : Record) (strict : Bool) (x : Lending) (line text rows : List ℕ) → Holds line x.held x.used → PlayedAll rec strict x text rows
    → rows ≡ log_from rec strict (chip_now (lent_stand x)) x.wear x.line (lines_from line text)

-- ---- no second answer
abbrev pub OneBlock : Type 0
OneBlock = (d : BlockDone) (n n₂ : ℕ) (state state₂ cells cells₂ wear wear₂ held held₂ : List ℕ) (used used₂ line line₂ : ℕ) (log log₂ : List ℕ) (taken taken₂ written written₂ : ℕ)
    → LeavesBlock d n state cells wear held used line log taken written → LeavesBlock d n₂ state₂ cells₂ wear₂ held₂ used₂ line₂ log₂ taken₂ written₂
    → (n ≡ n₂) × (state ≡ state₂) × (cells ≡ cells₂) × (wear ≡ wear₂) × (held ≡ held₂) × (used ≡ used₂) × (line ≡ line₂) × (log ≡ log₂) × (taken ≡ taken₂) × (written ≡ written₂)

abbrev pub OneLast : Type 0
OneLast = (d : BlockDone) (n n₂ : ℕ) (state state₂ cells cells₂ wear wear₂ : List ℕ) (used used₂ line line₂ : ℕ) (log log₂ : List ℕ) (written written₂ : ℕ)
    → LeavesLast d n state cells wear used line log written → LeavesLast d n₂ state₂ cells₂ wear₂ used₂ line₂ log₂ written₂
    → (n ≡ n₂) × (state ≡ state₂) × (cells ≡ cells₂) × (wear ≡ wear₂) × (used ≡ used₂) × (line ≡ line₂) × (log ≡ log₂) × (written ≡ written₂)
