-- A block of script text played on lent bytes: `feed_of` and `last_of` between unpacking and packing.
use Rattle.std.specs.Prelude.{Bool, true, ◌&&◌, cond, List, ◌≡◌, ℕ, eqb, leb, length}
use Rattle.states.specs.declared.Record.{Record}
use Rattle.packing.specs.Packing.{packed, page_in, is_packing, unpack_of}
use Rattle.lines.specs.Cutting.{held_room}
use Rattle.script_log.specs.Row.{longest_row}
use Rattle.feed.specs.declared.Run.{Run}
use Rattle.feed.specs.Feed.{Stand, feed_of, last_of}

-- what is lent: the state bytes, the array, the wear table, the buffer for a line that is open and how many of its bytes are in use, the number of the next
-- line, and the log
pub record Lending : Type 0 where
  pub state : List ℕ
  pub cells : List ℕ
  pub wear : List ℕ
  pub held : List ℕ
  pub used : ℕ
  pub line : ℕ
  pub log : List ℕ

abbrev pub lending : List ℕ → List ℕ → List ℕ → List ℕ → ℕ → ℕ → List ℕ → Lending
lending state cells wear held used line log = record { state = state; cells = cells; wear = wear; held = held; used = used; line = line; log = log }

-- where it stands: nothing taken of the block or written into the log, and the state that the bytes pack
abbrev pub lent_run : ℕ → ℕ → Run
lent_run used line = record { number = line; used = used; at = 0; filled = 0 }

abbrev pub lent_stand : Lending → Stand
lent_stand x = record { run = lent_run x.used x.line; state = unpack_of x.state; held = x.held; page = page_in x.state; cells = x.cells; wear = x.wear; log = x.log }

-- the same, packed again
abbrev pub lent_after : Stand → Lending
lent_after t = lending (packed t.state t.page) t.cells t.wear t.held t.run.used t.run.number t.log

-- 3 where the state bytes are no packing; 5 where the buffer for a line has another length than 641, or more of it is in use, or the log has not the room that is asked for; else 0
unfoldable pub block_refusal : List ℕ → ℕ → ℕ → Bool → ℕ
block_refusal state room used roomy = cond (is_packing state) (cond (eqb room held_room && (leb used held_room && roomy)) 0 5) 3

-- the number that is answered, what is lent as it is after, and how much was taken of the block and written into the log
pub record BlockDone : Type 0 where
  pub number : ℕ
  pub after : Lending
  pub taken : ℕ
  pub written : ℕ

-- a refused call changes nothing of what is lent
abbrev pub played_from : Lending → ℕ → Stand → BlockDone
played_from x number t =
    cond (eqb number 0) (record { number = 0; after = lent_after t; taken = t.run.at; written = t.run.filled }) (record { number = number; after = x; taken = 0; written = 0 })

-- the lines that end in the block
unfoldable pub played_block : Record → Bool → List ℕ → Lending → BlockDone
played_block rec strict script x = played_from x (block_refusal x.state (length x.held) x.used true) (feed_of rec strict script (lent_stand x))

-- the text has ended: the line that is held, for which the log needs room
unfoldable pub played_last : Record → Bool → Lending → BlockDone
played_last rec strict x = played_from x (block_refusal x.state (length x.held) x.used (leb longest_row (length x.log))) (last_of rec strict (lent_stand x))

-- what a call gives and leaves in what it is lent
pub record LeavesBlock (d : BlockDone) (number : ℕ) (state cells wear held : List ℕ) (used line : ℕ) (log : List ℕ) (taken written : ℕ) : Type 0 where
  pub number_is : number ≡ d.number
  pub state-is : state ≡ d.after.state
  pub cells_are : cells ≡ d.after.cells
  pub wear-is : wear ≡ d.after.wear
  pub held-is : held ≡ d.after.held
  pub used-is : used ≡ d.after.used
  pub line-is : line ≡ d.after.line
  pub log_is : log ≡ d.after.log
  pub taken_is : taken ≡ d.taken
  pub written_is : written ≡ d.written

-- at the text's end the buffer for a line is only read, and there is no block
pub record LeavesLast (d : BlockDone) (number : ℕ) (state cells wear : List ℕ) (used line : ℕ) (log : List ℕ) (written : ℕ) : Type 0 where
  pub number_is : number ≡ d.number
  pub state-is : state ≡ d.after.state
  pub cells_are : cells ≡ d.after.cells
  pub wear-is : wear ≡ d.after.wear
  pub used-is : used ≡ d.after.used
  pub line-is : line ≡ d.after.line
  pub log_is : log ≡ d.after.log
  pub written_is : written ≡ d.written
