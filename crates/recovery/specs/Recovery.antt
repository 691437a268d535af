-- The calls that win a chip back, whatever firmware did to it: 01, "The twelve calls", and the wait after AB, which makes them thirteen. The first wait may
-- end an operation that runs, so the array is compared with what that wait left (Req 05).
use Rattle.answers.specs.Answers.{Done}
use Rattle.std.specs.Prelude.{◌≡◌, Bool, List, [], ◌∷◌, ◌++◌, ℕ, ◌+◌, ◌≤◌, ◌<◌, length, get_or, replicate}
use Rattle.units.specs.declared.Address.{Address}
use Rattle.units.specs.Kinds.{sector_of, sector_start}
use Rattle.models.specs.Models.{model_of, address_of}
use Rattle.cells.specs.Cell.{FF}
use Rattle.parts.specs.Parts.{Bytes, part}
use Rattle.states.specs.States.{longest_of, Chip}
use Rattle.states.specs.declared.Record.{Record}
use Rattle.effects.specs.Effects.{Effect}
use Rattle.counts.specs.Counts.{top_count, count_of, OneMore}
use Rattle.chip.specs.Frames.{Sent}
use Rattle.calls.specs.Calls.{Call, sends, waits, Pod, after, run, answers, tables, effect_after, frame, Roomy, Bench}

-- the output lent to each frame of the list
pub record Outs : Type 0 where
  pub wake_up : List ℕ
  pub enable_unlock : List ℕ
  pub unlock : List ℕ
  pub enable_erase : List ℕ
  pub erase : List ℕ
  pub enable_program : List ℕ
  pub program : List ℕ
  pub read_back : List ℕ

-- the strict setting given with each of them
pub record Settings : Type 0 where
  pub wake_up : Bool
  pub enable_unlock : Bool
  pub unlock : Bool
  pub enable_erase : Bool
  pub erase : Bool
  pub enable_program : Bool
  pub program : Bool
  pub read_back : Bool

-- what is to be written where; the n more bytes that are sent while it is read back; the outputs and the strict settings; and the wear table, as it is lent to the frames up to the erase, and to those after it
pub record Job : Type 0 where
  pub high : ℕ
  pub middle : ℕ
  pub low : ℕ
  pub bytes : List ℕ
  pub more : List ℕ
  pub outs : Outs
  pub strict : Settings
  pub wear : List ℕ
  pub worn : List ℕ

-- ---- the frames of the list
module _ (j : Job) where
  abbrev pub wake_up : Sent
  wake_up = frame (0xAB ∷ []) j.strict.wake_up j.wear j.outs.wake_up

  abbrev pub enable_unlock : Sent
  enable_unlock = frame (0x06 ∷ []) j.strict.enable_unlock j.wear j.outs.enable_unlock

  abbrev pub unlock : Sent
  unlock = frame (0x01 ∷ 0x00 ∷ []) j.strict.unlock j.wear j.outs.unlock

  abbrev pub enable_erase : Sent
  enable_erase = frame (0x06 ∷ []) j.strict.enable_erase j.wear j.outs.enable_erase

  abbrev pub erase : Sent
  erase = frame (0x20 ∷ j.high ∷ j.middle ∷ j.low ∷ []) j.strict.erase j.wear j.outs.erase

  abbrev pub enable_program : Sent
  enable_program = frame (0x06 ∷ []) j.strict.enable_program j.worn j.outs.enable_program

  abbrev pub program : Sent
  program = frame (0x02 ∷ j.high ∷ j.middle ∷ j.low ∷ j.bytes) j.strict.program j.worn j.outs.program

  abbrev pub read_back : Sent
  read_back = frame (0x03 ∷ j.high ∷ j.middle ∷ j.low ∷ j.more) j.strict.read_back j.worn j.outs.read_back

-- ---- the list
module _ (rec : Record) (j : Job) where
  abbrev pub wait_longest : Call
  wait_longest = waits (longest_of rec)

  abbrev pub wait_wake : Call
  wait_wake = waits rec.wake

  abbrev pub wait_unlock : Call
  wait_unlock = waits rec.status_write

  abbrev pub wait_erase : Call
  wait_erase = waits rec.sector

  abbrev pub wait_program : Call
  wait_program = waits rec.page

  -- up to each operation, up to the read, and whole
  abbrev pub to_unlock : List Call
  to_unlock = wait_longest ∷ sends (wake_up j) ∷ wait_wake ∷ sends (enable_unlock j) ∷ sends (unlock j) ∷ []

  abbrev pub to_erase : List Call
  to_erase = to_unlock ++ (wait_unlock ∷ sends (enable_erase j) ∷ sends (erase j) ∷ [])

  abbrev pub to_program : List Call
  to_program = to_erase ++ (wait_erase ∷ sends (enable_program j) ∷ sends (program j) ∷ [])

  abbrev pub to_read : List Call
  to_read = to_program ++ (wait_program ∷ [])

  abbrev pub recovery : List Call
  recovery = to_read ++ (sends (read_back j) ∷ [])

  -- the job's address, as a number too, and the first address of its sector
  abbrev pub target : Address
  target = address_of rec.model j.high j.middle j.low

  abbrev pub place : ℕ
  place = target.0

  abbrev pub base : ℕ
  base = sector_start (sector_of target)

-- ---- what the list asks for
pub record Rooms (j : Job) : Type 0 where
  pub wake_up : Roomy (wake_up j)
  pub enable_unlock : Roomy (enable_unlock j)
  pub unlock : Roomy (unlock j)
  pub enable_erase : Roomy (enable_erase j)
  pub erase : Roomy (erase j)
  pub enable_program : Roomy (enable_program j)
  pub program : Roomy (program j)
  pub read_back : Roomy (read_back j)

-- n data bytes with 1 ≤ n ≤ 256 and a + n ≤ 256, a being the page offset; a table of the right length, whose count of the addressed sector is below its top, and
-- the same with that count one more
pub record JobFits (rec : Record) (j : Job) : Type 0 where
  pub some : 1 ≤ length j.bytes
  pub page : j.low + length j.bytes ≤ 256
  pub bytes : Bytes j.bytes
  pub more : length j.more ≡ length j.bytes
  pub rooms : Rooms j
  pub table : length j.wear ≡ (model_of rec.model).sectors
  pub spare : count_of j.wear (sector_of (target rec j)) < top_count
  pub after : OneMore (sector_of (target rec j)) j.wear j.worn

-- ---- what it gives
-- what has come of the chip x, which the first wait left and which is now y, and what the last frame did
pub record Won (rec : Record) (j : Job) (x y : Chip) (last : Effect) : Type 0 where
  -- the last frame drives exactly the n data bytes, from position 4
  pub from : last.reply.from ≡ 4
  pub count : last.reply.count ≡ length j.bytes
  pub drives : part last.out 4 (length j.bytes) ≡ j.bytes
  -- the cells from the address on hold them
  pub holds : part y.cells (place rec j) (length j.bytes) ≡ j.bytes
  -- the rest of the sector is FF
  pub rest-before : (k : ℕ) → base rec j ≤ k → k < place rec j → get_or y.cells k 0 ≡ FF
  pub rest-after : (k : ℕ) → place rec j + length j.bytes ≤ k → k < base rec j + 4096 → get_or y.cells k 0 ≡ FF
  -- outside that sector no byte differs from before
  pub below : (k : ℕ) → k < base rec j → get_or y.cells k 0 ≡ get_or x.cells k 0
  pub above : (k : ℕ) → base rec j + 4096 ≤ k → get_or y.cells k 0 ≡ get_or x.cells k 0

-- every call is answered 0, each frame leaves the table as it was lent but for the erase, which leaves it with that count one more, and the chip is won back
pub record Recovers (p : Pod) (rec : Record) (j : Job) (x : Chip) : Type 0 where
  pub answered : answers p rec [] (recovery rec j) x ≡ replicate (length (recovery rec j)) Done
  pub counted : tables p rec [] (recovery rec j) x ≡ j.wear ∷ j.wear ∷ j.wear ∷ j.wear ∷ j.worn ∷ j.worn ∷ j.worn ∷ j.worn ∷ []
  pub won : Won rec j (after p rec [] (wait_longest rec j) x) (run p rec [] (recovery rec j) x) (effect_after p rec (to_read rec j) x (read_back j))

-- demand 3, of any pod
abbrev pub WinsBack : Pod → Type 0
WinsBack p = (rec : Record) (j : Job) (x : Chip) → Bench rec x → JobFits rec j → Recovers p rec j x
