-- What feeding a block does: one turn after the other, each one line or the rest of the block.
use Rattle.std.specs.Prelude.{◌≡◌, ℕ, zero, suc, ◌+◌, ◌-◌, ◌<◌, ◌≤◌, Bool, cond, ◌&&◌, List, length, take, drop, ◌==◌, nat_le, nat_lt}
use Rattle.parts.specs.Parts.{lay}
use Rattle.states.specs.declared.Record.{Record}
use Rattle.states.specs.declared.State.{State}
use Rattle.states.specs.States.{Chip, chip_of}
use Rattle.lines.specs.declared.Cut.{Cut}
use Rattle.lines.specs.declared.Cut.TheVariants.{Here, Joined, Open}
use Rattle.lines.specs.Cutting.{cut_of, held_of, held_room}
use Rattle.play.specs.declared.Bench.{Bench}
use Rattle.play.specs.Play.{Turn}
use Rattle.stepper.specs.Rows.{Device, line_turn, row_text, next}
use Rattle.script_log.specs.Row.{longest_row}
use Rattle.feed.specs.declared.Run.{Run}

-- where a feed starts
pub record Start (run : Run) (held block log : List ℕ) : Type 0 where
  pub inside : run.at ≤ length block
  pub hold : length held ≡ held_room
  pub used : run.used ≤ held_room
  pub within : run.filled ≤ length log

-- the log has room for the longest row, and the buffer for the line that is held has 641 bytes: enough to know a line over 640 for one
pub record TurnStart (run : Run) (held block log : List ℕ) : Type 0 where
  pub inside : run.at < length block
  pub hold : length held ≡ held_room
  pub used : run.used ≤ held_room
  pub room : run.filled + longest_row ≤ length log

-- after a line, whose row ends at `filled`: nothing is held, and the next line has the next number
abbrev pub goes_on : ℕ → ℕ → ℕ → Run
goes_on filled number at = record { number = next number; used = 0; at = at; filled = filled }

-- the block ends with n bytes of a line held
abbrev pub still_open : Run → ℕ → ℕ → Run
still_open run n at = record { number = run.number; used = n; at = at; filled = run.filled }

-- where a feed stands: the run, the chip's state, the buffer for the line that is held, the page data, the array, the wear table and the log
pub record Stand : Type 0 where
  pub run : Run
  pub state : State
  pub held : List ℕ
  pub page : List ℕ
  pub cells : List ℕ
  pub wear : List ℕ
  pub log : List ℕ

-- the chip is on the bench
abbrev pub standing : Run → Bench → List ℕ → List ℕ → Stand
standing run b held log = record { run = run; state = b.state; held = held; page = b.page.now; cells = b.array.now; wear = b.wear.now; log = log }

abbrev pub chip_now : Stand → Chip
chip_now s = chip_of s.state s.page s.cells

-- the chip and the wear table as they stand
abbrev pub device_now : Stand → Device
device_now s = record { chip = chip_now s; wear = s.wear }

-- a line is played, and its row put into the log; the next line starts at `to`
unfoldable pub line_done : Record → Bool → Stand → List ℕ → List ℕ → ℕ → Stand
line_done rec strict s held line to =
    let t : Turn = line_turn rec strict (chip_now s) s.wear line in
    let row : List ℕ = row_text rec strict (chip_now s) s.wear s.run.number line in
    record {
      run = goes_on (s.run.filled + length row) s.run.number to;
      state = t.state;
      held = held;
      page = t.page;
      cells = t.cells;
      wear = t.wear;
      log = lay s.log s.run.filled row;
    }

-- a line that lies in the block; one that began before it; none that ends in it
abbrev pub cut_turn : Record → Bool → List ℕ → Stand → List ℕ → Cut → Stand
cut_turn rec strict block s held (Here e) = line_done rec strict s held (take (e - s.run.at) (drop s.run.at block)) (e + 1)
cut_turn rec strict block s held (Joined n e) = line_done rec strict s held (take n held) (e + 1)
cut_turn rec strict block s held (Open n) =
    record {
      run = still_open s.run n (length block);
      state = s.state;
      held = held;
      page = s.page;
      cells = s.cells;
      wear = s.wear;
      log = s.log;
    }

unfoldable pub feed_turn : Record → Bool → List ℕ → Stand → Stand
feed_turn rec strict block s = cut_turn rec strict block s (held_of s.held s.run.used block s.run.at) (cut_of s.held s.run.used block s.run.at)

-- at most n turns, while the block is not used up and the log has room for the longest row
abbrev pub feed_for : Record → Bool → List ℕ → ℕ → Stand → Stand
feed_for rec strict block zero s = s
feed_for rec strict block (suc n) s = cond (nat_lt s.run.at (length block) && nat_le (s.run.filled + longest_row) (length s.log)) (feed_for rec strict block n (feed_turn rec strict block s)) s

-- each turn uses up a byte at least, so that the block's length is enough
unfoldable pub feed_of : Record → Bool → List ℕ → Stand → Stand
feed_of rec strict block s = feed_for rec strict block (length block) s

-- at the input's end a line that is held is the last one
unfoldable pub last_of : Record → Bool → Stand → Stand
last_of rec strict s = cond (s.run.used == 0) s (line_done rec strict s s.held (take s.run.used s.held) s.run.at)

-- what a call gives and leaves on the bench and in the lent buffers
pub record Stands (t : Stand) (r : Run) (b : Bench) (held log : List ℕ) : Type 0 where
  pub run' : r ≡ t.run
  pub state' : b.state ≡ t.state
  pub held' : held ≡ t.held
  pub page' : b.page.now ≡ t.page
  pub cells' : b.array.now ≡ t.cells
  pub wear' : b.wear.now ≡ t.wear
  pub log' : log ≡ t.log

-- no second answer
abbrev pub OneStands : Type 0
OneStands = (t : Stand) (r r₂ : Run) (b b₂ : Bench) (held held₂ log log₂ : List ℕ) → Stands t r b held log → Stands t r₂ b₂ held₂ log₂
    → (r ≡ r₂) × (b.state ≡ b₂.state) × (held ≡ held₂) × (b.page.now ≡ b₂.page.now) × (b.array.now ≡ b₂.array.now) × (b.wear.now ≡ b₂.wear.now) × (log ≡ log₂)
