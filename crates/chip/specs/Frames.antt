-- Any frame: its head, the refusals, and what its command does.
use Rattle.std.specs.Prelude.{Bool, cond, List, ℕ, length, get_or, Option, Some, None, Err}
use Rattle.units.specs.declared.Address.{Address}
use Rattle.models.specs.Models.{address_of}
use Rattle.answers.specs.Answers.{Answer, Done, is_done}
use Rattle.commands.specs.Commands.{decode_of, operation_of, started_by}
use Rattle.states.specs.States.{page_ok, Chip}
use Rattle.commands.specs.declared.Operation.TheVariants.{ErasesSector, ErasesHalf, ErasesBlock, ErasesChip}
use Rattle.states.specs.declared.Record.{Record}
use Rattle.commands.specs.declared.Command.{Command}
use Rattle.commands.specs.declared.Command.TheVariants.{WriteEnable, WriteDisable, ReadStatus, ReadConfig, WriteStatus, Read, FastRead, EraseSector, EraseHalf, EraseBlock, EraseChip, Program, ReadId, Wake, ReadMaker, Sleep, Unknown, Withdrawn, ReadSfdp}
use Rattle.answers.specs.declared.Refusal.TheVariants.{WornOut, NotErased}
use Rattle.ladder.specs.Ladder.{refusal_of}
use Rattle.ladder.specs.declared.Head.{Head}
use Rattle.counts.specs.Counts.{worn_out, counted}
use Rattle.effects.specs.Effects.{Effect, shown, started, turned, state_only, write_enable, write_disable, write_status, erase_starts, nowhere, sleep, refusal_leaves, read_status, read_config, read_from, program_page, goes_over, read_id, wake, read_maker, read_sfdp}

-- what a frame sends: its whole bytes, the tail bits after them, the WP# level and the strict setting; and the wear table and the output lent to it
pub record Sent : Type 0 where
  pub bytes : List ℕ
  pub tail : ℕ
  pub wp : Bool
  pub strict : Bool
  pub wear : List ℕ
  pub out : List ℕ

abbrev pub sent_of : List ℕ → ℕ → Bool → Bool → List ℕ → List ℕ → Sent
sent_of bytes tail wp strict wear out = record { bytes = bytes; tail = tail; wp = wp; strict = strict; wear = wear; out = out }

-- what the refusals look at: the command is the first byte, the address the next three; whether the page data fit, whether old data is in the way, and whether a count is at its top
unfoldable pub head_for : ℕ → ℕ → ℕ → Bool → List ℕ → ℕ → Bool → ℕ → Bool → Bool → Head
head_for model cells sectors page bytes tail wp room over worn =
    record {
      cells = cells;
      sectors = sectors;
      page = page;
      count = length bytes;
      tail = tail;
      wp = wp;
      room = room;
      command = decode_of model (get_or bytes 0 0);
      address = address_of model (get_or bytes 1 0) (get_or bytes 2 0) (get_or bytes 3 0);
      over = over;
      worn = worn;
    }

-- the same, of a head that was not read yet
abbrev pub head_read : ℕ → Head → List ℕ → Head
head_read model h bytes = record h { command = decode_of model (get_or bytes 0 0); address = address_of model (get_or bytes 1 0) (get_or bytes 2 0) (get_or bytes 3 0) }

-- whether the frame programs over old data under the strict setting (Req 08)
abbrev pub over_by : ℕ → List ℕ → Sent → Bool
over_by model cells f =
    goes_over (started_by model (get_or f.bytes 0 0)) f.strict (address_of model (get_or f.bytes 1 0) (get_or f.bytes 2 0) (get_or f.bytes 3 0)) cells f.bytes

-- whether the frame of those bytes covers a sector whose count would pass its top
abbrev pub worn_by : ℕ → List ℕ → List ℕ → Bool
worn_by model bytes wear = worn_out (started_by model (get_or bytes 0 0)) (address_of model (get_or bytes 1 0) (get_or bytes 2 0) (get_or bytes 3 0)) wear

abbrev pub head_of : Record → Chip → Sent → Head
head_of rec x f =
    head_for rec.model (length x.cells) (length f.wear) (page_ok rec.model x.state x.page) f.bytes f.tail f.wp (length f.out)
    (over_by rec.model x.cells f) (worn_by rec.model f.bytes f.wear)

-- an accepted frame, by its command; each sector that an erase covers counts one more (house). No command looks at the tail bits, nor but for the refusals at the WP# level, and none changes a cell
unfoldable pub accepted_of : Record → Chip → Command → Address → List ℕ → List ℕ → List ℕ → Effect
accepted_of rec x WriteEnable at bytes wear out = turned x.page wear out (write_enable x.state)
accepted_of rec x WriteDisable at bytes wear out = turned x.page wear out (write_disable x.state)
accepted_of rec x ReadStatus at bytes wear out = shown x.page wear (read_status x.state bytes out)
accepted_of rec x ReadConfig at bytes wear out = shown x.page wear (read_config x.state bytes out)
accepted_of rec x WriteStatus at bytes wear out = started wear out (write_status rec x.state x.page bytes)
accepted_of rec x Read at bytes wear out = shown x.page wear (read_from 4 x.state x.cells at bytes out)
accepted_of rec x FastRead at bytes wear out = shown x.page wear (read_from 5 x.state x.cells at bytes out)
accepted_of rec x EraseSector at bytes wear out = turned x.page (counted (Some ErasesSector) at wear) out (erase_starts rec x.state (Some ErasesSector) at bytes)
accepted_of rec x EraseHalf at bytes wear out = turned x.page (counted (Some ErasesHalf) at wear) out (erase_starts rec x.state (Some ErasesHalf) at bytes)
accepted_of rec x EraseBlock at bytes wear out = turned x.page (counted (Some ErasesBlock) at wear) out (erase_starts rec x.state (Some ErasesBlock) at bytes)
accepted_of rec x EraseChip at bytes wear out = turned x.page (counted (Some ErasesChip) nowhere wear) out (erase_starts rec x.state (Some ErasesChip) nowhere bytes)
accepted_of rec x Program at bytes wear out = started wear out (program_page rec x.state x.page at bytes)
accepted_of rec x ReadId at bytes wear out = shown x.page wear (read_id rec x.state bytes out)
accepted_of rec x Wake at bytes wear out = shown x.page wear (wake rec x.state bytes out)
accepted_of rec x ReadMaker at bytes wear out = shown x.page wear (read_maker rec x.state bytes out)
accepted_of rec x Sleep at bytes wear out = turned x.page wear out (sleep rec x.state)
accepted_of rec x Unknown at bytes wear out = state_only Done x.state x.page wear out
accepted_of rec x Withdrawn at bytes wear out = state_only Done x.state x.page wear out
accepted_of rec x ReadSfdp at bytes wear out = shown x.page wear (read_sfdp x.state bytes out)

-- a refusal drives nothing and leaves the page data and the wear table; what it leaves of the state is one definition by model and answer
abbrev pub refused_of : Record → Answer → Chip → Sent → Effect
refused_of rec a x f = state_only a (refusal_leaves rec.model a x.state) x.page f.wear f.out

-- any frame
unfoldable pub frame_of : Record → Chip → Sent → Effect
frame_of rec x f =
    let h : Head = head_of rec x f in
    let a : Answer = refusal_of rec x.state h in
    cond (is_done a) (accepted_of rec x h.command h.address f.bytes f.wear f.out) (refused_of rec a x f)

-- a frame that every row but the last two lets pass: it is accepted, unless it programs over old data or erases a sector whose count is at its top
abbrev pub taken_of : Record → Chip → Command → Address → Bool → List ℕ → List ℕ → List ℕ → Effect
taken_of rec x c at strict bytes wear out =
    cond (goes_over (operation_of c) strict at x.cells bytes) (state_only (Err NotErased) x.state x.page wear out)
    (cond (worn_out (operation_of c) at wear) (state_only (Err WornOut) x.state x.page wear out) (accepted_of rec x c at bytes wear out))
