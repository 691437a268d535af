-- What each command does once it is accepted, one definition a command in the order of 01's list.
use Rattle.std.specs.Prelude.{Bool, true, false, ◌&&◌, cond, List, [], ◌∷◌, ℕ, ◌-◌, ◌%◌, eqb, ltb, length, get_or, drop, replicate, Option, Some, None}
use Rattle.units.specs.declared.Address.{Address}
use Rattle.models.specs.declared.Model.{Model}
use Rattle.units.specs.Kinds.{page_offset, page_start, sfdp_address}
use Rattle.sfdp_image.specs.Image.{sfdp_from}
use Rattle.models.specs.Models.{model_of}
use Rattle.parts.specs.Parts.{part, lay}
use Rattle.rings.specs.Ring.{ring}
use Rattle.fold.specs.Fold.{folds, page_after}
use Rattle.fold.specs.Strict.{over_old}
use Rattle.commands.specs.declared.Operation.{Operation}
use Rattle.commands.specs.declared.Operation.TheVariants.{WritesStatus, Programs, ErasesSector, ErasesHalf, ErasesBlock, ErasesChip}
use Rattle.states.specs.States.{status_of, operation_time, no_address}
use Rattle.states.specs.declared.Record.{Record}
use Rattle.states.specs.declared.State.{State}
use Rattle.answers.specs.Answers.{Answer, Done, says_protected}
use Rattle.effects.specs.declared.Reply.{Reply}

-- a whole frame: the reply, and the page data, the wear table and the output after. A frame changes no cell
pub record Effect : Type 0 where
  pub reply : Reply
  pub page : List ℕ
  pub wear : List ℕ
  pub out : List ℕ

-- what a command does that drives bytes out, and what one does that starts an operation with page data
pub record Shown : Type 0 where
  pub reply : Reply
  pub out : List ℕ

pub record Started : Type 0 where
  pub reply : Reply
  pub page : List ℕ

-- the other buffers are as they were
abbrev pub shown : List ℕ → List ℕ → Shown → Effect
shown page wear e = record { reply = e.reply; page = page; wear = wear; out = e.out }

abbrev pub started : List ℕ → List ℕ → Started → Effect
started wear out e = record { reply = e.reply; page = e.page; wear = wear; out = out }

-- ---- replies
-- nothing is driven
abbrev pub quiet : Answer → State → Reply
quiet a s = record { answer = a; from = 0; count = 0; state = s; fold = false }

-- a frame of n bytes drives from position `from` to its end; both numbers are 0 when none is driven
unfoldable pub drives : State → ℕ → ℕ → Reply
drives s from n = record { answer = Done; from = cond (ltb from n) from 0; count = n - from; state = s; fold = false }

-- a program drives nothing, and its answer says whether a byte went past the page's end
abbrev pub folding : State → Bool → Reply
folding s fold = record { answer = Done; from = 0; count = 0; state = s; fold = fold }

-- ---- states
unfoldable pub latched : State → Bool → State
latched s on = record { srwd = s.srwd; bp = s.bp; config = s.config; wel = on; asleep = s.asleep; busy = s.busy; settle = s.settle; command = s.command; address = s.address }

-- asleep or awake at once, and settling for a time (002 L802-806)
unfoldable pub dozing : State → Bool → ℕ → State
dozing s on time = record { srwd = s.srwd; bp = s.bp; config = s.config; wel = s.wel; asleep = on; busy = s.busy; settle = time; command = s.command; address = s.address }

-- an operation starts: its command byte as it was sent, its address or a status write's number of data bytes, and its time. WEL stays set until the time has run
-- out (000 L110-117)
unfoldable pub starting : State → ℕ → ℕ → ℕ → State
starting s command place time =
    record { srwd = s.srwd; bp = s.bp; config = s.config; wel = s.wel; asleep = s.asleep; busy = time; settle = s.settle; command = command; address = place }

-- what a refusal leaves of the state: all of it, WEL included; but where WEL falls at a protected unit (003 L803), 17 clears it
unfoldable pub refusal_leaves : ℕ → Answer → State → State
refusal_leaves n a s = cond ((model_of n).latch_falls && says_protected a) (latched s false) s

-- all buffers are as they were
abbrev pub state_only : Answer → State → List ℕ → List ℕ → List ℕ → Effect
state_only a s page wear out = record { reply = quiet a s; page = page; wear = wear; out = out }

abbrev pub turned : List ℕ → List ℕ → List ℕ → Reply → Effect
turned page wear out r = record { reply = r; page = page; wear = wear; out = out }

-- ---- one definition a command
-- 06 sets WEL, 04 clears it (000 L214-222)
unfoldable pub write_enable : State → Reply
write_enable s = quiet Done (latched s true)

unfoldable pub write_disable : State → Reply
write_disable s = quiet Done (latched s false)

-- 05: the status from position 1 on (000 L236)
unfoldable pub read_status : State → List ℕ → List ℕ → Shown
read_status s bytes out =
    record { reply = drives s 1 (length bytes); out = lay out 1 (replicate (length bytes - 1) (status_of s)) }

-- 15: the configuration register from position 1 on (003 L505, L768)
unfoldable pub read_config : State → List ℕ → List ℕ → Shown
read_config s bytes out =
    record { reply = drives s 1 (length bytes); out = lay out 1 (replicate (length bytes - 1) s.config) }

-- 01: its data bytes are kept, the first at offset 0 of the page data; the bits change when the time has run out (000 L264-268, 003 L899)
unfoldable pub write_status : Record → State → List ℕ → List ℕ → Started
write_status rec s page bytes =
    record {
      reply = quiet Done (starting s (get_or bytes 0 0) (length bytes - 1) (operation_time rec (Some WritesStatus)));
      page = lay page 0 (drop 1 bytes);
    }

-- 03: array bytes from position 4, address rising by one, from the last address to 0. 0B: the same from position 5 (000 L301, L307)
unfoldable pub read_from : ℕ → State → List ℕ → Address → List ℕ → List ℕ → Shown
read_from first s cells at bytes out =
    record { reply = drives s first (length bytes); out = lay out first (ring cells at.0 (length bytes - first)) }

-- 20, 52, D8, 60 and C7: the erase starts; the cells change when its time has run out (000 L315, L327, L335, 003 L1233)
unfoldable pub erase_starts : Record → State → Option Operation → Address → List ℕ → Reply
erase_starts rec s op at bytes = quiet Done (starting s (get_or bytes 0 0) at.0 (operation_time rec op))

-- an erase of the chip has no address
abbrev pub nowhere : Address
nowhere = record { 0 = no_address }

-- 02: the bytes from position 4 on fold into the page data; the cells change when the time has run out (000 L343)
unfoldable pub program_page : Record → State → List ℕ → Address → List ℕ → Started
program_page rec s page at bytes =
    record {
      reply = folding (starting s (get_or bytes 0 0) at.0 (operation_time rec (Some Programs))) (folds (page_offset at) (length (drop 4 bytes)));
      page = page_after (page_offset at) (drop 4 bytes) page;
    }

-- under the strict setting it is refused where some addressed cell would not end up holding the byte that counts for it (Req 08, house)
unfoldable pub programs_over : Bool → Address → List ℕ → List ℕ → Bool
programs_over strict at cells bytes = strict && over_old (page_offset at) (drop 4 bytes) (part cells (page_start at) 256)

-- whether an operation is refused so: only a program can be
abbrev pub goes_over : Option Operation → Bool → Address → List ℕ → List ℕ → Bool
goes_over None strict at cells bytes = false
goes_over (Some WritesStatus) strict at cells bytes = false
goes_over (Some Programs) strict at cells bytes = programs_over strict at cells bytes
goes_over (Some ErasesSector) strict at cells bytes = false
goes_over (Some ErasesHalf) strict at cells bytes = false
goes_over (Some ErasesBlock) strict at cells bytes = false
goes_over (Some ErasesChip) strict at cells bytes = false

-- 9F: from position 1 the three identification bytes, repeated (000 L383-391, 002 L522-526)
abbrev pub id_bytes : Model → List ℕ
id_bytes m = m.maker ∷ m.family ∷ m.density ∷ []

unfoldable pub read_id : Record → State → List ℕ → List ℕ → Shown
read_id rec s bytes out =
    record { reply = drives s 1 (length bytes); out = lay out 1 (ring (id_bytes (model_of rec.model)) 0 (length bytes - 1)) }

-- what it settles for: only a chip that was asleep does, after the short AB and after the long one (002 L803-806; 003 L2133-2134)
unfoldable pub waking_time : Record → State → ℕ → ℕ
waking_time rec s n = cond s.asleep (cond (ltb 4 n) rec.sign rec.wake) 0

-- AB: leaves deep power-down; a long one drives the signature from position 4 on, over and over (000 L363-369, 002 L498)
unfoldable pub wake : Record → State → List ℕ → List ℕ → Shown
wake rec s bytes out =
    record {
      reply = drives (dozing s false (waking_time rec s (length bytes))) 4 (length bytes);
      out = lay out 4 (replicate (length bytes - 4) (model_of rec.model).signature);
    }

-- 90: from position 4 the maker and the signature by turns, the signature first when the fourth byte is odd (000 L383-391, 002 L510-516)
unfoldable pub maker_bytes : Model → ℕ → List ℕ
maker_bytes m fourth = cond (eqb (fourth % 2) 1) (m.signature ∷ m.maker ∷ []) (m.maker ∷ m.signature ∷ [])

unfoldable pub read_maker : Record → State → List ℕ → List ℕ → Shown
read_maker rec s bytes out =
    record {
      reply = drives s 4 (length bytes);
      out = lay out 4 (ring (maker_bytes (model_of rec.model) (get_or bytes 3 0)) 0 (length bytes - 4));
    }

-- 5A: from position 5 the SFDP table from the address sent, and FF past its end (002 L534, Req 12)
unfoldable pub read_sfdp : State → List ℕ → List ℕ → Shown
read_sfdp s bytes out =
    record {
      reply = drives s 5 (length bytes);
      out = lay out 5 (sfdp_from (sfdp_address (get_or bytes 1 0) (get_or bytes 2 0) (get_or bytes 3 0)).0 (length bytes - 5));
    }

-- B9: enters deep power-down, and settles (000 L359, 002 L802)
unfoldable pub sleep : Record → State → Reply
sleep rec s = quiet Done (dozing s true rec.sleep)
