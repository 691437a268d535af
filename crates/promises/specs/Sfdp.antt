-- 5A: model 2 drives its SFDP table, and a host that reads it from address 0 on finds the sheet's record (002 L534, Req 12); proofs/Sfdp.antt proves each under its name in small letters.
use Rattle.std.specs.Prelude.{Err, List, ◌⊎◌, ◌≡◌, ℕ, ◌+◌, ◌≤◌, ◌<◌, length, get_or}
use Rattle.parts.specs.Parts.{part}
use Rattle.sfdp_image.specs.Image.{sfdp_from}
use Rattle.sfdp.specs.Sfdp.{table_refusal, entry_of}
use Rattle.sfdp.specs.Promises.{own_entry}
use Rattle.units.specs.Kinds.{sfdp_address}
use Rattle.answers.specs.Answers.{Done}
use Rattle.answers.specs.declared.Refusal.TheVariants.{NoCommand, BadLength}
use Rattle.states.specs.States.{Chip}
use Rattle.states.specs.declared.Record.{Record}
use Rattle.effects.specs.Effects.{Effect, shown, read_sfdp}
use Rattle.chip.specs.Frames.{Sent, frame_of}
use Rattle.promises.specs.Withdrawn.{Clear21}

-- a frame whose first byte is 5A, on model 2; that no row before 21 applies to it is `Clear21`
abbrev pub Begins5A : Record → Sent → Type 0
Begins5A rec f = (rec.model ≡ 2) × (get_or f.bytes 0 0 ≡ 0x5A)

-- of five bytes or more it is taken, whatever its tail, WP#, WEL, SRWD and BP, and does what the command does: it drives, and changes nothing else
abbrev pub SfdpTaken : Type 0
SfdpTaken =
    (rec : Record) (x : Chip) (f : Sent) → Begins5A rec f → Clear21 rec x f → 5 ≤ length f.bytes
    → frame_of rec x f ≡ shown x.page f.wear (read_sfdp x.state f.bytes f.out)

-- shorter it is answered 14
abbrev pub SfdpShort : Type 0
SfdpShort = (rec : Record) (x : Chip) (f : Sent) → Begins5A rec f → Clear21 rec x f → length f.bytes < 5 → (frame_of rec x f).reply.answer ≡ Err BadLength

-- and on models 1 and 3 it is answered 13, whatever its length
abbrev pub SfdpUnknown : Type 0
SfdpUnknown =
    (rec : Record) (x : Chip) (f : Sent) → (rec.model ≡ 1) ⊎ (rec.model ≡ 3) → get_or f.bytes 0 0 ≡ 0x5A → Clear21 rec x f
    → (frame_of rec x f).reply.answer ≡ Err NoCommand

-- ---- the bytes that a host sees of a frame
abbrev pub seen_by : Effect → List ℕ
seen_by e = part e.out e.reply.from e.reply.count

-- of 5A and n bytes after the dummy byte: the n bytes of the table from the address sent
abbrev pub SfdpSeen : Type 0
SfdpSeen =
    (rec : Record) (x : Chip) (f : Sent) (n : ℕ) → Begins5A rec f → Clear21 rec x f → length f.bytes ≡ 5 + n
    → seen_by (frame_of rec x f) ≡ sfdp_from (sfdp_address (get_or f.bytes 1 0) (get_or f.bytes 2 0) (get_or f.bytes 3 0)).0 n

-- from address 0 on and over 112 bytes or more, the reader takes them and finds the record of the sheet
pub record HostFinds (e : Effect) : Type 0 where
  pub answer : e.reply.answer ≡ Done
  pub taken : table_refusal (seen_by e) ≡ Done
  pub same : entry_of (seen_by e) ≡ own_entry

abbrev pub HostReads : Type 0
HostReads =
    (rec : Record) (x : Chip) (f : Sent) (n : ℕ) → Begins5A rec f → Clear21 rec x f → length f.bytes ≡ 5 + n → 112 ≤ n
    → (get_or f.bytes 1 0 ≡ 0) × (get_or f.bytes 2 0 ≡ 0) × (get_or f.bytes 3 0 ≡ 0)
    → HostFinds (frame_of rec x f)
