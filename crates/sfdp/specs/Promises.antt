-- What is shown of reader and writer; proofs/Promises.antt proves each under its name in small letters.
use Rattle.std.specs.Prelude.{Option, Result, Err, List, [], ◌∷◌, true, ◌≡◌, ℕ, ◌+◌, ◌*◌, ◌≤◌, ◌<◌, length, drop}
use Rattle.parts.specs.Parts.{lay}
use Rattle.answers.specs.Answers.{Answer, Done, is_done}
use Rattle.answers.specs.declared.Refusal.{Refusal}
use Rattle.answers.specs.declared.Refusal.TheVariants.{NoSignature, BadHeader, BadPointer}
use Rattle.sfdp_image.specs.Image.{image, sfdp_from}
use Rattle.sfdp.specs.declared.Contents.{Contents}
use Rattle.sfdp.specs.declared.Parameter.{Parameter}
use Rattle.sfdp.specs.declared.Slot.{Slot}
use Rattle.sfdp.specs.declared.Version.{Version}
use Rattle.sfdp.specs.Sfdp.{image_of, Entry, entry, EraseType, erase_type, pairs, is_signed, headers_of, header_at, words_of, pointer_of, table_refusal, entry_of, contents_of, revision_of, header_of, erase_of, TableWritten, table_written, table_for, Writes}

-- ---- the host's view of the chip is the sheet's
abbrev pub own_entry : Entry
own_entry = entry 0x1FFFFF (erase_type 0x0C 0x20 ∷ erase_type 0x10 0xD8 ∷ [])

-- the table of that record is the chip's own bytes
abbrev pub ChipsOwn : Type 0
ChipsOwn = image_of own_entry ≡ image

-- so the writer of that record writes them
abbrev pub OwnWritten : Type 0
OwnWritten = (out : List ℕ) → 112 ≤ length out → table_for 0x1FFFFF (0x0C ∷ 0x20 ∷ 0x10 ∷ 0xD8 ∷ []) out ≡ table_written Done (lay out 0 image)

-- and a host that has 112 bytes or more from address 0 on reads that record
abbrev pub HostsView : Type 0
HostsView = (n : ℕ) → 112 ≤ n → (table_refusal (sfdp_from 0 n) ≡ Done) × (entry_of (sfdp_from 0 n) ≡ own_entry)

-- one that stops before the tables end is refused: 30, 31, 31, 32, 32
abbrev pub CutShort : Type 0
CutShort =
    (table_refusal (sfdp_from 0 7) ≡ Err NoSignature)
    × (table_refusal (sfdp_from 0 23) ≡ Err BadHeader)
    × (table_refusal (sfdp_from 0 35) ≡ Err BadHeader)
    × (table_refusal (sfdp_from 0 84) ≡ Err BadPointer)
    × (table_refusal (sfdp_from 0 111) ≡ Err BadPointer)

-- ---- round trip: what the writer writes reads back as the same density and the same list, for every record that it takes
abbrev pub flat : List EraseType → List ℕ
flat [] = []
flat (e ∷ es) = e.exponent ∷ e.opcode ∷ flat es

pub record ReadBack (density : ℕ) (ns out : List ℕ) : Type 0 where
  pub taken : table_refusal out ≡ Done
  pub same : entry_of out ≡ entry density (pairs ns)
  pub whole : flat (pairs ns) ≡ ns

abbrev pub RoundTrip : Type 0
RoundTrip = (density : ℕ) (ns out : List ℕ) → is_done (table_for density ns out).answer ≡ true → ReadBack density ns (table_for density ns out).out

-- the writer leaves the rest of the buffer, and its length; and all of it where it refuses
abbrev pub RestStays : Type 0
RestStays = (density : ℕ) (ns out : List ℕ) → (drop 112 (table_for density ns out).out ≡ drop 112 out) × (length (table_for density ns out).out ≡ length out)

abbrev pub RefusedStays : Type 0
RefusedStays = (density : ℕ) (ns out : List ℕ) → (is_done (table_for density ns out).answer ≡ true → ⊥) → (table_for density ns out).out ≡ out

-- ---- bytes are taken exactly if they are signed and hold every header and every table, the first of nine double words at least
pub record TablesInside (xs : List ℕ) : Type 0 where
  pub signed : is_signed xs ≡ true
  pub headers : header_at (headers_of xs) ≤ length xs
  pub first : 9 ≤ words_of xs 0
  pub tables : (i : ℕ) → i < headers_of xs → pointer_of xs i + 4 * words_of xs i ≤ length xs

abbrev pub TakenIsInside : Type 0
TakenIsInside = (xs : List ℕ) → is_done (table_refusal xs) ≡ true → TablesInside xs

abbrev pub InsideIsTaken : Type 0
InsideIsTaken = (xs : List ℕ) → TablesInside xs → table_refusal xs ≡ Done

-- ---- no second answer: two results of one call that satisfy the contract are equal
abbrev pub OneContents : Type 0
OneContents = (xs : List ℕ) (r r' : Result Contents Refusal) → r ≡ contents_of xs → r' ≡ contents_of xs → r ≡ r'

abbrev pub OneVersion : Type 0
OneVersion = (xs : List ℕ) (r r' : Result Version Refusal) → r ≡ revision_of xs → r' ≡ revision_of xs → r ≡ r'

abbrev pub OneParameter : Type 0
OneParameter = (xs : List ℕ) (i : ℕ) (r r' : Result (Option Parameter) Refusal) → r ≡ header_of xs i → r' ≡ header_of xs i → r ≡ r'

abbrev pub OneSlot : Type 0
OneSlot = (xs : List ℕ) (i : ℕ) (r r' : Result (Option Slot) Refusal) → r ≡ erase_of xs i → r' ≡ erase_of xs i → r ≡ r'

abbrev pub OneWritten : Type 0
OneWritten = (w : TableWritten) (answer answer' : Answer) (out out' : List ℕ) → Writes w answer out → Writes w answer' out' → (answer ≡ answer') × (out ≡ out')
