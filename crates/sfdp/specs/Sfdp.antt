-- The table that a host reads by 5A: 002, "Read SFDP Mode" (L530-656), and Req 12. Its layout for any record, a host's reader over any bytes, and the writer.
use Rattle.std.specs.Prelude.{Option, Some, None, Result, Ok, Bool, true, false, not, ◌&&◌, ◌||◌, cond, List, [], ◌∷◌, ◌++◌, ◌≡◌, ℕ, zero, suc, ◌+◌, ◌*◌, ◌%◌, ◌^◌, eqb, leb, ltb, length, get_or, replicate}
use Rattle.std.specs.Result.{result_and}
use Rattle.parts.specs.Parts.{lay, bytes_of, spelt}
use Rattle.sfdp_image.specs.Image.{eight}
use Rattle.answers.specs.Answers.{Answer}
use Rattle.answers.specs.Tables.{Rung, ◌gives◌, first_of}
use Rattle.answers.specs.declared.Refusal.{Refusal}
use Rattle.answers.specs.declared.Refusal.TheVariants.{NoSignature, BadHeader, BadPointer, BadEntry}
use Rattle.sfdp.specs.declared.Contents.{Contents}
use Rattle.sfdp.specs.declared.Parameter.{Parameter}
use Rattle.sfdp.specs.declared.Slot.{Slot}
use Rattle.sfdp.specs.declared.Version.{Version}

-- ---- the record: the density field, and the erase types, each of 2 ^ exponent bytes by its opcode
pub record EraseType : Type 0 where
  pub exponent : ℕ
  pub opcode : ℕ

abbrev pub erase_type : ℕ → ℕ → EraseType
erase_type exponent opcode = record { exponent = exponent; opcode = opcode }

pub record Entry : Type 0 where
  pub density : ℕ
  pub erases : List EraseType

abbrev pub entry : ℕ → List EraseType → Entry
entry density erases = record { density = density; erases = erases }

-- the list as a caller lends it: an exponent and an opcode in turn
abbrev pub pairs : List ℕ → List EraseType
pairs [] = []
pairs (e ∷ []) = []
pairs (e ∷ o ∷ more) = erase_type e o ∷ pairs more

-- ---- the layout of such a table
-- the signature, the revision 1.0, how many parameter headers beside the first, and one unused
abbrev pub first_header : ℕ → List ℕ
first_header others = 0x53 ∷ 0x46 ∷ 0x44 ∷ 0x50 ∷ 0x00 ∷ 0x01 ∷ others ∷ 0xFF ∷ []

-- whose table, its revision 1.0, its length in double words, where it starts, and one unused
abbrev pub parameter_header : ℕ → ℕ → ℕ → List ℕ
parameter_header id words pointer = id ∷ 0x00 ∷ 0x01 ∷ words ∷ (bytes_of 3 pointer ++ (0xFF ∷ []))

abbrev pub unused : ℕ → List ℕ
unused n = replicate n 0xFF

-- bits 1:0 of 30h: 01 where 4 KiB can be erased, 11 where not; and 31h: by which opcode
abbrev pub small_bits : List EraseType → ℕ
small_bits [] = 3
small_bits (e ∷ es) = cond (eqb e.exponent 0x0C) 1 (small_bits es)

abbrev pub small_opcode : List EraseType → ℕ
small_opcode [] = 0xFF
small_opcode (e ∷ es) = cond (eqb e.exponent 0x0C) e.opcode (small_opcode es)

-- k slots for erase types, 00 FF in those that are not needed
abbrev pub slots : ℕ → List EraseType → List ℕ
slots zero es = []
slots (suc k) [] = 0x00 ∷ 0xFF ∷ slots k []
slots (suc k) (e ∷ es) = e.exponent ∷ e.opcode ∷ slots k es

-- the fast reads, 38h to 4Bh: only (1-1-2), by 3B with eight wait states
abbrev pub fast_reads : List ℕ
fast_reads =
    eight 0x00 0xFF 0x00 0xFF 0x08 0x3B 0x00 0xFF
    (eight 0xEE 0xFF 0xFF 0xFF 0xFF 0xFF 0x00 0xFF
    (0xFF ∷ 0xFF ∷ 0x00 ∷ 0xFF ∷ []))

-- the first table, 30h to 53h. 30h has besides its bits 1:0 that programs go by 64 bytes or more, bit 2, and 111 in bits 7:5; 32h says that (1-1-2) is there, and
-- that addresses have three bytes; 34h to 37h are the density
abbrev pub first_table : Entry → List ℕ
first_table e =
    (0xE4 + small_bits e.erases)
    ∷ small_opcode e.erases
    ∷ 0x81
    ∷ 0xFF
    ∷ (bytes_of 4 e.density ++ (fast_reads ++ slots 4 e.erases))

-- the maker's own, 60h to 6Fh: 3.6 V to 2.7 V, and what it has of resets, holds, suspends, wraps and locks
abbrev pub makers_table : List ℕ
makers_table = eight 0x00 0x36 0x00 0x27 0xF6 0x4F 0xFF 0xFF (eight 0xFE 0xC7 0xFF 0xFF 0xFF 0xFF 0xFF 0xFF [])

unfoldable pub image_of : Entry → List ℕ
image_of e =
    first_header 1
    ++ (parameter_header 0x00 9 0x30
    ++ (parameter_header 0xC2 4 0x60 ++ (unused 24 ++ (first_table e ++ (unused 12 ++ makers_table)))))

-- ---- the reader, over any bytes
-- byte 6 counts the parameter headers from 0; header i stands at 8 + 8 i
abbrev pub headers_of : List ℕ → ℕ
headers_of xs = get_or xs 6 0 + 1

abbrev pub header_at : ℕ → ℕ
header_at i = 8 + 8 * i

abbrev pub words_of : List ℕ → ℕ → ℕ
words_of xs i = get_or xs (header_at i + 3) 0

abbrev pub pointer_of : List ℕ → ℕ → ℕ
pointer_of xs i = spelt (get_or xs (header_at i + 4) 0 ∷ get_or xs (header_at i + 5) 0 ∷ get_or xs (header_at i + 6) 0 ∷ [])

-- 53 46 44 50
abbrev pub is_signed : List ℕ → Bool
is_signed xs = eqb (get_or xs 0 0) 0x53 && (eqb (get_or xs 1 0) 0x46 && (eqb (get_or xs 2 0) 0x44 && eqb (get_or xs 3 0) 0x50))

-- header i's table is longer than the bytes; and it leaves them
abbrev pub is_long : List ℕ → ℕ → Bool
is_long xs i = ltb (length xs) (4 * words_of xs i)

abbrev pub is_out : List ℕ → ℕ → Bool
is_out xs i = ltb (length xs) (pointer_of xs i + 4 * words_of xs i)

abbrev pub some_below : (ℕ → Bool) → ℕ → Bool
some_below f zero = false
some_below f (suc n) = some_below f n || f n

-- 30, 31, 32: the refusals of the bytes, one row a number, in the order of checking
abbrev pub table_rows : List ℕ → List Rung
table_rows xs =
    ((ltb (length xs) 8 || not (is_signed xs)) gives NoSignature)
    ∷ ((ltb (length xs) (header_at (headers_of xs)) || (some_below (is_long xs) (headers_of xs) || ltb (words_of xs 0) 9)) gives BadHeader)
    ∷ (some_below (is_out xs) (headers_of xs) gives BadPointer)
    ∷ []

unfoldable pub table_refusal : List ℕ → Answer
table_refusal xs = first_of (table_rows xs)

-- of a table that starts there: the density field, low byte first, at byte 4; and slots 1 to 4, two bytes each, from byte 28 on
abbrev pub density_at : List ℕ → ℕ → ℕ
density_at xs start =
    spelt (get_or xs (start + 4) 0 ∷ get_or xs (start + 5) 0 ∷ get_or xs (start + 6) 0 ∷ get_or xs (start + 7) 0 ∷ [])

abbrev pub slot_at : List ℕ → ℕ → ℕ → EraseType
slot_at xs start slot = erase_type (get_or xs (start + (26 + 2 * slot)) 0) (get_or xs (start + (27 + 2 * slot)) 0)

-- a type exists where its exponent is not 0
abbrev pub existing : List EraseType → List EraseType
existing [] = []
existing (e ∷ es) = cond (eqb e.exponent 0) (existing es) (e ∷ existing es)

abbrev pub erases_at : List ℕ → ℕ → List EraseType
erases_at xs start = existing (slot_at xs start 1 ∷ slot_at xs start 2 ∷ slot_at xs start 3 ∷ slot_at xs start 4 ∷ [])

-- the record that the first table holds
unfoldable pub entry_of : List ℕ → Entry
entry_of xs = entry (density_at xs (pointer_of xs 0)) (erases_at xs (pointer_of xs 0))

-- what the reader's calls give: the results where the bytes are taken, and otherwise the refusal alone
abbrev pub if_taken : {T : Type 0} → List ℕ → T → Result T Refusal
if_taken xs found = result_and (table_refusal xs) (Ok found)

abbrev pub contents : ℕ → ℕ → ℕ → Contents
contents headers density types = record { headers = headers; density = density; types = types }

unfoldable pub contents_of : List ℕ → Result Contents Refusal
contents_of xs = if_taken xs (contents (headers_of xs) (entry_of xs).density (length (entry_of xs).erases))

abbrev pub version : ℕ → ℕ → Version
version minor major = record { minor = minor; major = major }

unfoldable pub revision_of : List ℕ → Result Version Refusal
revision_of xs = if_taken xs (version (get_or xs 4 0) (get_or xs 5 0))

abbrev pub parameter : ℕ → ℕ → ℕ → ℕ → ℕ → Parameter
parameter id minor major words pointer = record { id = id; minor = minor; major = major; words = words; pointer = pointer }

-- header i, where there is one
unfoldable pub header_of : List ℕ → ℕ → Result (Option Parameter) Refusal
header_of xs i =
    if_taken xs
    (cond (ltb i (headers_of xs))
    (Some (parameter (get_or xs (header_at i) 0) (get_or xs (header_at i + 1) 0) (get_or xs (header_at i + 2) 0) (words_of xs i) (pointer_of xs i)))
    None)

abbrev pub slotted : EraseType → Slot
slotted e = record { exponent = e.exponent; opcode = e.opcode }

-- slots 1 to 4 as they stand, and no other
unfoldable pub erase_of : List ℕ → ℕ → Result (Option Slot) Refusal
erase_of xs slot = if_taken xs (cond (leb 1 slot && leb slot 4) (Some (slotted (slot_at xs (pointer_of xs 0) slot))) None)

-- ---- the writer
abbrev pub fits_slot : EraseType → Bool
fits_slot e = leb 1 e.exponent && (leb e.exponent 255 && leb e.opcode 255)

abbrev pub all_fit : List EraseType → Bool
all_fit [] = true
all_fit (e ∷ es) = fits_slot e && all_fit es

-- the numbers are up to four pairs, each of which fits
abbrev pub is_list : List ℕ → Bool
is_list ns = eqb (length ns % 2) 0 && (leb (length ns) 8 && all_fit (pairs ns))

-- 33: the density does not fit 32 bits, the numbers are no such list, or the buffer has fewer than 112 bytes
abbrev pub takes : ℕ → List ℕ → ℕ → Bool
takes density ns room = ltb density (2 ^ 32) && (is_list ns && leb 112 room)

abbrev pub entry_rows : ℕ → List ℕ → ℕ → List Rung
entry_rows density ns room = (not (takes density ns room) gives BadEntry) ∷ []

-- a list that the writer takes
pub record TakenList (ns : List ℕ) : Type 0 where
  pub is : is_list ns ≡ true

pub record TableWritten : Type 0 where
  pub answer : Answer
  pub out : List ℕ

abbrev pub table_written : Answer → List ℕ → TableWritten
table_written answer out = record { answer = answer; out = out }

-- refused, nothing is written; otherwise the first 112 bytes become the table, and the rest stays
unfoldable pub table_for : ℕ → List ℕ → List ℕ → TableWritten
table_for density ns out =
    table_written (first_of (entry_rows density ns (length out))) (cond (takes density ns (length out)) (lay out 0 (image_of (entry density (pairs ns)))) out)

pub record Writes (w : TableWritten) (answer : Answer) (out : List ℕ) : Type 0 where
  pub answer-is : answer ≡ w.answer
  pub out-is : out ≡ w.out
