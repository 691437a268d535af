-- The fields of the table as the sheet lists them: 002, Tables a to c (L546-656, L665).
use Rattle.std.specs.Prelude.{Bool, ◌&&◌, List, [], ◌∷◌, ◌++◌, ℕ, ◌+◌, ◌*◌, ◌-◌, ◌/◌, ◌%◌, ◌^◌, eqb, length}
use Rattle.parts.specs.Parts.{part, spelt}

-- a field: where its double word starts, the highest and the lowest of its bits there, and what they hold
pub record Field : Type 0 where
  pub word : ℕ
  pub high : ℕ
  pub low : ℕ
  pub holds : ℕ

abbrev pub field : ℕ → ℕ → ℕ → ℕ → Field
field word high low holds = record { word = word; high = high; low = low; holds = holds }

-- a byte of a double word
abbrev pub byte_field : ℕ → ℕ → ℕ → Field
byte_field word i holds = field word (8 * i + 7) (8 * i) holds

-- a double word that is not used
abbrev pub unused_word : ℕ → Field
unused_word word = field word 31 0 0xFFFFFFFF

-- Table a, 00h to 07h (L546-553): the signature, the revision 1.0, two parameter headers, one unused
abbrev pub heading_fields : List Field
heading_fields = field 0x00 31 0 0x50444653 ∷ byte_field 0x04 0 0x00 ∷ byte_field 0x04 1 0x01 ∷ byte_field 0x04 2 0x01 ∷ byte_field 0x04 3 0xFF ∷ []

-- 08h to 0Fh (L554-561): a JEDEC table of revision 1.0, nine double words from 30h on, one unused
abbrev pub first_heading_fields : List Field
first_heading_fields = byte_field 0x08 0 0x00 ∷ byte_field 0x08 1 0x00 ∷ byte_field 0x08 2 0x01 ∷ byte_field 0x08 3 0x09 ∷ field 0x0C 23 0 0x30 ∷ byte_field 0x0C 3 0xFF ∷ []

-- 10h to 17h (L562-569): the maker's table of revision 1.0, four double words from 60h on, one unused
abbrev pub makers_heading_fields : List Field
makers_heading_fields = byte_field 0x10 0 0xC2 ∷ byte_field 0x10 1 0x00 ∷ byte_field 0x10 2 0x01 ∷ byte_field 0x10 3 0x04 ∷ field 0x14 23 0 0x60 ∷ byte_field 0x14 3 0xFF ∷ []

-- 18h to 2Fh: in no row of the sheet, and FF as every unused area is (L665)
abbrev pub gap_fields : List Field
gap_fields = unused_word 0x18 ∷ unused_word 0x1C ∷ unused_word 0x20 ∷ unused_word 0x24 ∷ unused_word 0x28 ∷ unused_word 0x2C ∷ []

-- Table b, 30h to 33h (L576-589): 4 KiB erase, granularity of 64 bytes, neither rule for volatile status, 111; its opcode; (1-1-2), three address bytes, no DTR, no other fast read; unused
abbrev pub first_bits_fields : List Field
first_bits_fields = field 0x30 1 0 1 ∷ field 0x30 2 2 1 ∷ field 0x30 3 3 0 ∷ field 0x30 4 4 0 ∷ field 0x30 7 5 7 ∷ byte_field 0x30 1 0x20 ∷ field 0x30 16 16 1 ∷ field 0x30 18 17 0 ∷ field 0x30 19 19 0 ∷ field 0x30 20 20 0 ∷ field 0x30 21 21 0 ∷ field 0x30 22 22 0 ∷ field 0x30 23 23 1 ∷ byte_field 0x30 3 0xFF ∷ []

-- 34h to 37h (L590): the density
abbrev pub density_fields : List Field
density_fields = field 0x34 31 0 0x1FFFFF ∷ []

-- 38h to 3Bh (L591-596): (1-4-4) and (1-1-4), wait states, mode bits and opcode of each
abbrev pub fast_reads_fields : List Field
fast_reads_fields = field 0x38 4 0 0 ∷ field 0x38 7 5 0 ∷ byte_field 0x38 1 0xFF ∷ field 0x38 20 16 0 ∷ field 0x38 23 21 0 ∷ byte_field 0x38 3 0xFF ∷ []

-- 3Ch to 3Fh (L601-606): (1-1-2), which has eight wait states by 3B, and (1-2-2)
abbrev pub dual_reads_fields : List Field
dual_reads_fields = field 0x3C 4 0 8 ∷ field 0x3C 7 5 0 ∷ byte_field 0x3C 1 0x3B ∷ field 0x3C 20 16 0 ∷ field 0x3C 23 21 0 ∷ byte_field 0x3C 3 0xFF ∷ []

-- 40h to 43h (L607-611): no (2-2-2), no (4-4-4), the others unused
abbrev pub other_reads_fields : List Field
other_reads_fields = field 0x40 0 0 0 ∷ field 0x40 3 1 7 ∷ field 0x40 4 4 0 ∷ field 0x40 7 5 7 ∷ field 0x40 31 8 0xFFFFFF ∷ []

-- 44h to 4Bh (L612-619): unused, (2-2-2); unused, (4-4-4)
abbrev pub more_reads_fields : List Field
more_reads_fields = field 0x44 15 0 0xFFFF ∷ field 0x44 20 16 0 ∷ field 0x44 23 21 0 ∷ byte_field 0x44 3 0xFF ∷ field 0x48 15 0 0xFFFF ∷ field 0x48 20 16 0 ∷ field 0x48 23 21 0 ∷ byte_field 0x48 3 0xFF ∷ []

-- 4Ch to 53h (L620-627): the exponents and opcodes of four erase types
abbrev pub erase_types_fields : List Field
erase_types_fields = byte_field 0x4C 0 0x0C ∷ byte_field 0x4C 1 0x20 ∷ byte_field 0x4C 2 0x10 ∷ byte_field 0x4C 3 0xD8 ∷ byte_field 0x50 0 0x00 ∷ byte_field 0x50 1 0xFF ∷ byte_field 0x50 2 0x00 ∷ byte_field 0x50 3 0xFF ∷ []

-- 54h to 5Fh: in no row of the sheet, and FF as every unused area is (L665)
abbrev pub second_gap_fields : List Field
second_gap_fields = unused_word 0x54 ∷ unused_word 0x58 ∷ unused_word 0x5C ∷ []

-- Table c, 60h to 63h (L634-635): 3.600 V to 2.700 V
abbrev pub voltages_fields : List Field
voltages_fields = field 0x60 15 0 0x3600 ∷ field 0x60 31 16 0x2700 ∷ []

-- 64h to 67h (L636-646): Hold# and deep power-down, no resets, suspends and wrap-around reads
abbrev pub features_fields : List Field
features_fields = field 0x64 0 0 0 ∷ field 0x64 1 1 1 ∷ field 0x64 2 2 1 ∷ field 0x64 3 3 0 ∷ field 0x64 11 4 0xFF ∷ field 0x64 12 12 0 ∷ field 0x64 13 13 0 ∷ field 0x64 14 14 1 ∷ field 0x64 15 15 0 ∷ byte_field 0x64 2 0xFF ∷ byte_field 0x64 3 0xFF ∷ []

-- 68h to 6Fh (L647-656): no lock of single blocks, no OTP, read lock and permanent lock; unused
abbrev pub locks_fields : List Field
locks_fields = field 0x68 0 0 0 ∷ field 0x68 1 1 1 ∷ field 0x68 9 2 0xFF ∷ field 0x68 10 10 1 ∷ field 0x68 11 11 0 ∷ field 0x68 12 12 0 ∷ field 0x68 13 13 0 ∷ field 0x68 15 14 3 ∷ field 0x68 31 16 0xFFFF ∷ unused_word 0x6C ∷ []

-- all of them, in order
abbrev pub sheet_fields : List Field
sheet_fields = heading_fields ++ (first_heading_fields ++ (makers_heading_fields ++ (gap_fields ++ (first_bits_fields ++ (density_fields ++ (fast_reads_fields ++ (dual_reads_fields ++ (other_reads_fields ++ (more_reads_fields ++ (erase_types_fields ++ (second_gap_fields ++ (voltages_fields ++ (features_fields ++ (locks_fields))))))))))))))

-- whether each field starts where the one before it ends, the last ends with the bytes, and the bytes hold each
abbrev pub fields_hold : List ℕ → ℕ → List Field → Bool
fields_hold xs at [] = eqb at (8 * length xs)
fields_hold xs at (f ∷ fs) =
    eqb (8 * f.word + f.low) at
    && (eqb (spelt (part xs f.word 4) / 2 ^ f.low % 2 ^ (f.high + 1 - f.low)) f.holds && fields_hold xs (8 * f.word + f.high + 1) fs)
