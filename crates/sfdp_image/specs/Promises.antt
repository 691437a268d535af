-- What is shown of the table's bytes; proofs/Promises.antt proves each under its name in small letters.
use Rattle.std.specs.Prelude.{true, ◌≡◌, ℕ, ◌+◌, ◌≤◌, ◌<◌, get_or, replicate}
use Rattle.sfdp_image.specs.Image.{image, sfdp_from}
use Rattle.sfdp_image.specs.Sheet.{sheet_fields, fields_hold}

-- every bit of the chip's own bytes is in one of the sheet's fields, and holds what the sheet says
abbrev pub AsTheSheet : Type 0
AsTheSheet = fields_hold image 0 sheet_fields ≡ true

-- byte i is the table's at the address sent plus i, and FF past its end, however far
abbrev pub EachByte : Type 0
EachByte = (address n i : ℕ) → i < n → get_or (sfdp_from address n) i 0 ≡ get_or image (address + i) 0xFF

abbrev pub PastTheEnd : Type 0
PastTheEnd = (address n : ℕ) → 112 ≤ address → sfdp_from address n ≡ replicate n 0xFF
