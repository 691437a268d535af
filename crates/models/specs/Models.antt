-- The models as rows of one table, and what is read off a row.
use Rattle.std.specs.Prelude.{Bool, true, false, ◌&&◌, ◌||◌, cond, List, [], ◌∷◌, ℕ, ◌+◌, ◌*◌, ◌%◌, eqb, ltb, leb, get_or, replicate}
use Rattle.units.specs.declared.Address.{Address}
use Rattle.units.specs.declared.Block.{Block}
use Rattle.models.specs.declared.Model.{Model}
use Rattle.models.specs.declared.Range.{Range}

-- a part that can stand on the bench: its number, its row, and its protected ranges for BP 0, 1, 2, ..: at the top of the array (TB 0), and at the
-- bottom (TB 1) where the part has TB
pub record Part : Type 0 where
  pub number : ℕ
  pub row : Model
  pub top : List Range
  pub bottom : List Range

-- (first block, blocks)
abbrev pub range : ℕ → ℕ → Range
range first blocks = record { 0 = record { 0 = first }; 1 = blocks }

abbrev pub first_block : Range → Block
first_block r = r.0

abbrev pub blocks_of : Range → ℕ
blocks_of r = r.1

-- KH25L512: 000 L67 (array), L383-391 (identification), L126-131 (protection)
abbrev pub kh25l512 : Part
kh25l512 =
    record {
      number = 1;
      row =
          record {
            length = 65536;
            sectors = 16;
            half_blocks = 2;
            blocks = 1;
            highest_bp = 3;
            register = false;
            half_erase = false;
            latch_falls = false;
            maker = 0xC2;
            family = 0x20;
            density = 0x10;
            signature = 0x05;
          };
      top = range 1 0 ∷ range 0 1 ∷ range 0 1 ∷ range 0 1 ∷ [];
      bottom = [];
    }

-- KH25L2006E: 002 L208-223 (array), L522-526 (identification), L273-276 (protection)
abbrev pub kh25l2006e : Part
kh25l2006e =
    record {
      number = 2;
      row =
          record {
            length = 262144;
            sectors = 64;
            half_blocks = 8;
            blocks = 4;
            highest_bp = 3;
            register = false;
            half_erase = false;
            latch_falls = false;
            maker = 0xC2;
            family = 0x20;
            density = 0x12;
            signature = 0x11;
          };
      top = range 4 0 ∷ range 3 1 ∷ range 2 2 ∷ range 0 4 ∷ [];
      bottom = [];
    }

-- KH25L12845G: 003 L194, L346-394 (array), L674, L737-742 (identification), L285-323 (protection), L803 (WEL at a protected unit)
abbrev pub kh25l12845g : Part
kh25l12845g =
    record {
      number = 3;
      row =
          record {
            length = 16777216;
            sectors = 4096;
            half_blocks = 512;
            blocks = 256;
            highest_bp = 15;
            register = true;
            half_erase = true;
            latch_falls = true;
            maker = 0xC2;
            family = 0x20;
            density = 0x18;
            signature = 0x17;
          };
      top =
          range 256 0
          ∷ range 255 1
          ∷ range 254 2
          ∷ range 252 4
          ∷ range 248 8
          ∷ range 240 16
          ∷ range 224 32
          ∷ range 192 64
          ∷ range 128 128
          ∷ replicate 7 (range 0 256);
      bottom =
          range 0 0
          ∷ range 0 1
          ∷ range 0 2
          ∷ range 0 4
          ∷ range 0 8
          ∷ range 0 16
          ∷ range 0 32
          ∷ range 0 64
          ∷ range 0 128
          ∷ replicate 7 (range 0 256);
    }

abbrev pub models : List Part
models = kh25l512 ∷ kh25l2006e ∷ kh25l12845g ∷ []

-- whether one of the parts passes a test
abbrev pub some : (Part → Bool) → List Part → Bool
some test [] = false
some test (p ∷ ps) = test p || some test ps

-- the first of the parts that has the number; the one given where none has
abbrev pub find : ℕ → Part → List Part → Part
find n other [] = other
find n other (p ∷ ps) = cond (eqb n p.number) p (find n other ps)

unfoldable pub is_model : ℕ → Bool
is_model n = some (λ (p : Part). eqb n p.number) models

unfoldable pub is_length : ℕ → Bool
is_length bytes = some (λ (p : Part). eqb bytes p.row.length) models

-- some model has that many sectors
unfoldable pub is_sectors : ℕ → Bool
is_sectors n = some (λ (p : Part). eqb n p.row.sectors) models

-- A record with another number is refused before its row is looked at: there any row would do, and it is the first.
unfoldable pub part_of : ℕ → Part
part_of n = find n kh25l512 models

abbrev pub model_of : ℕ → Model
model_of n = (part_of n).row

-- 24 bits, high byte first, modulo the array's length
unfoldable pub address_of : ℕ → ℕ → ℕ → ℕ → Address
address_of n high middle low = record { 0 = (high * 65536 + (middle * 256 + low)) % (model_of n).length }

-- the part's ranges by TB
abbrev pub ranges_of : Part → Bool → List Range
ranges_of p tb = cond tb p.bottom p.top

unfoldable pub range_of : ℕ → Bool → ℕ → Range
range_of n tb bp = get_or (ranges_of (part_of n) tb) bp (range 0 0)

-- the block is one of the range
unfoldable pub is_protected : ℕ → Bool → ℕ → Block → Bool
is_protected n tb bp b =
    leb (first_block (range_of n tb bp)).0 b.0 && ltb b.0 ((first_block (range_of n tb bp)).0 + blocks_of (range_of n tb bp))
