-- What holds of every model's row and of every protected range, said once over the whole table.
use Rattle.std.specs.Prelude.{◌≡◌, Bool, true, false, ℕ, ◌+◌, ◌*◌, ◌≤◌, ◌<◌}
use Rattle.units.specs.declared.Address.{Address}
use Rattle.units.specs.Kinds.{sector_of, half_block_of, block_of, page_start, block_of_sector, block_of_half, sector_start, half_block_start, block_start}
use Rattle.models.specs.Models.{model_of, range_of, first_block, blocks_of}

-- an array is whole sectors, whole half blocks and whole blocks, and no longer than 24 bits of address reach
pub record Whole (n : ℕ) : Type 0 where
  pub sectors : (model_of n).length ≡ 4096 * (model_of n).sectors
  pub half-blocks : (model_of n).length ≡ 32768 * (model_of n).half_blocks
  pub blocks : (model_of n).length ≡ 65536 * (model_of n).blocks
  pub some : 65536 ≤ (model_of n).length
  pub reach : (model_of n).length ≤ 16777216

abbrev pub RowRules : Type 0
RowRules = (n : ℕ) → Whole n

-- the protected range lies in the model's blocks, is empty exactly when BP is 0, ends at the top with TB 0 and starts at block 0 with TB 1, and
-- grows with BP
pub record Guards (n : ℕ) (tb : Bool) (bp : ℕ) : Type 0 where
  pub inside : (first_block (range_of n tb bp)).0 + blocks_of (range_of n tb bp) ≤ (model_of n).blocks
  pub none : bp ≡ 0 → blocks_of (range_of n tb bp) ≡ 0
  pub some : 0 < bp → 0 < blocks_of (range_of n tb bp)
  pub top : tb ≡ false → (first_block (range_of n tb bp)).0 + blocks_of (range_of n tb bp) ≡ (model_of n).blocks
  pub bottom : tb ≡ true → (first_block (range_of n tb bp)).0 ≡ 0
  pub grows : bp < (model_of n).highest_bp → blocks_of (range_of n tb bp) ≤ blocks_of (range_of n tb (bp + 1))

-- a part without the register has TB 0
abbrev pub RangeRules : Type 0
RangeRules = (n : ℕ) (tb : Bool) (bp : ℕ) → bp ≤ (model_of n).highest_bp → (tb ≡ true → (model_of n).register ≡ true) → Guards n tb bp

-- a page lies wholly in one block, and so do a sector and a half block
abbrev pub PageInBlock : Type 0
PageInBlock = (a b : Address) → page_start a ≡ page_start b → block_of a ≡ block_of b

abbrev pub SectorInBlock : Type 0
SectorInBlock = (a b : Address) → sector_of a ≡ sector_of b → block_of a ≡ block_of b

abbrev pub HalfInBlock : Type 0
HalfInBlock = (a b : Address) → half_block_of a ≡ half_block_of b → block_of a ≡ block_of b

abbrev pub BlockOfSector : Type 0
BlockOfSector = (a : Address) → block_of a ≡ block_of_sector (sector_of a)

abbrev pub BlockOfHalf : Type 0
BlockOfHalf = (a : Address) → block_of a ≡ block_of_half (half_block_of a)

-- the units of an address inside the array lie wholly inside it
pub record Inside (n : ℕ) (a : Address) : Type 0 where
  pub page : page_start a + 256 ≤ (model_of n).length
  pub sector : sector_start (sector_of a) + 4096 ≤ (model_of n).length
  pub half-block : half_block_start (half_block_of a) + 32768 ≤ (model_of n).length
  pub block : block_start (block_of a) + 65536 ≤ (model_of n).length

abbrev pub UnitsInside : Type 0
UnitsInside = (n : ℕ) (a : Address) → a.0 < (model_of n).length → Inside n a
