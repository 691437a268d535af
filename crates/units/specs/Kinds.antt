-- Addresses, sectors, half blocks, blocks and pages: 01, "Units" (000 L173-179, 002 L208-223, 003 L346-394); addresses of the SFDP table: Req 12 (002 L534).
use Rattle.std.specs.Prelude.{ℕ, ◌+◌, ◌*◌, ◌/◌, ◌%◌}
use Rattle.units.specs.declared.Address.{Address}
use Rattle.units.specs.declared.Sector.{Sector}
use Rattle.units.specs.declared.HalfBlock.{HalfBlock}
use Rattle.units.specs.declared.Block.{Block}
use Rattle.units.specs.declared.SfdpAddress.{SfdpAddress}

-- a sector is 4,096 bytes, a half block 32,768, a block 65,536, a page 256
abbrev pub sector_of : Address → Sector
sector_of a = record { 0 = a.0 / 4096 }

abbrev pub half_block_of : Address → HalfBlock
half_block_of a = record { 0 = a.0 / 32768 }

abbrev pub block_of : Address → Block
block_of a = record { 0 = a.0 / 65536 }

abbrev pub page_start : Address → ℕ
page_start a = a.0 / 256 * 256

abbrev pub page_offset : Address → ℕ
page_offset a = a.0 % 256

-- so a block is 16 sectors, and two half blocks
abbrev pub block_of_sector : Sector → Block
block_of_sector s = record { 0 = s.0 / 16 }

abbrev pub block_of_half : HalfBlock → Block
block_of_half h = record { 0 = h.0 / 2 }

-- the first sectors of a half block and of a block
abbrev pub first_of_half : HalfBlock → Sector
first_of_half h = record { 0 = 8 * h.0 }

abbrev pub first_of_block : Block → Sector
first_of_block b = record { 0 = 16 * b.0 }

abbrev pub sector_start : Sector → ℕ
sector_start s = s.0 * 4096

abbrev pub half_block_start : HalfBlock → ℕ
half_block_start h = h.0 * 32768

abbrev pub block_start : Block → ℕ
block_start b = b.0 * 65536

-- an address of the SFDP table is the one that was sent, 24 bits, high byte first: no array has a part in it, so there is no modulo
abbrev pub sfdp_address : ℕ → ℕ → ℕ → SfdpAddress
sfdp_address high middle low = record { 0 = high * 65536 + (middle * 256 + low) }
