-- A sector erased, bytes programmed into a page of it, and read back.
use mathlib.Core.Path.{◌≡◌, ap, ◌∙◌}
use mathlib.Core.List.{List}
use Prim.Native.Nat.{ℕ, ◌+◌, ◌≤◌, ◌<◌}
use native.Mathlib.Omega.{arith}
use lib.ListN.{length, get_or}
use Rattle.units.specs.declared.Address.{Address}
use Rattle.units.specs.Kinds.{sector_of, sector_start, page_start, page_offset}
use Rattle.cells.specs.Cell.{FF, erased}
use Rattle.parts.specs.Parts.{Bytes, part, lay}
use Rattle.rings.specs.Ring.{ring}
use Rattle.flash.specs.Arrays.{sector_erased, programmed}
use Rattle.parts.proofs.Lay.{lay-before, lay-after}
use Rattle.rings.proofs.Ring.{ring-lay}
use Rattle.flash.proofs.Arrays.{length-sector_erased, part-sector_erased, sector-erase, programmed-fresh}

module _ (xs : List ℕ) (a : Address) (h : sector_start (sector_of a) + 4096 ≤ length xs) where
  -- the page that holds the address is fresh
  pub fresh-in-sector : part (sector_erased xs (sector_of a)) (page_start a) 256 ≡ erased 256
  fresh-in-sector = part-sector_erased xs (sector_of a) h (page_start a) 256 (omega arith) (omega arith)

  module _ (sent : List ℕ) (fits : page_offset a + length sent ≤ 256) (b : Bytes sent) where
    -- it takes the bytes as they are
    pub written : programmed (sector_erased xs (sector_of a)) a sent ≡ lay (sector_erased xs (sector_of a)) a.0 sent
    written =
        programmed-fresh (sector_erased xs (sector_of a)) a sent (omega (arith, length-sector_erased xs (sector_of a) h)) fresh-in-sector fits b

    -- which a read gives back
    pub read_back : ring (programmed (sector_erased xs (sector_of a)) a sent) a.0 (length sent) ≡ sent
    read_back =
        ap (λ (z : List ℕ). ring z a.0 (length sent)) written
        ∙ ring-lay (sector_erased xs (sector_of a)) a.0 sent (omega (arith, length-sector_erased xs (sector_of a) h))

    -- and the rest of the sector is FF
    pub rest-before : (k : ℕ) → sector_start (sector_of a) ≤ k → k < a.0 → get_or (programmed (sector_erased xs (sector_of a)) a sent) k 0 ≡ FF
    rest-before k l m =
        ap (λ (z : List ℕ). get_or z k 0) written
        ∙ lay-before (sector_erased xs (sector_of a)) a.0 sent k (omega (arith, length-sector_erased xs (sector_of a) h)) m
        ∙ (sector-erase xs (sector_of a) h).unit k l (omega arith)

    pub rest-behind : (k : ℕ) → a.0 + length sent ≤ k → k < sector_start (sector_of a) + 4096 → get_or (programmed (sector_erased xs (sector_of a)) a sent) k 0 ≡ FF
    rest-behind k l m =
        ap (λ (z : List ℕ). get_or z k 0) written
        ∙ lay-after (sector_erased xs (sector_of a)) a.0 sent k (omega (arith, length-sector_erased xs (sector_of a) h)) l
        ∙ (sector-erase xs (sector_of a) h).unit k (omega arith) m
