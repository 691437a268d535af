-- The bench sheet: 01's cases marked ●, in its order and words, and what sleep (Req 04), model 3 (Req 01), 52 withdrawn (Req 11) and 5A (Req 12) add. One table, and one statement over it.
-- A line is a call and what is seen of it: `says`, the answer and the status byte after; `drives_from`, the first driven position, the driven bytes and the status byte.
use Rattle.std.specs.Prelude.{◌≡◌, true, false, List, [], ◌∷◌, ℕ, get_or, replicate}
use Rattle.cells.specs.Cell.{erased}
use Rattle.calls.specs.Calls.{ours}
use Rattle.sheet.specs.Lines.{config, asleep, settle, cells, Row, send, send_tail, send_low, wait, cycle, says, drives_from, ◌and◌, ◌⇒◌, on_model, ◌∣◌, bench, ArraysFit, filled}

-- a row that begins with SRWD and BP brought to those of a byte: 06, 01, and the wait
abbrev pub brought_to : ℕ → ℕ → Row
brought_to byte m =
    on_model m
    ∣ send (0x06 ∷ []) ⇒ says 0 0x02
    ∣ send (0x01 ∷ byte ∷ []) ⇒ says 0 0x03
    ∣ wait (bench m).status_write ⇒ says 0 byte

-- one that begins with a fresh first sector: 06, 20, and the wait
abbrev pub fresh_on : ℕ → Row
fresh_on m =
    on_model m
    ∣ send (0x06 ∷ []) ⇒ says 0 0x02
    ∣ send (0x20 ∷ 0 ∷ 0 ∷ 0 ∷ []) ⇒ says 0 0x03
    ∣ wait (bench m).sector ⇒ says 0 0x00

-- the table; `last` and `first` are those cells of model 1's array
abbrev pub sheet : ℕ → ℕ → List Row
sheet last first =
    -- ● Power-on, 05 00: drives 00
    on_model 1
    ∣ send (0x05 ∷ 0x00 ∷ []) ⇒ drives_from 1 (0x00 ∷ []) 0x00
    -- ● 06 with tail 1: 14, WEL 0. Empty, tail 7: 10
    ∷ on_model 1
    ∣ send_tail 1 (0x06 ∷ []) ⇒ says 14 0x00
    ∣ send_tail 7 [] ⇒ says 10 0x00
    -- ● 02 with WEL 0 and BP 1: 15
    ∷ brought_to 0x04 1
    ∣ send (0x02 ∷ 0 ∷ 0 ∷ 0 ∷ 0x11 ∷ []) ⇒ says 15 0x04
    -- ● Fresh page, 257 data bytes at 0, the first 11, the others 22: all 256 hold 22 (after the wait: Req 05)
    ∷ fresh_on 1
    ∣ send (0x06 ∷ []) ⇒ says 0 0x02
    ∣ send (0x02 ∷ 0 ∷ 0 ∷ 0 ∷ 0x11 ∷ replicate 256 0x22) ⇒ says 0 0x03 and cells (erased 256)
    ∣ wait 5000 ⇒ says 0 0x00 and cells (replicate 256 0x22)
    -- ● Cell F0, data 3C: 30 (after the wait: Req 05)
    ∷ fresh_on 1
    ∣ send (0x06 ∷ []) ⇒ says 0 0x02
    ∣ send (0x02 ∷ 0 ∷ 0 ∷ 0 ∷ 0xF0 ∷ []) ⇒ says 0 0x03
    ∣ wait 5000 ⇒ says 0 0x00 and cells (0xF0 ∷ [])
    ∣ send (0x06 ∷ []) ⇒ says 0 0x02
    ∣ send (0x02 ∷ 0 ∷ 0 ∷ 0 ∷ 0x3C ∷ []) ⇒ says 0 0x03 and cells (0xF0 ∷ [])
    ∣ wait 5000 ⇒ says 0 0x00 and cells (0x30 ∷ [])
    -- ● WEL 1, BP 1, 20 at 0: 17, WEL still 1
    ∷ brought_to 0x04 1
    ∣ send (0x06 ∷ []) ⇒ says 0 0x06
    ∣ send (0x20 ∷ 0 ∷ 0 ∷ 0 ∷ []) ⇒ says 17 0x06
    -- ● Model 2, WEL 1, BP 1: 20 at 02FFFF is 0, at 030000 is 17 (asked first: the other one leaves the chip busy)
    ∷ brought_to 0x04 2
    ∣ send (0x06 ∷ []) ⇒ says 0 0x06
    ∣ send (0x20 ∷ 0x03 ∷ 0x00 ∷ 0x00 ∷ []) ⇒ says 17 0x06
    ∣ send (0x20 ∷ 0x02 ∷ 0xFF ∷ 0xFF ∷ []) ⇒ says 0 0x07
    -- ● SRWD 1, WEL 1, 01 00: WP# low 16, high 0
    ∷ brought_to 0x80 1
    ∣ send (0x06 ∷ []) ⇒ says 0 0x82
    ∣ send_low (0x01 ∷ 0x00 ∷ []) ⇒ says 16 0x82
    ∣ send (0x01 ∷ 0x00 ∷ []) ⇒ says 0 0x83
    -- ● 01 FF accepted: status 03 (Req 05, for 8F), after the wait 8C
    ∷ on_model 1
    ∣ send (0x06 ∷ []) ⇒ says 0 0x02
    ∣ send (0x01 ∷ 0xFF ∷ []) ⇒ says 0 0x03
    ∣ wait 15000 ⇒ says 0 0x8C
    -- ● Deep power-down: 05 00 is 12; AB and four bytes drives 05 (with the waits of Req 04, and 22 before each)
    ∷ on_model 1
    ∣ send (0xB9 ∷ []) ⇒ says 0 0x00 and asleep true and settle 10
    ∣ send (0x05 ∷ 0x00 ∷ []) ⇒ says 22 0x00 and asleep true and settle 10
    ∣ wait 10 ⇒ says 0 0x00 and asleep true and settle 0
    ∣ send (0x05 ∷ 0x00 ∷ []) ⇒ says 12 0x00 and asleep true and settle 0
    ∣ send (0xAB ∷ 0 ∷ 0 ∷ 0 ∷ 0 ∷ []) ⇒ drives_from 4 (0x05 ∷ []) 0x00 and asleep false and settle 10
    ∣ send (0x05 ∷ 0x00 ∷ []) ⇒ says 22 0x00 and asleep false and settle 10
    ∣ wait 10 ⇒ says 0 0x00 and asleep false and settle 0
    ∣ send (0x05 ∷ 0x00 ∷ []) ⇒ drives_from 1 (0x00 ∷ []) 0x00 and asleep false and settle 0
    -- ● 03 00FFFF and two bytes: the last cell, then the first
    ∷ on_model 1
    ∣ send (0x03 ∷ 0x00 ∷ 0xFF ∷ 0xFF ∷ 0 ∷ 0 ∷ []) ⇒ drives_from 4 (last ∷ first ∷ []) 0x00
    -- Model 2: the short AB and the long one settle for 9, and awake for nothing (002 L803-806)
    ∷ on_model 2
    ∣ send (0xB9 ∷ []) ⇒ says 0 0x00 and asleep true and settle 10
    ∣ wait 10 ⇒ says 0 0x00 and asleep true and settle 0
    ∣ send (0xAB ∷ []) ⇒ says 0 0x00 and asleep false and settle 9
    ∣ wait 9 ⇒ says 0 0x00 and asleep false and settle 0
    ∣ send (0xAB ∷ []) ⇒ says 0 0x00 and asleep false and settle 0
    ∣ send (0xB9 ∷ []) ⇒ says 0 0x00 and asleep true and settle 10
    ∣ wait 10 ⇒ says 0 0x00 and asleep true and settle 0
    ∣ send (0xAB ∷ 0 ∷ 0 ∷ 0 ∷ 0 ∷ []) ⇒ drives_from 4 (0x11 ∷ []) 0x00 and asleep false and settle 9
    -- Model 3: the short AB and the long one settle for 30 (003 L2133-2134)
    ∷ on_model 3
    ∣ send (0xB9 ∷ []) ⇒ says 0 0x00 and asleep true and settle 10
    ∣ wait 10 ⇒ says 0 0x00 and asleep true and settle 0
    ∣ send (0xAB ∷ []) ⇒ says 0 0x00 and asleep false and settle 30
    ∣ wait 30 ⇒ says 0 0x00 and asleep false and settle 0
    ∣ send (0xB9 ∷ []) ⇒ says 0 0x00 and asleep true and settle 10
    ∣ wait 10 ⇒ says 0 0x00 and asleep true and settle 0
    ∣ send (0xAB ∷ 0 ∷ 0 ∷ 0 ∷ 0 ∷ []) ⇒ drives_from 4 (0x17 ∷ []) 0x00 and asleep false and settle 30
    -- Model 3, TB 0, WEL 1, BP 1: 20 at FF0000 is 17, and WEL is 0; at FEFFFF it is 0 (003 L285-323, L803)
    ∷ brought_to 0x04 3
    ∣ send (0x06 ∷ []) ⇒ says 0 0x06
    ∣ send (0x20 ∷ 0xFF ∷ 0x00 ∷ 0x00 ∷ []) ⇒ says 17 0x04
    ∣ send (0x06 ∷ []) ⇒ says 0 0x06
    ∣ send (0x20 ∷ 0xFE ∷ 0xFF ∷ 0xFF ∷ []) ⇒ says 0 0x07
    -- Model 3, TB 1, WEL 1, BP 1: 20 at 0 is 17, and WEL is 0; at 010000 it is 0 (003 L285-323, L803)
    ∷ on_model 3
    ∣ send (0x06 ∷ []) ⇒ says 0 0x02
    ∣ send (0x01 ∷ 0x04 ∷ 0x08 ∷ []) ⇒ says 0 0x03 and config 0x00
    ∣ wait 40000 ⇒ says 0 0x04 and config 0x08
    ∣ send (0x06 ∷ []) ⇒ says 0 0x06
    ∣ send (0x20 ∷ 0x00 ∷ 0x00 ∷ 0x00 ∷ []) ⇒ says 17 0x04
    ∣ send (0x06 ∷ []) ⇒ says 0 0x06
    ∣ send (0x20 ∷ 0x01 ∷ 0x00 ∷ 0x00 ∷ []) ⇒ says 0 0x07
    -- Model 3, 01 FF FF: status 03 and register 00, after the wait BC and DB, which 15 drives (003 L505); after a power cycle the register is 08 (003 L840-864)
    ∷ on_model 3
    ∣ send (0x06 ∷ []) ⇒ says 0 0x02
    ∣ send (0x01 ∷ 0xFF ∷ 0xFF ∷ []) ⇒ says 0 0x03 and config 0x00
    ∣ wait 40000 ⇒ says 0 0xBC and config 0xDB
    ∣ send (0x15 ∷ 0x00 ∷ 0x00 ∷ []) ⇒ drives_from 1 (0xDB ∷ 0xDB ∷ []) 0xBC
    ∣ cycle ⇒ says 0 0xBC and config 0x08
    -- Model 1, 15: 13
    ∷ on_model 1
    ∣ send (0x15 ∷ 0x00 ∷ []) ⇒ says 13 0x00
    -- Model 1, WEL 1, 52 at 0: 21, WEL still 1; D8 at 0: 0 (Req 11)
    ∷ on_model 1
    ∣ send (0x06 ∷ []) ⇒ says 0 0x02
    ∣ send (0x52 ∷ 0 ∷ 0 ∷ 0 ∷ []) ⇒ says 21 0x02
    ∣ send (0xD8 ∷ 0 ∷ 0 ∷ 0 ∷ []) ⇒ says 0 0x03
    -- Model 2, 5A: four bytes 14; five drive nothing; from 0 the signature, from 4C the erase types, and at 040000, which is no array address, FF (Req 12)
    ∷ on_model 2
    ∣ send (0x5A ∷ 0 ∷ 0 ∷ 0 ∷ []) ⇒ says 14 0x00
    ∣ send (0x5A ∷ 0 ∷ 0 ∷ 0 ∷ 0 ∷ []) ⇒ says 0 0x00
    ∣ send_tail 3 (0x5A ∷ 0 ∷ 0 ∷ 0 ∷ 0 ∷ 0 ∷ 0 ∷ 0 ∷ 0 ∷ []) ⇒ drives_from 5 (0x53 ∷ 0x46 ∷ 0x44 ∷ 0x50 ∷ []) 0x00
    ∣ send (0x5A ∷ 0 ∷ 0 ∷ 0x4C ∷ 0 ∷ 0 ∷ 0 ∷ 0 ∷ 0 ∷ []) ⇒ drives_from 5 (0x0C ∷ 0x20 ∷ 0x10 ∷ 0xD8 ∷ []) 0x00
    ∣ send (0x5A ∷ 0x04 ∷ 0 ∷ 0 ∷ 0 ∷ 0 ∷ []) ⇒ drives_from 5 (0xFF ∷ []) 0x00
    -- Models 1 and 3, 5A: 13
    ∷ on_model 1
    ∣ send (0x5A ∷ 0 ∷ 0 ∷ 0 ∷ 0 ∷ 0 ∷ []) ⇒ says 13 0x00
    ∷ on_model 3
    ∣ send (0x5A ∷ 0 ∷ 0 ∷ 0 ∷ 0 ∷ 0 ∷ []) ⇒ says 13 0x00
    ∷ []

-- whatever the arrays hold: filled in by our model, the sheet is as it stands
abbrev pub BenchSheet : Type 0
BenchSheet =
    (array : ℕ → List ℕ) → ArraysFit array
    → (let rows : List Row = sheet (get_or (array 1) 65535 0) (get_or (array 1) 0 0) in filled ours array rows ≡ rows)
