-- How a chip of model 1 is locked, and why the locked area needs each of its conditions (Req 13): without one of them BP becomes another.
use Rattle.std.specs.Prelude.{◌≡◌, Bool, true, false, List, [], ◌∷◌, ◌++◌, ℕ, get_or, replicate}
use Rattle.states.specs.States.{no_command, no_address, blank_page, Chip, chip_of, bench_kh25l512}
use Rattle.states.specs.declared.Record.{Record}
use Rattle.chip.specs.Frames.{sent_of}
use Rattle.calls.specs.Calls.{Call, sends, waits}
use Rattle.recovery.specs.Histories.{Lent, factory, history}
use Rattle.promises.specs.Protected.{in_area}
use Rattle.promises.specs.Locked.{SmallChip, WpLow, StaysLocked}

-- BP 3 protects the whole array, with that SRWD; and such a chip a microsecond before a status write of 80 ends
abbrev pub guarded_chip : Bool → Chip
guarded_chip srwd =
    chip_of (record { srwd = srwd; bp = 3; config = 0; wel = false; asleep = false; busy = 0; settle = 0; command = no_command; address = no_address }) blank_page []

abbrev pub writing_chip : Chip
writing_chip =
    chip_of (record { srwd = true; bp = 3; config = 0; wel = true; asleep = false; busy = 1; settle = 0; command = 0x01; address = 1 }) (0x80 ∷ replicate 255 0xFF) []

-- calls on an array of 0: a frame with that WP#, and a wait
abbrev pub on_zeros : Call → Lent
on_zeros c = record { call = c; cells = replicate 65536 0 }

abbrev pub frame_at : Bool → List ℕ → Lent
frame_at wp bytes = on_zeros (sends (sent_of bytes 0 wp false (replicate 16 0) (replicate 4 0)))

abbrev pub wait_for : ℕ → Lent
wait_for us = on_zeros (waits us)

-- 06, 01 and the data byte, each with its WP#, and the wait
abbrev pub status_calls : Bool → Bool → ℕ → List Lent
status_calls first second value = frame_at first (0x06 ∷ []) ∷ frame_at second (0x01 ∷ value ∷ []) ∷ wait_for 15000 ∷ []

-- the chip after such calls, with the bench record of model 1
abbrev pub bench_after : List Lent → Chip → Chip
bench_after past x = history bench_kh25l512 past x

-- ---- the lock is set: from power-on, 8C with WP# high
abbrev pub LockSet : Type 0
LockSet = (bench_after (status_calls true true 0x8C) (factory [])).state ≡ (guarded_chip true).state

-- ---- BP 3 becomes 0
-- by a status write that ran at the start
abbrev pub WriteRuns : Type 0
WriteRuns = (bench_after (wait_for 1 ∷ []) writing_chip).state.bp ≡ 0

-- by one frame with WP# high
abbrev pub WpHighOnce : Type 0
WpHighOnce = (bench_after (status_calls false true 0x00) (guarded_chip true)).state.bp ≡ 0

-- with WP# low, where SRWD is 0
abbrev pub SrwdClear : Type 0
SrwdClear = (bench_after (status_calls false false 0x00) (guarded_chip false)).state.bp ≡ 0

-- and then an erase of block 0 is taken, also with WP# low: the first cell, which was protected and 0, is FF
abbrev pub erasing : List Lent
erasing = frame_at false (0x06 ∷ []) ∷ frame_at false (0xD8 ∷ 0x00 ∷ 0x00 ∷ 0x00 ∷ []) ∷ wait_for 2000000 ∷ []

abbrev pub AreaErased : Type 0
AreaErased =
    (in_area bench_kh25l512 (guarded_chip false).state 0 ≡ true) × (get_or (bench_after (status_calls false false 0x00 ++ erasing) (guarded_chip false)).cells 0 0 ≡ 0xFF)

-- ---- so the locked area does not hold without that condition: idle at the start, WP# low, SRWD 1
abbrev pub NeedsIdle : Type 0
NeedsIdle = ((rec : Record) (past : List Lent) (x : Chip) → SmallChip rec → x.state.srwd ≡ true → WpLow past → StaysLocked rec x.state past x) → ⊥

abbrev pub NeedsWpLow : Type 0
NeedsWpLow = ((rec : Record) (past : List Lent) (x : Chip) → SmallChip rec → x.state.busy ≡ 0 → x.state.srwd ≡ true → StaysLocked rec x.state past x) → ⊥

abbrev pub NeedsSrwd : Type 0
NeedsSrwd = ((rec : Record) (past : List Lent) (x : Chip) → SmallChip rec → x.state.busy ≡ 0 → WpLow past → StaysLocked rec x.state past x) → ⊥
