-- Records, states, page data and the status byte: 01, "Record, state, frame".
use Rattle.std.specs.Prelude.{Bool, true, false, not, ◌&&◌, ◌||◌, cond, List, [], ◌∷◌, ◌++◌, ℕ, ◌+◌, ◌*◌, ◌/◌, ◌%◌, max, eqb, leb, ltb, length, drop, replicate, Option, Some, None}
use Rattle.parts.specs.Parts.{all_are}
use Rattle.commands.specs.Commands.{started_by}
use Rattle.commands.specs.declared.Operation.{Operation}
use Rattle.commands.specs.declared.Operation.TheVariants.{WritesStatus, Programs, ErasesSector, ErasesHalf, ErasesBlock, ErasesChip}
use Rattle.models.specs.Models.{is_model, model_of}
use Rattle.states.specs.declared.Record.{Record}
use Rattle.states.specs.declared.State.{State}

-- the busy times that every model has, and all of them: the erase of a half block stands last
abbrev pub common_times : Record → List ℕ
common_times r = r.status_write ∷ r.page ∷ r.sector ∷ r.block ∷ r.chip ∷ []

abbrev pub busy_times : Record → List ℕ
busy_times r = common_times r ++ (r.half ∷ [])

-- the settling times: after B9, after the short AB, after the long AB (002 L802-806, 003 L2132-2134)
abbrev pub settle_times : Record → List ℕ
settle_times r = r.sleep ∷ r.wake ∷ r.sign ∷ []

abbrev pub times_of : Record → List ℕ
times_of r = busy_times r ++ settle_times r

-- each is 1 to 1,000,000,000 microseconds
unfoldable pub in_range : ℕ → Bool
in_range us = leb 1 us && leb us 1000000000

abbrev pub all : (ℕ → Bool) → List ℕ → Bool
all test [] = true
all test (us ∷ more) = test us && all test more

-- a model without the erase of a half block has 0 in its place, which counts for nothing
unfoldable pub half_ok : ℕ → ℕ → Bool
half_ok n us = cond (model_of n).half_erase (in_range us) (eqb us 0)

unfoldable pub record_ok : Record → Bool
record_ok r = is_model r.model && (all in_range (common_times r) && (half_ok r.model r.half && all in_range (settle_times r)))

abbrev pub largest : List ℕ → ℕ
largest [] = 0
largest (us ∷ more) = max us (largest more)

-- the longest busy time, the longest settling time, and the longest of all
unfoldable pub longest_busy : Record → ℕ
longest_busy r = largest (busy_times r)

unfoldable pub longest_settle : Record → ℕ
longest_settle r = largest (settle_times r)

unfoldable pub longest_of : Record → ℕ
longest_of r = largest (times_of r)

-- the configuration register: bits 7 and 6 (DC), 4 (PBE), 3 (TB), 1 and 0 (ODS); 5 and 2 are reserved and 0 (003 L840-843, L828-864). A model
-- without it has 0 in its place
unfoldable pub config_ok : Bool → ℕ → Bool
config_ok register config = cond register (eqb (config / 32 % 2) 0 && eqb (config / 4 % 2) 0) (eqb config 0)

-- TB 0: the protected range is at the top; TB 1: at the bottom (003 L832, L843)
unfoldable pub tb_of : State → Bool
tb_of s = eqb (s.config / 8 % 2) 1

-- ---- the operation that runs
-- an idle chip's command byte and address
abbrev pub no_command : ℕ
no_command = 0xFF

abbrev pub no_address : ℕ
no_address = 0xFFFFFF

-- how long each runs
abbrev pub operation_time : Record → Option Operation → ℕ
operation_time r None = 0
operation_time r (Some WritesStatus) = r.status_write
operation_time r (Some Programs) = r.page
operation_time r (Some ErasesSector) = r.sector
operation_time r (Some ErasesHalf) = r.half
operation_time r (Some ErasesBlock) = r.block
operation_time r (Some ErasesChip) = r.chip

-- what stands in the address's place: an address below the array's length, or the number of a status write's data bytes: one, and with the register one or
-- two; or nothing
abbrev pub place_ok : ℕ → Option Operation → ℕ → Bool
place_ok n None place = eqb place no_address
place_ok n (Some WritesStatus) place = eqb place 1 || ((model_of n).register && eqb place 2)
place_ok n (Some Programs) place = ltb place (model_of n).length
place_ok n (Some ErasesSector) place = ltb place (model_of n).length
place_ok n (Some ErasesHalf) place = ltb place (model_of n).length
place_ok n (Some ErasesBlock) place = ltb place (model_of n).length
place_ok n (Some ErasesChip) place = eqb place no_address

-- BP and the register are in their range
abbrev pub level_ok : ℕ → State → Bool
level_ok n s = leb s.bp (model_of n).highest_bp && config_ok (model_of n).register s.config

-- a chip that is not busy remembers no operation, and may settle
unfoldable pub idle_ok : Record → State → Bool
idle_ok r s = leb s.settle (longest_settle r) && (eqb s.command no_command && eqb s.address no_address)

-- a busy one runs an operation whose time is not over; it has WEL set, is not in deep power-down, and does not settle
abbrev pub runs_ok : Record → State → Option Operation → Bool
runs_ok r s op = (leb s.busy (operation_time r op) && place_ok r.model op s.address) && ((s.wel && not s.asleep) && eqb s.settle 0)

unfoldable pub busy_ok : Record → State → Bool
busy_ok r s = runs_ok r s (started_by r.model s.command)

-- the level is in its range, and the rest as it has to be while idle or while busy
unfoldable pub state_ok : Record → State → Bool
state_ok r s = level_ok r.model s && cond (eqb s.busy 0) (idle_ok r s) (busy_ok r s)

-- ---- the page data: 256 bytes, FF where they are not used
-- how many are used, from the first on: a program uses all, a status write one for each data byte
abbrev pub used_bytes : Option Operation → ℕ → ℕ
used_bytes None place = 0
used_bytes (Some WritesStatus) place = place
used_bytes (Some Programs) place = 256
used_bytes (Some ErasesSector) place = 0
used_bytes (Some ErasesHalf) place = 0
used_bytes (Some ErasesBlock) place = 0
used_bytes (Some ErasesChip) place = 0

-- page data that fit an operation
abbrev pub page_fits : Option Operation → ℕ → List ℕ → Bool
page_fits op place page = eqb (length page) 256 && all_are 0xFF (drop (used_bytes op place) page)

-- and a chip
unfoldable pub used_page : ℕ → State → ℕ
used_page n s = cond (eqb s.busy 0) 0 (used_bytes (started_by n s.command) s.address)

unfoldable pub page_ok : ℕ → State → List ℕ → Bool
page_ok n s page = eqb (length page) 256 && all_are 0xFF (drop (used_page n s) page)

-- no page data
abbrev pub blank_page : List ℕ
blank_page = replicate 256 0xFF

-- what lies between two calls: the chip's state, its page data and its array
pub record Chip : Type 0 where
  pub state : State
  pub page : List ℕ
  pub cells : List ℕ

abbrev pub chip_of : State → List ℕ → List ℕ → Chip
chip_of s page cells = record { state = s; page = page; cells = cells }

-- 128·SRWD + 4·BP + 2·WEL + WIP, and WIP is 1 exactly when busy time is left (000 L250-253, 004 M289, 003 L813-816)
abbrev pub flag : Bool → ℕ → ℕ
flag true value = value
flag false value = 0

unfoldable pub status_of : State → ℕ
status_of s = flag s.srwd 128 + (4 * s.bp + (flag s.wel 2 + flag (not (eqb s.busy 0)) 1))

-- power-on from the factory (000 L548)
abbrev pub power_on : State
power_on = record { srwd = false; bp = 0; config = 0; wel = false; asleep = false; busy = 0; settle = 0; command = no_command; address = no_address }

-- the sheets' maxima: 000 L521-525; 002 L807-812; 003 L2135-2141. The settling times of model 1 are house, the others the sheets' in whole
-- microseconds, rounded up (002 L802-806, 003 L2132-2134)
abbrev pub bench_kh25l512 : Record
bench_kh25l512 = record { model = 1; status_write = 15000; page = 5000; sector = 120000; block = 2000000; chip = 2000000; half = 0; sleep = 10; wake = 10; sign = 10 }

abbrev pub bench_kh25l2006e : Record
bench_kh25l2006e = record { model = 2; status_write = 40000; page = 3000; sector = 200000; block = 2000000; chip = 3800000; half = 0; sleep = 10; wake = 9; sign = 9 }

abbrev pub bench_kh25l12845g : Record
bench_kh25l12845g =
    record { model = 3; status_write = 40000; page = 750; sector = 400000; block = 2000000; chip = 100000000; half = 1000000; sleep = 10; wake = 30; sign = 30 }
