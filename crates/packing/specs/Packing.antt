-- The record of ten numbers, and the packed state: 01, "Record, state, frame", last paragraph, and Req 04 and 05.
use Rattle.std.specs.Prelude.{Bool, true, false, ◌&&◌, cond, List, [], ◌∷◌, ◌++◌, ℕ, ◌+◌, ◌*◌, ◌/◌, ◌%◌, eqb, leb, length, get_or, take, drop}
use Rattle.parts.specs.Parts.{bytes_of, spelt}
use Rattle.states.specs.States.{flag, status_of, no_command, no_address}
use Rattle.states.specs.declared.Record.{Record}
use Rattle.states.specs.declared.State.{State}

-- the record of ten numbers
abbrev pub record_of : ℕ → ℕ → ℕ → ℕ → ℕ → ℕ → ℕ → ℕ → ℕ → ℕ → Record
record_of model status page sector block chip half sleep wake sign =
    record { model = model; status_write = status; page = page; sector = sector; block = block; chip = chip; half = half; sleep = sleep; wake = wake; sign = sign }

-- the number in the four bytes from place k on
abbrev pub time_at : ℕ → List ℕ → ℕ
time_at k xs = spelt (take 4 (drop k xs))

-- an address as a frame sends it, the high byte first, and the one that three bytes spell
abbrev pub place_bytes : ℕ → List ℕ
place_bytes x = x / 65536 % 256 ∷ x / 256 % 256 ∷ x % 256 ∷ []

abbrev pub place_spelt : ℕ → ℕ → ℕ → ℕ
place_spelt high middle low = low + 256 * (middle + 256 * high)

-- the first 16 bytes: the status byte, the deep power-down flag 0 or 1, the configuration register, a zero, little-endian the busy time and the time still to
-- settle, and of the operation that runs its command byte and its address, or how many data bytes a status write has
unfoldable pub pack_of : State → List ℕ
pack_of s =
    status_of s
    ∷ flag s.asleep 1
    ∷ s.config
    ∷ 0
    ∷ (bytes_of 4 s.busy ++ (bytes_of 4 s.settle ++ (s.command ∷ place_bytes s.address)))

-- the other 256 are the page data
abbrev pub packed : State → List ℕ → List ℕ
packed s page = pack_of s ++ page

abbrev pub page_in : List ℕ → List ℕ
page_in xs = drop 16 xs

-- the state that bytes spell: SRWD is bit 7, BP bits 5 to 2 (above the model's highest it is not valid), WEL bit 1. WIP is not read:
-- it has to be what the busy time makes it
unfoldable pub read_of : List ℕ → State
read_of xs =
    record {
      srwd = leb 128 (get_or xs 0 0);
      bp = get_or xs 0 0 / 4 % 16;
      config = get_or xs 2 0;
      wel = eqb (get_or xs 0 0 / 2 % 2) 1;
      asleep = eqb (get_or xs 1 0) 1;
      busy = time_at 4 xs;
      settle = time_at 8 xs;
      command = get_or xs 12 0;
      address = place_spelt (get_or xs 13 0) (get_or xs 14 0) (get_or xs 15 0);
    }

abbrev pub same : List ℕ → List ℕ → Bool
same [] [] = true
same [] (y ∷ ys) = false
same (x ∷ xs) [] = false
same (x ∷ xs) (y ∷ ys) = eqb x y && same xs ys

-- bytes are a packing when there are 272, and the first 16 just pack the state that they spell: no other content, no other length. Whether the page data fit
-- the state is said by `page_ok`, as it is said by `state_ok` whether the state is valid
unfoldable pub is_packing : List ℕ → Bool
is_packing xs = eqb (length xs) 272 && same (take 16 xs) (pack_of (read_of xs))

-- no record makes it valid: no model has that BP
abbrev pub no_state : State
no_state = record { srwd = false; bp = 255; config = 0; wel = false; asleep = false; busy = 0; settle = 0; command = no_command; address = no_address }

unfoldable pub unpack_of : List ℕ → State
unpack_of xs = cond (is_packing xs) (read_of xs) no_state

-- the busy time that bytes spell: the four from place 4 on where there are 272, and 0 otherwise
unfoldable pub busy_in : List ℕ → ℕ
busy_in xs = cond (eqb (length xs) 272) (time_at 4 xs) 0
