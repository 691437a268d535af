-- Words for lists of samples and for the bits that they send (Req 07).
use Rattle.std.specs.Prelude.{Bool, true, false, not, ◌&&◌, cond, List, [], ◌∷◌, ◌++◌, ◌≡◌, ℕ, ◌+◌, ◌*◌, ◌/◌, ◌%◌, ◌<◌, ltb, get_or}
use Rattle.pins.specs.declared.Front.{Front}
use Rattle.pins.specs.Pins.{select_of, clock_of, si_of, is_held}

-- ---- samples
-- CS# is low in each
abbrev pub all_low : List ℕ → Bool
all_low [] = true
all_low (l ∷ ls) = not (select_of l) && all_low ls

-- from a fall to the next rise
pub record FallToRise (f : Front) (fall : ℕ) (between : List ℕ) (rise : ℕ) : Type 0 where
  pub high : f.select ≡ true
  pub falls : select_of fall ≡ false
  pub low : all_low between ≡ true
  pub rises : select_of rise ≡ true

-- none is held; whether the last is held; those that are not held. The Bool is whether the sample before was held
abbrev pub none_held : Bool → List ℕ → Bool
none_held before [] = true
none_held before (l ∷ ls) = not (is_held before l) && none_held (is_held before l) ls

abbrev pub last_held : Bool → List ℕ → Bool
last_held before [] = before
last_held before (l ∷ ls) = last_held (is_held before l) ls

abbrev pub unheld : Bool → List ℕ → List ℕ
unheld before [] = []
unheld before (l ∷ ls) = cond (is_held before l) (unheld true ls) (l ∷ unheld false ls)

-- the same samples with CS# high in each
abbrev pub deselected : List ℕ → List ℕ
deselected [] = []
deselected (l ∷ ls) = (l / 2 * 2 + 1) ∷ deselected ls

-- SI's bits at the rising clocks; the Bool is SCLK of the sample before
abbrev pub bits_at : Bool → List ℕ → List ℕ
bits_at clock [] = []
bits_at clock (l ∷ ls) = cond (not clock && clock_of l) (si_of l ∷ bits_at (clock_of l) ls) (bits_at (clock_of l) ls)

-- ---- bits
-- the whole bytes that bits make, high bit first; n bits of value v were there before
abbrev pub bytes_from : ℕ → ℕ → List ℕ → List ℕ
bytes_from n v [] = []
bytes_from n v (b ∷ bits) = cond (ltb n 7) (bytes_from (n + 1) (2 * v + b) bits) ((2 * v + b) ∷ bytes_from 0 0 bits)

abbrev pub whole_of : List ℕ → List ℕ
whole_of bits = bytes_from 0 0 bits

-- the bits that bytes are
abbrev pub byte_bits : List ℕ → List ℕ
byte_bits [] = []
byte_bits (b ∷ bytes) = b / 128 % 2 ∷ b / 64 % 2 ∷ b / 32 % 2 ∷ b / 16 % 2 ∷ b / 8 % 2 ∷ b / 4 % 2 ∷ b / 2 % 2 ∷ b % 2 ∷ byte_bits bytes

-- every element is a bit
pub record AreBits (bits : List ℕ) : Type 0 where
  pub below : (k : ℕ) → get_or bits k 0 < 2

-- ---- a frame's bits in samples: CS# falls, SCLK low and high for each bit, CS# rises; HOLD# high throughout
abbrev pub clocking : List ℕ → List ℕ
clocking [] = []
clocking (b ∷ bits) = (16 + 4 * b) ∷ (18 + 4 * b) ∷ clocking bits

abbrev pub samples_for : List ℕ → List ℕ → Bool → List ℕ
samples_for bytes tail wp = cond wp 24 16 ∷ (clocking (byte_bits bytes ++ tail) ++ (17 ∷ []))
