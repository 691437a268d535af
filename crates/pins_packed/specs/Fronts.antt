-- The packed front, eight bytes, and what a sample or a run of them does to it (Req 07).
use Rattle.std.specs.Prelude.{Bool, ◌&&◌, cond, List, [], ◌∷◌, ◌≡◌, ℕ, ◌+◌, ◌/◌, ◌%◌, eqb, ltb, length, get_or}
use Rattle.answers.specs.declared.Refusal.TheVariants.{BadState}
use Rattle.parts.specs.Parts.{bytes_of, spelt}
use Rattle.states.specs.States.{flag}
use Rattle.pins.specs.declared.Front.{Front}
use Rattle.pins.specs.Pins.{Told, front_ok, refused, Sampled, step_of}
use Rattle.pins_run.specs.Runs.{Captured, run_of}
use Rattle.pins_packed.specs.declared.Probe.{Probe}

-- ---- byte 0: bit 0 CS# of the last sample, 1 SCLK, 2 held, 3 WP# at the fall, 4 outgrown; byte 1: bits begun; byte 2: their value; byte 3: 0; bytes 4 to 7: whole bytes,
-- low byte first
abbrev pub flags_of : Front → ℕ
flags_of f = flag f.select 1 + (flag f.clock 2 + (flag f.held 4 + (flag f.wp 8 + flag f.outgrown 16)))

unfoldable pub front_packed : Front → List ℕ
front_packed f = flags_of f ∷ f.bits ∷ f.value ∷ 0 ∷ bytes_of 4 f.bytes

-- the front that eight bytes spell
unfoldable pub front_in : List ℕ → Front
front_in xs =
    record {
      select = eqb (get_or xs 0 0 % 2) 1;
      clock = eqb (get_or xs 0 0 / 2 % 2) 1;
      held = eqb (get_or xs 0 0 / 4 % 2) 1;
      wp = eqb (get_or xs 0 0 / 8 % 2) 1;
      outgrown = eqb (get_or xs 0 0 / 16 % 2) 1;
      bits = get_or xs 1 0;
      value = get_or xs 2 0;
      bytes = spelt (get_or xs 4 0 ∷ get_or xs 5 0 ∷ get_or xs 6 0 ∷ get_or xs 7 0 ∷ []);
    }

-- eight bytes, bits 5 to 7 of byte 0 zero, byte 3 zero, and a front that is right
unfoldable pub is_front : List ℕ → Bool
is_front xs = eqb (length xs) 8 && (ltb (get_or xs 0 0) 32 && (eqb (get_or xs 3 0) 0 && front_ok (front_in xs)))

-- before the first sample: CS# high, SCLK low, nothing held
abbrev pub first_front : List ℕ
first_front = 1 ∷ 0 ∷ 0 ∷ 0 ∷ 0 ∷ 0 ∷ 0 ∷ 0 ∷ []

-- ---- the front's bytes, what is told, the frame's bytes, and how many samples were taken
pub record Probed : Type 0 where
  pub front : List ℕ
  pub told : Told
  pub frame : List ℕ
  pub used : ℕ

abbrev pub probed : List ℕ → Told → List ℕ → ℕ → Probed
probed xs t b n = record { front = xs; told = t; frame = b; used = n }

-- bytes that pack no front: 3, and nothing changes
unfoldable pub sample_of : List ℕ → ℕ → List ℕ → Probed
sample_of xs l b = let e : Sampled = step_of (front_in xs) l b in cond (is_front xs) (probed (front_packed e.front) e.told e.buffer 1) (probed xs (refused BadState) b 0)

unfoldable pub samples_of : List ℕ → List ℕ → List ℕ → Probed
samples_of xs ls b = let e : Captured = run_of (front_in xs) ls b in cond (is_front xs) (probed (front_packed e.front) e.told e.buffer e.used) (probed xs (refused BadState) b 0)

-- what a function's result and its lent bytes at exit have to be
pub record Probes (c : Probed) (r : Probe) (front frame : List ℕ) : Type 0 where
  pub told_is : r.told ≡ c.told
  pub used-is : r.used ≡ c.used
  pub front-is : front ≡ c.front
  pub frame_is : frame ≡ c.frame
