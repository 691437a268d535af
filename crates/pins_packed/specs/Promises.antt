-- What is shown of the packed front (Req 07); proofs/Promises.antt proves each under its name in small letters.
use Rattle.std.specs.Prelude.{true, false, List, ◌≡◌, ℕ}
use Rattle.answers.specs.declared.Refusal.TheVariants.{BadState}
use Rattle.parts.specs.Parts.{Bytes}
use Rattle.pins.specs.declared.Front.{Front}
use Rattle.pins.specs.Pins.{front_ok, idle, refused, step_of}
use Rattle.pins_run.specs.Runs.{run_of}
use Rattle.pins_packed.specs.declared.Probe.{Probe}
use Rattle.pins_packed.specs.Fronts.{front_packed, front_in, is_front, first_front, Probed, probed, sample_of, samples_of, Probes}

-- ---- packing and unpacking are inverse on the fronts that are right
abbrev pub UnpacksFront : Type 0
UnpacksFront = (f : Front) → front_ok f ≡ true → (is_front (front_packed f) ≡ true) × (front_in (front_packed f) ≡ f)

abbrev pub PacksFront : Type 0
PacksFront = (xs : List ℕ) → Bytes xs → is_front xs ≡ true → front_packed (front_in xs) ≡ xs

-- the bytes before the first sample
abbrev pub StartsIdle : Type 0
StartsIdle = (is_front first_front ≡ true) × (front_in first_front ≡ idle 1 false)

-- ---- bytes that pack no front are answered 3, also with no samples, and nothing changes
abbrev pub RefusesFront : Type 0
RefusesFront = (xs : List ℕ) (l : ℕ) (ls b : List ℕ) → is_front xs ≡ false → (sample_of xs l b ≡ probed xs (refused BadState) b 0) × (samples_of xs ls b ≡ probed xs (refused BadState) b 0)

-- ---- the next call finds the front that the samples led to
abbrev pub CarriesFront : Type 0
CarriesFront = (xs : List ℕ) (l : ℕ) (ls b : List ℕ) → is_front xs ≡ true
    → (is_front (sample_of xs l b).front ≡ true) × (front_in (sample_of xs l b).front ≡ (step_of (front_in xs) l b).front)
    × (is_front (samples_of xs ls b).front ≡ true) × (front_in (samples_of xs ls b).front ≡ (run_of (front_in xs) ls b).front)

-- ---- no second answer
abbrev pub OneProbed : Type 0
OneProbed = (c : Probed) (r t : Probe) (front front' frame frame' : List ℕ) → Probes c r front frame → Probes c t front' frame' → (r ≡ t) × (front ≡ front') × (frame ≡ frame')
