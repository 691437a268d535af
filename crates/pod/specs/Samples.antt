-- What C calls of the pins (Req 07), one effect a call (`sample_of`, `samples_of`): the number returned and what each lent place holds after.
use Rattle.std.specs.Prelude.{List, ◌≡◌, ℕ}
use Rattle.answers.specs.Answers.{number_of}
use Rattle.states.specs.States.{flag}
use Rattle.pins.specs.Pins.{Told, answer_of, is_ready, frame_told}
use Rattle.pins_packed.specs.Fronts.{Probed}

-- ---- what a function's result and its lent places at exit have to be
pub record GivenToC (t : Told) (number ready bytes tail wp : ℕ) : Type 0 where
  pub number_is : number ≡ number_of (answer_of t)
  pub ready-is : ready ≡ flag (is_ready t) 1
  pub bytes-is : bytes ≡ (frame_told t).bytes
  pub tail-is : tail ≡ (frame_told t).tail
  pub wp-is : wp ≡ flag (frame_told t).wp 1

pub record Yields (c : Probed) (number : ℕ) (front frame : List ℕ) (ready bytes tail wp : ℕ) : Type 0 where
  pub tells : GivenToC c.told number ready bytes tail wp
  pub front-is : front ≡ c.front
  pub frame_is : frame ≡ c.frame

pub record YieldsRun (c : Probed) (number : ℕ) (front frame : List ℕ) (used ready bytes tail wp : ℕ) : Type 0 where
  pub yields : Yields c number front frame ready bytes tail wp
  pub used-is : used ≡ c.used

-- ---- no second answer: two results of one call that satisfy the contract are equal in every part; proved in proofs/Samples.antt
abbrev pub OneYielded : Type 0
OneYielded =
    (c : Probed) (n n' : ℕ) (xs xs' b b' : List ℕ) (ready ready' bytes bytes' tail tail' wp wp' : ℕ) → Yields c n xs b ready bytes tail wp → Yields c n' xs' b' ready' bytes' tail' wp'
    → (n ≡ n') × (xs ≡ xs') × (b ≡ b') × (ready ≡ ready') × (bytes ≡ bytes') × (tail ≡ tail') × (wp ≡ wp')

abbrev pub OneYieldedRun : Type 0
OneYieldedRun =
    (c : Probed) (n n' : ℕ) (xs xs' b b' : List ℕ) (used used' ready ready' bytes bytes' tail tail' wp wp' : ℕ)
    → YieldsRun c n xs b used ready bytes tail wp → YieldsRun c n' xs' b' used' ready' bytes' tail' wp'
    → (used ≡ used') × ((n ≡ n') × (xs ≡ xs') × (b ≡ b') × (ready ≡ ready') × (bytes ≡ bytes') × (tail ≡ tail') × (wp ≡ wp'))
