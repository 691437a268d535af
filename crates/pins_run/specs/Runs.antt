-- A run of samples: single ones, until one of them hands a frame over or drops it, or to the end.
use Rattle.std.specs.Prelude.{Bool, not, ◌&&◌, cond, List, [], ◌∷◌, ◌≡◌, ℕ, suc, ◌+◌, length, drop}
use Rattle.answers.specs.Answers.{is_done}
use Rattle.answers.specs.declared.Refusal.TheVariants.{BadState}
use Rattle.pins.specs.declared.Front.{Front}
use Rattle.pins_run.specs.declared.Ran.{Ran}
use Rattle.pins.specs.Pins.{front_ok, Sound, Told, silent, refused, answer_of, is_ready, Sampled, step_of}

-- ---- a front, what is told, the buffer, and how many samples were taken
pub record Captured : Type 0 where
  pub front : Front
  pub told : Told
  pub buffer : List ℕ
  pub used : ℕ

abbrev pub ran_to : ℕ → Front → Told → List ℕ → Captured
ran_to n f t b = record { front = f; told = t; buffer = b; used = n }

-- a frame is handed over, or something is refused
abbrev pub ends : Told → Bool
ends t = not (is_done (answer_of t) && not (is_ready t))

-- the samples one by one; n were taken before
unfoldable pub run_from : ℕ → Front → List ℕ → List ℕ → Captured
run_from n f [] buffer = ran_to n f silent buffer
run_from n f (l ∷ ls) buffer =
    let e : Sampled = step_of f l buffer in
    cond (ends e.told) (ran_to (suc n) e.front e.told e.buffer) (run_from (suc n) e.front ls e.buffer)

abbrev pub run_of : Front → List ℕ → List ℕ → Captured
run_of f ls buffer = run_from 0 f ls buffer

-- a front that is not right: 3, also with no samples, and none is taken
unfoldable pub ran_of : Front → List ℕ → List ℕ → Captured
ran_of f ls buffer = cond (front_ok f) (run_of f ls buffer) (ran_to 0 f (refused BadState) buffer)

pub record Captures (e : Captured) (r : Ran) (after : List ℕ) : Type 0 where
  pub front-is : r.front ≡ e.front
  pub told_is : r.told ≡ e.told
  pub used-is : r.used ≡ e.used
  pub buffer-is : after ≡ e.buffer

-- the same run goes on from a later front, over the samples that are left: those that were lent, after the first `taken`
pub record Reaches (f : Front) (ls b : List ℕ) (g : Front) (left b' : List ℕ) : Type 0 where
  pub taken : ℕ
  pub long : length ls ≡ taken + length left
  pub rest_is : left ≡ drop taken ls
  pub right : Sound g
  pub same : length b' ≡ length b
  pub on : (n : ℕ) → run_from n f ls b ≡ run_from (n + taken) g left b'
