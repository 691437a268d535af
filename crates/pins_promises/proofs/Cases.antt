-- The page's cases, computed.
use mathlib.Core.Path.{◌≡◌, refl}
use mathlib.Core.Bool.{true, false}
use mathlib.Core.List.{[], ◌∷◌, ◌++◌}
use Rattle.answers.specs.declared.Refusal.TheVariants.{BadFrame, InHold}
use Rattle.pins.specs.declared.Front.{Front}
use Rattle.pins.specs.Pins.{refused, handed, idle, risen_of, bit_taken, clocked_of, step_of}
use Rattle.pins_run.specs.Runs.{ran_to, run_from, run_of}
use Rattle.pins_promises.specs.Samples.{clocking, samples_for}

-- before the first sample
abbrev start : Front
start = idle 1 false

-- 06 at two samples a bit
six : run_of start (samples_for (6 ∷ []) [] true) (0 ∷ 0 ∷ []) ≡ ran_to 18 (idle 17 false) (handed 1 0 true) (6 ∷ 0 ∷ [])
unfolding run_from step_of risen_of clocked_of bit_taken
six = refl

-- CS# falls and rises at once
pulse : run_of start (16 ∷ 17 ∷ []) [] ≡ ran_to 2 (idle 17 false) (handed 0 0 false) []
unfolding run_from step_of risen_of clocked_of bit_taken
pulse = refl

-- a clock that is high when CS# falls and stays: no bit until it has been low
high-at-the-fall : (run_of start (22 ∷ 22 ∷ 20 ∷ 22 ∷ 17 ∷ []) []).told ≡ handed 0 1 false
unfolding run_from step_of risen_of clocked_of bit_taken
high-at-the-fall = refl

-- nine bits
nine : (run_of start (samples_for (6 ∷ []) (1 ∷ []) true) (0 ∷ [])).told ≡ handed 1 1 true
unfolding run_from step_of risen_of clocked_of bit_taken
nine = refl

-- a hold over four pulses in the middle of a byte
held-pulses : run_of start (16 ∷ (clocking (1 ∷ 0 ∷ []) ++ (0 ∷ 6 ∷ 0 ∷ 6 ∷ 4 ∷ 6 ∷ 0 ∷ 2 ∷ 16 ∷ (clocking (1 ∷ 0 ∷ 0 ∷ 0 ∷ 0 ∷ 1 ∷ []) ++ (17 ∷ []))))) (0 ∷ []) ≡ ran_to 27 (idle 17 false) (handed 1 0 false) (161 ∷ [])
unfolding run_from step_of risen_of clocked_of bit_taken
held-pulses = refl

-- HOLD# low while SCLK is high begins at the next sample with SCLK low
late-hold : (run_of start (16 ∷ 16 ∷ 18 ∷ 2 ∷ 0 ∷ 6 ∷ 16 ∷ 17 ∷ []) []).told ≡ handed 0 1 false
unfolding run_from step_of risen_of clocked_of bit_taken
late-hold = refl

-- CS# and HOLD# rise in one sample
both-rise : (run_of start (16 ∷ 0 ∷ 17 ∷ []) []).told ≡ refused InHold
unfolding run_from step_of risen_of clocked_of bit_taken
both-rise = refl

-- a hold begun with CS# high lasts while SCLK stays high, though HOLD# is high
old-hold : (run_of start (1 ∷ 3 ∷ 18 ∷ 19 ∷ []) []).told ≡ refused InHold
unfolding run_from step_of risen_of clocked_of bit_taken
old-hold = refl

-- and after that 34 it is still there: the next pulse is 34 too
old-hold-again : run_of (idle 19 true) (18 ∷ 19 ∷ []) [] ≡ ran_to 2 (idle 19 true) (refused InHold) []
unfolding run_from step_of risen_of clocked_of bit_taken
old-hold-again = refl

-- a buffer of three: four bytes outgrow it, three bytes and seven bits do not
four-in-three : (run_of start (samples_for (6 ∷ 7 ∷ 8 ∷ 9 ∷ []) [] false) (0 ∷ 0 ∷ 0 ∷ [])).told ≡ refused BadFrame
unfolding run_from step_of risen_of clocked_of bit_taken
four-in-three = refl

three-and-seven : (run_of start (samples_for (6 ∷ 7 ∷ 8 ∷ []) (1 ∷ 1 ∷ 1 ∷ 1 ∷ 1 ∷ 1 ∷ 1 ∷ []) false) (0 ∷ 0 ∷ 0 ∷ [])).told ≡ handed 3 7 false
unfolding run_from step_of risen_of clocked_of bit_taken
three-and-seven = refl

-- a buffer that is lent shorter at the rise than the bytes collected
shorter-at-the-rise : (run_of (run_of start (16 ∷ clocking (0 ∷ 0 ∷ 0 ∷ 0 ∷ 0 ∷ 1 ∷ 1 ∷ 0 ∷ [])) (0 ∷ [])).front (17 ∷ []) []).told ≡ refused BadFrame
unfolding run_from step_of risen_of clocked_of bit_taken
shorter-at-the-rise = refl
