-- Laws of played lines.
use mathlib.Core.Path.{◌≡◌, refl, sym, ap, subst, ◌∙◌}
use mathlib.Core.Bool.{Bool, cond}
use mathlib.Core.List.{List, [], ◌∷◌, ◌++◌}
use Prim.Native.Nat.{ℕ, zero, suc, ◌+◌, ◌-◌, ◌≤◌}
use native.Mathlib.Omega.{arith}
use lib.ListN.{length, take, drop, length-take}
use lib.Seq.{take_at}
use Rattle.std.specs.Prelude.{Option, Some, None, Result, Ok, Err}
use Rattle.answers.specs.Answers.{Answer, is_done}
use Rattle.answers.specs.declared.Refusal.{Refusal}
use Rattle.states.specs.declared.Record.{Record}
use Rattle.states.specs.declared.State.{State}
use Rattle.states.specs.States.{Chip}
use Rattle.time.specs.Time.{chip_refusal, power_refusal, waited, cycled, told, unless, wait_of, ended, power_of}
use Rattle.time.specs.ContractForms.{Ends}
use Rattle.chip.specs.Frames.{sent_of}
use Rattle.chip.proofs.Cases.{frame-within}
use Rattle.script.specs.declared.Line.{Line}
use Rattle.script.specs.declared.Line.TheVariants.{Frame, Wait, Power}
use Rattle.script.specs.Hex.{hex_bytes, Unhexed}
use Rattle.script.specs.Reading.{line_of}
use Rattle.play.specs.declared.Played.{Played}
use Rattle.play.specs.Play.{OnePlays, passed_answer, state_after, frame_turn, turn_of, play_of}

-- ---- what is sent of a frame's line
take_long : (m : ℕ) (xs : List ℕ) → take (length (take m xs)) xs ≡ take m xs
take_long zero xs = refl
take_long (suc m) [] = refl
take_long (suc m) (x ∷ xs) = ap (λ (ys : List ℕ). x ∷ ys) (take_long m xs)

pub unhexed_front : {digits d e : List ℕ} {r : ℕ} (m : ℕ) → length d ≡ m → Unhexed digits d e r → take (r - 0) (drop 0 e) ≡ take m (hex_bytes digits)
unhexed_front {digits} {d} {e} {r} m l u =
    let bs = hex_bytes digits in
    let n : r ≡ length (take m bs) = u.count ∙ ap (λ (k : ℕ). length (take k bs)) l in
    let front : take r bs ≡ take m bs = ap (λ (k : ℕ). take k bs) n ∙ take_long m bs in
    let is : e ≡ take m bs ++ drop r d = u.is ∙ ap (λ (z : List ℕ). z ++ drop r d) front in
    let z : r - 0 ≡ length (take m bs) = omega arith in
    ap (λ (k : ℕ). take k e) z ∙ ap (take (length (take m bs))) is ∙ take_at (take m bs) (drop r d) (length (take m bs)) refl

-- ---- a wait and a power cycle: what the result says is what comes of it
pub waited_turn : (rec : Record) (x : Chip) (us : ℕ) {r : Result State Refusal} {page cells : List ℕ} → Ends (wait_of rec x us) r page cells
    → (passed_answer r ≡ (wait_of rec x us).answer) × (state_after x.state r ≡ (wait_of rec x us).chip.state)
unfolding wait_of
waited_turn rec x us {r} w =
    let told_by = go (chip_refusal rec x) in
    (ap passed_answer w.result-is ∙ told_by.0, ap (state_after x.state) w.result-is ∙ told_by.1)
  where
    go : (a : Answer) → (passed_answer (told a (unless a x (waited rec.model x us)).chip.state) ≡ a) × (state_after x.state (told a (unless a x (waited rec.model x us)).chip.state) ≡ (unless a x (waited rec.model x us)).chip.state)
    go (Ok u) = (refl, refl)
    go (Err e) = (refl, refl)

pub cycled_turn : (rec : Record) (s : State) (page : List ℕ) → (passed_answer (ended (power_of rec s page)) ≡ (power_of rec s page).answer) × (state_after s (ended (power_of rec s page)) ≡ (power_of rec s page).state)
unfolding power_of
cycled_turn rec s page = go (power_refusal rec s page)
  where
    go : (a : Answer) → (passed_answer (told a (cond (is_done a) (cycled s) s)) ≡ a) × (state_after s (told a (cond (is_done a) (cycled s) s)) ≡ cond (is_done a) (cycled s) s)
    go (Ok u) = (refl, refl)
    go (Err e) = (refl, refl)

-- ---- what a line drives lies in its frame
turn-within : (rec : Record) (strict : Bool) (x : Chip) (wear shown line : List ℕ) (l : Option Line)
    → (turn_of rec strict x wear shown line l).played.from + (turn_of rec strict x wear shown line l).played.count ≤ 300
unfolding turn_of frame_turn
turn-within rec strict x wear shown line (Some (Frame wp tail n)) =
    let sent = take 300 (hex_bytes (drop 6 line)) in
    omega (arith, frame-within rec x (sent_of sent tail wp strict wear shown), length-take 300 (hex_bytes (drop 6 line)))
turn-within rec strict x wear shown line (Some (Wait us)) = omega arith
turn-within rec strict x wear shown line (Some Power) = omega arith
turn-within rec strict x wear shown line None = omega arith

pub played-within : (rec : Record) (strict : Bool) (x : Chip) (wear shown line : List ℕ) {r : Played} → r ≡ (play_of rec strict x wear shown line).played → r.from + r.count ≤ 300
played-within rec strict x wear shown line {r} e = subst (λ (q : Played). q.from + q.count ≤ 300) (sym e) (turn-within rec strict x wear shown line (line_of line))

pub one-plays : OnePlays
one-plays t r r' b b' os os' p q = (p.played ∙ sym q.played, p.state ∙ sym q.state, p.page ∙ sym q.page, p.cells ∙ sym q.cells, p.wear ∙ sym q.wear, p.shown ∙ sym q.shown)
