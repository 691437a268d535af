-- No wait of the list can be a microsecond shorter.
use Rattle.std.specs.Prelude.{Err}
use mathlib.Core.Path.{◌≡◌, refl, sym, ◌∙◌}
use mathlib.Core.Bool.{Bool, true, false, cond, false≢true}
use mathlib.Core.List.{List, [], ◌∷◌}
use Prim.Native.Nat.{ℕ, ◌-◌, ◌≤◌, ◌<◌}
use native.Mathlib.Omega.{arith}
use lib.Dec.{lit≤}
use lib.ListN.{length, get_or}
use borrow.Author.Tests.{eq-eqb}
use mathlib.Core.Logic.{inl, inr, ⊎_elim}
use Rattle.models.specs.Models.{model_of}
use Rattle.commands.specs.Commands.{decode_of, traits_of}
use Rattle.states.specs.States.{longest_of, Chip, chip_of}
use Rattle.states.specs.declared.Record.{Record}
use Rattle.answers.specs.Answers.{Answer}
use Rattle.answers.specs.declared.Refusal.TheVariants.{Busy}
use Rattle.states.proofs.States.{sound, times}
use Rattle.chip.specs.Frames.{Sent}
use Rattle.effects.specs.Effects.{dozing, starting}
use Rattle.time.specs.Time.{later, waited}
use Rattle.calls.specs.Calls.{Call, sends, waits, ours, answer, Bench, Roomy, Tabled, frame}
use Rattle.recovery.specs.Recovery.{Job, JobFits, wake_up, enable_unlock, enable_erase, enable_program, read_back}
use Rattle.recovery.specs.Shorter.{Then, TooShort, ShorterWake, ShorterUnlock, ShorterErase, ShorterProgram}
use Rattle.calls.proofs.Steps.{Goes, ends, goes, goes_on, goes_then, Step, waits-on, while-busy, while-settling}
use Rattle.recovery.proofs.Recovery.{not_yet, z, idle-after, woken, rests, wakes, to-unlock, to-erase, to-program, unlocks, erases, programs, worn-table}

-- calls answered 0, and a frame more
then-answers : {rec : Record} {cs : List Call} {x w : Chip} {ts : List (List ℕ)} {a : Answer} (f : Sent) → Goes rec cs x w ts → answer ours rec [] (sends f) w ≡ a → Then a rec cs f x
then-answers f g e = goes_then [] (sends f) g ∙ rw e

-- after a wait that is a microsecond short the operation still runs
module _ (rec : Record) (x : Chip) (time : ℕ) (p : 0 < time) (t : x.state.busy ≡ time) (b : Bench rec x) where
  abbrev almost : Chip
  almost = chip_of (later x.state (time - 1)) x.page x.cells

  pub short-wait : Step rec (waits (time - 1)) x almost []
  short-wait = waits-on rec x b (time - 1) (rw t (not_yet time p))

  busy-still : 0 < almost.state.busy
  unfolding later
  busy-still = omega arith

  pub refused : (bytes : List ℕ) (strict : Bool) (wear out : List ℕ) → 0 < length bytes → length bytes ≤ 65541 → Roomy (frame bytes strict wear out) → Tabled rec (frame bytes strict wear out)
      → (traits_of (model_of rec.model).register (decode_of rec.model (get_or bytes 0 0))).while_busy ≡ false → answer ours rec [] (sends (frame bytes strict wear out)) almost ≡ Err Busy
  refused bytes strict wear out some l r k w = while-busy rec almost short-wait.bench bytes strict wear out busy-still some l r k w

pub shorter-unlock : ShorterUnlock
unfolding decode_of traits_of starting
shorter-unlock rec j x b f =
    let c = (unlocks rec j x b f).bench in
    let t = (times rec b.right).status in
    then-answers (enable_erase j) (goes_on (to-unlock rec j x b f) (goes (short-wait rec _ _ t refl c) ends))
    (refused rec _ _ t refl c (0x06 ∷ []) j.strict.enable_erase j.wear j.outs.enable_erase (lit≤ tt) (lit≤ tt) f.rooms.enable_erase f.table refl)

pub shorter-erase : ShorterErase
unfolding decode_of traits_of
shorter-erase rec j x b f =
    let c = (erases rec j x b f).bench in
    let t = (times rec b.right).sector in
    then-answers (enable_program j) (goes_on (to-erase rec j x b f) (goes (short-wait rec _ _ t refl c) ends))
    (refused rec _ _ t refl c (0x06 ∷ []) j.strict.enable_program j.worn j.outs.enable_program (lit≤ tt) (lit≤ tt) f.rooms.enable_program (worn-table rec j x b f) refl)

pub shorter-program : ShorterProgram
unfolding decode_of traits_of
shorter-program rec j x b f =
    let c = (programs rec j x b f).bench in
    let t = (times rec b.right).page in
    then-answers (read_back j) (goes_on (to-program rec j x b f) (goes (short-wait rec _ _ t refl c) ends))
    (refused rec _ _ t refl c (read_back j).bytes j.strict.read_back j.worn j.outs.read_back (omega arith) (omega (arith, f.page, f.more)) f.rooms.read_back (worn-table rec j x b f) refl)

-- ---- the wait after AB
-- a chip that was asleep still settles a microsecond before that time has passed
was-asleep : (rec : Record) (x : Chip) (b : Bench rec x) → x.state.asleep ≡ true → (z rec x b).state.asleep ≡ true
unfolding waited later
was-asleep rec x b a =
    let i : x.state.busy ≡ 0 = ⊎_elim (λ q. q.idle) (λ q. absurd (false≢true (sym q.awake ∙ a))) (sound rec x.state b.valid).mood in
    rw (eq-eqb x.state.busy 0 i) a

pub shorter-wake : ShorterWake
unfolding later dozing
shorter-wake rec j x b f a =
    let t = (times rec b.right).wake in
    let w = woken rec j x b f in
    let y : Chip = chip_of w (z rec x b).page (z rec x b).cells in
    let s = waits-on rec y (wakes rec j x b f).bench (rec.wake - 1) (rw (eq-eqb w.busy 0 (idle-after rec x b))) in
    let left : 0 < cond (z rec x b).state.asleep rec.wake 0 - (rec.wake - 1) = rw (was-asleep rec x b a) (omega arith) in
    then-answers (enable_unlock j) (goes (rests rec j x b f) (goes (wakes rec j x b f) (goes s ends)))
    (while-settling rec _ s.bench (0x06 ∷ []) j.strict.enable_unlock j.wear j.outs.enable_unlock left (lit≤ tt) (lit≤ tt) f.rooms.enable_unlock f.table)

-- ---- the first wait
-- a chip that runs its longest operation is still busy a microsecond before that time has passed
pub still : (rec : Record) (x : Chip) (j : Job) (time : ℕ) → 0 < time → x.state.busy ≡ time → longest_of rec ≡ time → Bench rec x → JobFits rec j → TooShort rec j x
unfolding decode_of traits_of
still rec x j time p t e b f =
    inl (rw e
    (then-answers (wake_up j) (goes (short-wait rec x time p t b) ends)
    (refused rec x time p t b (0xAB ∷ []) j.strict.wake_up j.wear j.outs.wake_up (lit≤ tt) (lit≤ tt) f.rooms.wake_up f.table refl)))

-- and one that settles for the longest time still settles
pub still-settling : (rec : Record) (x : Chip) (j : Job) → x.state.busy ≡ 0 → 0 < x.state.settle → longest_of rec ≡ x.state.settle → Bench rec x → JobFits rec j → TooShort rec j x
unfolding later
still-settling rec x j i p e b f =
    let k = waits-on rec x b (x.state.settle - 1) (rw (eq-eqb x.state.busy 0 i)) in
    inr (rw e
    (then-answers (wake_up j) (goes k ends)
    (while-settling rec _ k.bench (0xAB ∷ []) j.strict.wake_up j.wear j.outs.wake_up (omega arith) (lit≤ tt) (lit≤ tt) f.rooms.wake_up f.table)))
