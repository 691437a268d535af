-- The locked area, said outright: Req 13.
use Rattle.std.specs.Prelude.{◌≡◌, true, false, List, [], ◌∷◌, ◌⊎◌}
use Rattle.states.specs.States.{Chip}
use Rattle.states.specs.declared.Record.{Record}
use Rattle.states.specs.declared.State.{State}
use Rattle.calls.specs.Calls.{Call, sends, waits, cycles, cuts, ours, after, run}
use Rattle.recovery.specs.Histories.{Lent, lend, on_one}
use Rattle.promises.specs.Protected.{AreaStays}

-- "For models 1 and 2"
abbrev pub SmallChip : Record → Type 0
SmallChip rec = (rec.model ≡ 1) ⊎ (rec.model ≡ 2)

-- "keep WP# low in every frame"
abbrev pub LowIn : Call → Type 0
LowIn (sends f) = f.wp ≡ false
LowIn (waits us) = Unit {0}
LowIn cycles = Unit {0}
LowIn (cuts pattern) = Unit {0}

abbrev pub WpLow : List Lent → Type 0
WpLow [] = Unit {0}
WpLow (l ∷ ls) = LowIn l.call × WpLow ls

-- from x to y nothing "changes BP, SRWD or a cell in the area protected at the start", where the chip had the state s
pub record Unchanged (rec : Record) (s : State) (x y : Chip) : Type 0 where
  pub bp : y.state.bp ≡ s.bp
  pub srwd : y.state.srwd ≡ s.srwd
  pub cells : AreaStays rec s x y

-- so with each call of the list, in the array that is lent to it
abbrev pub StaysLocked : Record → State → List Lent → Chip → Type 0
StaysLocked rec s [] x = Unit {0}
StaysLocked rec s (l ∷ ls) x =
    let y : Chip = lend x l.cells in
    let z : Chip = after ours rec [] l.call y in
    Unchanged rec s y z × StaysLocked rec s ls z

-- "keep one record, start idle with SRWD 1, and keep WP# low in every frame. Then no sequence of frames, waits, power cycles and cuts changes" them:
-- awake or asleep, settling or not, whatever the arrays, tables, outputs and patterns, bad records, states and calls included
abbrev pub LockedArea : Type 0
LockedArea =
    (rec : Record) (past : List Lent) (x : Chip) → SmallChip rec → x.state.busy ≡ 0 → x.state.srwd ≡ true → WpLow past
    → StaysLocked rec x.state past x

-- on one array, which each call has from the one before: nothing is changed by all of them together
abbrev pub LockedRun : Type 0
LockedRun =
    (rec : Record) (calls : List Call) (x : Chip) → SmallChip rec → x.state.busy ≡ 0 → x.state.srwd ≡ true → WpLow (on_one rec calls x)
    → Unchanged rec x.state x (run ours rec [] calls x)
