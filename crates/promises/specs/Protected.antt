-- A protected cell does not change, on each model and whatever WP# is: 01, "Commands", Protected, and Req 01.
use Rattle.std.specs.Prelude.{◌≡◌, Bool, true, List, [], ◌∷◌, ◌⊎◌, ℕ, get_or, Option, Some, None}
use Rattle.units.specs.declared.Address.{Address}
use Rattle.units.specs.Kinds.{block_of}
use Rattle.models.specs.Models.{model_of, is_protected}
use Rattle.answers.specs.Answers.{is_done}
use Rattle.commands.specs.declared.Operation.{Operation}
use Rattle.states.specs.States.{tb_of, Chip}
use Rattle.states.specs.declared.Record.{Record}
use Rattle.states.specs.declared.State.{State}
use Rattle.operations.specs.Operations.{unit_of, runs, runs_at}
use Rattle.chip.specs.Frames.{Sent, frame_of}
use Rattle.calls.specs.Calls.{Call, ours, after, run}
use Rattle.recovery.specs.Histories.{Lent, lend}
use Rattle.promises.specs.Laws.{Outside}

-- cell k is in the area that a state protects: its block is (01, "Commands", Protected; 000 L126-131, 002 L273-276, 003 L285-323)
abbrev pub in_area : Record → State → ℕ → Bool
in_area rec s k = is_protected rec.model (tb_of s) s.bp (block_of (record { 0 = k }))

-- an operation leaves the area alone that s protects: no cell of it is in the unit, in an array of the model's length (no other is taken)
abbrev pub Spares : Record → State → Option Operation → Address → Type 0
Spares rec s op at = (k : ℕ) → in_area rec s k ≡ true → Outside (unit_of op at (model_of rec.model).length) k

-- ---- an accepted frame starts nothing in the area that is protected at that moment: 60 and C7 run only with BP 0, where no cell is. A busy chip takes only reads
-- of its registers, which start nothing at all.
abbrev pub StartsOutside : Type 0
StartsOutside =
    (rec : Record) (x : Chip) (f : Sent) → x.state.busy ≡ 0 → is_done (frame_of rec x f).reply.answer ≡ true
    → (let t : State = (frame_of rec x f).reply.state in Spares rec x.state (runs rec.model t) (runs_at t))

-- ---- so no call changes a cell of the area, for as long as BP and TB stay
-- the chip is idle, or what runs leaves the area alone that s protects
abbrev pub Calm : Record → State → Chip → Type 0
Calm rec s x = (x.state.busy ≡ 0) ⊎ Spares rec s (runs rec.model x.state) (runs_at x.state)

-- BP and TB are the same, so the same area is protected
pub record SameArea (s t : State) : Type 0 where
  pub bp : t.bp ≡ s.bp
  pub tb : tb_of t ≡ tb_of s

-- from x to y no cell changes in the area that s protects
abbrev pub AreaStays : Record → State → Chip → Chip → Type 0
AreaStays rec s x y = (k : ℕ) → in_area rec s k ≡ true → get_or y.cells k 0 ≡ get_or x.cells k 0

-- so with each call of the list, in the array that is lent to it, as far as BP and TB are those of s before it
abbrev pub StaysProtected : Record → State → List Lent → Chip → Type 0
StaysProtected rec s [] x = Unit {0}
StaysProtected rec s (l ∷ ls) x =
    let y : Chip = lend x l.cells in
    let z : Chip = after ours rec [] l.call y in
    AreaStays rec s y z × (SameArea s z.state → StaysProtected rec s ls z)

-- any model and any WP#, whatever the arrays, tables, outputs and patterns, bad records, states and calls included
abbrev pub ProtectedStays : Type 0
ProtectedStays = (rec : Record) (past : List Lent) (x : Chip) → Calm rec x.state x → StaysProtected rec x.state past x

-- on one array, which each call has from the one before: BP and TB of each chip along the way are those of s
abbrev pub KeepsArea : Record → State → List Call → Chip → Type 0
KeepsArea rec s [] x = Unit {0}
KeepsArea rec s (c ∷ cs) x = let y : Chip = after ours rec [] c x in SameArea s y.state × KeepsArea rec s cs y

abbrev pub ProtectedRun : Type 0
ProtectedRun =
    (rec : Record) (calls : List Call) (x : Chip) → Calm rec x.state x → KeepsArea rec x.state calls x
    → AreaStays rec x.state x (run ours rec [] calls x)
