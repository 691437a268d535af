-- What a cut of the power leaves, said of the call: Req 05, "in a cut program or status write each bit of a cell or kept bit that was to change takes its
-- pattern bit; a cut erase leaves the pattern in the unit; the rest is as after a power cycle. Nothing outside the running unit may differ".
use Rattle.std.specs.Prelude.{◌≡◌, Bool, true, false, cond, List, [], ◌∷◌, ℕ, ◌/◌, ◌<◌, eqb, get_or, take, Option, Some, None}
use Rattle.parts.specs.Parts.{Bytes}
use Rattle.cells.specs.Cell.{bit}
use Rattle.answers.specs.Answers.{is_done}
use Rattle.commands.specs.declared.Operation.{Operation}
use Rattle.commands.specs.declared.Operation.TheVariants.{WritesStatus, Programs, ErasesSector, ErasesHalf, ErasesBlock, ErasesChip}
use Rattle.states.specs.States.{flag, tb_of, status_of, blank_page, Chip}
use Rattle.states.specs.declared.Record.{Record}
use Rattle.states.specs.declared.State.{State}
use Rattle.operations.specs.Operations.{runs, finished}
use Rattle.time.specs.Time.{cycled, power_cut_of}
use Rattle.promises.specs.Laws.{unit, Outside, unit_cells}

-- a bit that was to change, from old to new, has its pattern bit; every other is as it was
abbrev pub bit_left : ℕ → ℕ → ℕ → ℕ
bit_left old new pattern = cond (eqb old new) old pattern

-- bit b of cell k of the unit of what x runs, in an array
abbrev pub unit_bit : Record → Chip → List ℕ → ℕ → ℕ → ℕ
unit_bit rec x cells k b = bit b (get_or (unit_cells rec x cells) k 0)

abbrev pub is_erase : Option Operation → Bool
is_erase None = false
is_erase (Some WritesStatus) = false
is_erase (Some Programs) = false
is_erase (Some ErasesSector) = true
is_erase (Some ErasesHalf) = true
is_erase (Some ErasesBlock) = true
is_erase (Some ErasesChip) = true

-- the bits that a power cycle keeps, after a cut on the way from the state old to the state new: the pattern has SRWD at bit 7 of its first byte and BP from
-- bit 2 on, as the status byte has them, and TB at bit 3 of its second, as the register has it
pub record KeptBits (old new : State) (pattern : List ℕ) (t : State) : Type 0 where
  pub srwd : flag t.srwd 1 ≡ bit_left (flag old.srwd 1) (flag new.srwd 1) (bit 7 (get_or pattern 0 0))
  pub bp : (b : ℕ) → bit b t.bp ≡ bit_left (bit b old.bp) (bit b new.bp) (bit b (get_or pattern 0 0 / 4))
  pub tb : flag (tb_of t) 1 ≡ bit_left (flag (tb_of old) 1) (flag (tb_of new) 1) (bit 3 (get_or pattern 1 0))

-- what a cut with that pattern leaves, y, of a chip x that was to become done
pub record Unplugged (rec : Record) (x done : Chip) (pattern : List ℕ) (y : Chip) : Type 0 where
  pub program : runs rec.model x.state ≡ Some Programs → (k b : ℕ) → k < 256
      → unit_bit rec x y.cells k b ≡ bit_left (unit_bit rec x x.cells k b) (unit_bit rec x done.cells k b) (bit b (get_or pattern k 0))
  pub erase : is_erase (runs rec.model x.state) ≡ true → unit_cells rec x y.cells ≡ pattern
  pub outside : (k : ℕ) → Outside (unit rec x) k → get_or y.cells k 0 ≡ get_or x.cells k 0
  -- only a status write was to change one of them
  pub kept : KeptBits x.state done.state pattern y.state
  -- the rest is as after a power cycle: another one would change nothing
  pub rest : cycled y.state ≡ y.state
  pub page : y.page ≡ blank_page

-- any accepted cut, whatever runs and whatever the pattern
abbrev pub CutLeaves : Type 0
CutLeaves =
    (rec : Record) (x : Chip) (pattern : List ℕ) → is_done (power_cut_of rec x pattern).answer ≡ true
    → Unplugged rec x (finished rec.model x) pattern (power_cut_of rec x pattern).chip

-- ---- `PatternOld` and `PatternFinished` of a status write, which has no cells
-- a cut with that pattern, if it is accepted, leaves the state that a power cycle leaves of s
abbrev pub CutsTo : Record → Chip → List ℕ → State → Type 0
CutsTo rec x pattern s = is_done (power_cut_of rec x pattern).answer ≡ true → (power_cut_of rec x pattern).chip.state ≡ cycled s

-- with the pattern of the status byte and the register, as they read while it runs, it has not happened; s.address is the number of its data bytes
abbrev pub PatternRead : Type 0
PatternRead =
    (rec : Record) (x : Chip)
    → (let s : State = x.state in runs rec.model s ≡ Some WritesStatus → CutsTo rec x (take s.address (status_of s ∷ s.config ∷ [])) s)

-- with that of its data bytes it has finished
abbrev pub PatternWritten : Type 0
PatternWritten =
    (rec : Record) (x : Chip)
    → (let s : State = x.state in
    runs rec.model s ≡ Some WritesStatus → Bytes x.page → CutsTo rec x (take s.address x.page) (finished rec.model x).state)
