-- The refusals as one ordered table, in named groups: 01, "Numbers returned, in order of checking".
use Rattle.std.specs.Prelude.{Bool, false, not, ◌&&◌, ◌||◌, List, [], ◌∷◌, ◌++◌, ℕ, eqb, ltb}
use Rattle.units.specs.Kinds.{block_of}
use Rattle.models.specs.Models.{model_of, is_protected}
use Rattle.commands.specs.Commands.{traits_of, length_ok}
use Rattle.states.specs.States.{record_ok, state_ok, tb_of}
use Rattle.states.specs.declared.Record.{Record}
use Rattle.states.specs.declared.State.{State}
use Rattle.commands.specs.declared.Traits.{Traits}
use Rattle.answers.specs.Answers.{Answer}
use Rattle.answers.specs.declared.Refusal.TheVariants.{BadRecord, BadArray, BadState, BadFrame, ShortOut, Empty, Settling, Busy, Asleep, NoCommand, Withdrawn, BadLength, NotEnabled, Locked, Protected, BadTable, WornOut, NotErased}
use Rattle.answers.specs.Tables.{Rung, ◌gives◌, first_of}
use Rattle.ladder.specs.declared.Head.{Head}

-- ---- 1, 2, 24, 3: what every call is given, a frame, a wait, a power cycle and a cut
-- an array or a wear table: a call takes none, or one of so many elements
pub data Loan : Type 0 where
  absent : Loan
  sized : ℕ → Loan

abbrev pub misfits : Loan → ℕ → Bool
misfits absent n = false
misfits (sized m) n = not (eqb m n)

-- under a right record of model n; `fits` says that the state is valid and the page data fit it
abbrev pub lent_rows : ℕ → Loan → Loan → Bool → List Rung
lent_rows n array table fits =
    (misfits array (model_of n).length gives BadArray)
    ∷ (misfits table (model_of n).sectors gives BadTable)
    ∷ (not fits gives BadState)
    ∷ []

abbrev pub call_rows : Record → Loan → Loan → Bool → List Rung
call_rows rec array table fits =
    (not (record_ok rec) gives BadRecord)
    ∷ lent_rows rec.model array table fits

-- ---- 4, 5: what a frame is
abbrev pub frame_rows : Head → List Rung
frame_rows h =
    ((ltb 65541 h.count || ltb 7 h.tail) gives BadFrame)
    ∷ (ltb h.room h.count gives ShortOut)
    ∷ []

-- ---- 10, 22, 11 to 13, 21, 14: what is heard of it; k is what the refusals ask of its command
abbrev pub heard_rows : State → Head → Traits → List Rung
heard_rows s h k =
    (eqb h.count 0 gives Empty)
    ∷ (not (eqb s.settle 0) gives Settling)
    ∷ ((not (eqb s.busy 0) && not k.while_busy) gives Busy)
    ∷ ((s.asleep && not k.while_asleep) gives Asleep)
    ∷ (not k.known gives NoCommand)
    ∷ (k.withdrawn gives Withdrawn)
    ∷ (not (length_ok k h.count h.tail) gives BadLength)
    ∷ []

-- ---- 15 to 17: what a write needs
-- 60 and C7 run only with BP 0; 02, 20, 52 and D8 look at the addressed unit, which lies in one block
abbrev pub guarded : Record → State → Traits → Head → Bool
guarded rec s k h = (k.unit && is_protected rec.model (tb_of s) s.bp (block_of h.address)) || (k.whole && not (eqb s.bp 0))

abbrev pub write_rows : Record → State → Head → Traits → List Rung
write_rows rec s h k =
    ((k.latch && not s.wel) gives NotEnabled)
    ∷ ((k.lock && (s.srwd && not h.wp)) gives Locked)
    ∷ (guarded rec s k h gives Protected)
    ∷ []

-- ---- 19, 25: what the data say, the cells and the wear table
abbrev pub data_rows : Head → List Rung
data_rows h =
    (h.over gives NotErased)
    ∷ (h.worn gives WornOut)
    ∷ []

-- ---- the table of a frame
-- what the refusals ask of a frame's command, on its model
abbrev pub asks : Record → Head → Traits
asks rec h = traits_of (model_of rec.model).register h.command

abbrev pub given_rows : Record → State → Head → List Rung
given_rows rec s h = call_rows rec (sized h.cells) (sized h.sectors) (state_ok rec s && h.page) ++ frame_rows h

abbrev pub said_rows : Record → State → Head → Traits → List Rung
said_rows rec s h k = heard_rows s h k ++ write_rows rec s h k

abbrev pub ladder : Record → State → Head → Traits → List Rung
ladder rec s h k = given_rows rec s h ++ (said_rows rec s h k ++ data_rows h)

unfoldable pub refusal_of : Record → State → Head → Answer
refusal_of rec s h = first_of (ladder rec s h (asks rec h))
