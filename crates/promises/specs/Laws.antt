-- Laws of the model that are worth having in their own right.
use Rattle.std.specs.Prelude.{◌≡◌, Bool, false, true, ◌&&◌, ◌||◌, cond, List, [], ◌∷◌, ◌⊎◌, ℕ, ◌+◌, ◌≤◌, ◌<◌, eqb, length, get_or, Option, Some, None, Result}
use Rattle.units.specs.declared.Address.{Address}
use Rattle.models.specs.Models.{model_of}
use Rattle.commands.specs.Commands.{decode_of, operation_of}
use Rattle.cells.specs.Cell.{bit}
use Rattle.answers.specs.Answers.{Answer, number_of, is_done}
use Rattle.answers.specs.declared.Refusal.{Refusal}
use Rattle.states.specs.States.{tb_of, Chip}
use Rattle.states.specs.declared.Record.{Record}
use Rattle.states.specs.declared.State.{State}
use Rattle.commands.specs.declared.Operation.{Operation}
use Rattle.commands.specs.declared.Operation.TheVariants.{Programs}
use Rattle.parts.specs.Parts.{part}
use Rattle.counts.specs.Counts.{counted}
use Rattle.counts.specs.ContractForms.{Counting}
use Rattle.effects.specs.declared.Reply.{Reply}
use Rattle.effects.specs.Effects.{Effect, Shown, Started, latched, refusal_leaves, state_only}
use Rattle.effects.specs.ContractForms.{Gives, Shows, Starts}
use Rattle.ladder.specs.declared.Head.{Head}
use Rattle.chip.specs.Frames.{Sent, head_of, refused_of, frame_of}
use Rattle.chip.specs.Driven.{driven_bytes, fold_of}
use Rattle.chip.specs.ContractForms.{Does}
use Rattle.operations.specs.Operations.{Extent, unit_of, runs, runs_at, finished}
use Rattle.operations.specs.ContractForms.{Left}
use Rattle.time.specs.Time.{Aftermath, ended, wait_of, power_of, power_cut_of}
use Rattle.time.specs.ContractForms.{Ends}
use Rattle.calls.specs.Calls.{Call, ours, after}

-- waiting a and then b is waiting a + b, for any record, state, page data and array
abbrev pub WaitsAdd : Type 0
WaitsAdd = (rec : Record) (x : Chip) (a b : ℕ) → wait_of rec (wait_of rec x a).chip b ≡ wait_of rec x (a + b)

-- a refused frame drives nothing and changes no cell, and leaves of the state what its answer leaves on that model
abbrev pub RefusedFrame : Type 0
RefusedFrame =
    (rec : Record) (x : Chip) (f : Sent) → is_done (frame_of rec x f).reply.answer ≡ false
    → frame_of rec x f ≡ refused_of rec (frame_of rec x f).reply.answer x f

-- that is the state given, on models 1 and 2, and on model 3 at every answer but 17
abbrev pub RefusalKeeps : Type 0
RefusalKeeps =
    (rec : Record) (a : Answer) (s : State) → ((model_of rec.model).latch_falls ≡ false) ⊎ (number_of a ≡ 17 → ⊥)
    → refusal_leaves rec.model a s ≡ s

-- at 17 on model 3 it is the state given with WEL 0
abbrev pub RefusalClears : Type 0
RefusalClears =
    (rec : Record) (a : Answer) (s : State) → (model_of rec.model).latch_falls ≡ true → number_of a ≡ 17
    → refusal_leaves rec.model a s ≡ latched s false

-- and WEL falls on model 3 alone
abbrev pub LatchFalls : Type 0
LatchFalls = (n : ℕ) → (model_of n).latch_falls ≡ eqb n 3

-- a refused wait, cut or power cycle changes nothing
abbrev pub RefusedWait : Type 0
RefusedWait = (rec : Record) (x : Chip) (us : ℕ) → is_done (wait_of rec x us).answer ≡ false → (wait_of rec x us).chip ≡ x

abbrev pub RefusedCut : Type 0
RefusedCut = (rec : Record) (x : Chip) (pattern : List ℕ) → is_done (power_cut_of rec x pattern).answer ≡ false → (power_cut_of rec x pattern).chip ≡ x

abbrev pub RefusedCycle : Type 0
RefusedCycle = (rec : Record) (s : State) (page : List ℕ) → is_done (power_of rec s page).answer ≡ false → (power_of rec s page).state ≡ s

-- TB, once set, stays set under every call, whatever it is given
abbrev pub TbStays : Type 0
TbStays = (rec : Record) (c : Call) (x : Chip) → tb_of x.state ≡ true → tb_of (after ours rec [] c x).state ≡ true

-- a chip that settles
abbrev pub Settles : Chip → Type 0
Settles x = x.state.settle ≡ 0 → ⊥

-- answers a frame 22, 10, 24 or 1 to 5, and nothing else
abbrev pub among : ℕ → List ℕ → Bool
among n [] = false
among n (m ∷ more) = eqb n m || among n more

abbrev pub settling_numbers : List ℕ
settling_numbers = 22 ∷ 10 ∷ 24 ∷ 1 ∷ 2 ∷ 3 ∷ 4 ∷ 5 ∷ []

abbrev pub SettlingAnswers : Type 0
SettlingAnswers =
    (rec : Record) (x : Chip) (f : Sent) → Settles x
    → among (number_of (frame_of rec x f).reply.answer) settling_numbers ≡ true

-- and no frame changes anything of it, nor counts, nor drives a byte: that is left to waits and power cycles
abbrev pub SettlingStays : Type 0
SettlingStays =
    (rec : Record) (x : Chip) (f : Sent) → Settles x
    → frame_of rec x f ≡ state_only (frame_of rec x f).reply.answer x.state x.page f.wear f.out

-- a wait changes at most the unit of the running operation, and so does a cut; a frame changes no cell at all
abbrev pub unit : Record → Chip → Extent
unit rec x = unit_of (runs rec.model x.state) (runs_at x.state) (length x.cells)

abbrev pub Outside : Extent → ℕ → Type 0
Outside u k = (k < u.start) ⊎ (u.start + u.size ≤ k)

abbrev pub OnlyItsUnit : Type 0
OnlyItsUnit = (rec : Record) (x : Chip) (us k : ℕ) → Outside (unit rec x) k → get_or (wait_of rec x us).chip.cells k 0 ≡ get_or x.cells k 0

abbrev pub CutsOnlyItsUnit : Type 0
CutsOnlyItsUnit = (rec : Record) (x : Chip) (pattern : List ℕ) (k : ℕ) → Outside (unit rec x) k → get_or (power_cut_of rec x pattern).chip.cells k 0 ≡ get_or x.cells k 0

-- cells only fall under a program: no bit b of any cell k rises when it has finished (of a cut one `torn-falls` says it, in `cells`)
abbrev pub ProgramFalls : Type 0
ProgramFalls =
    (rec : Record) (x : Chip) (us b k : ℕ) → runs rec.model x.state ≡ Some Programs → bit b (get_or (wait_of rec x us).chip.cells k 0) ≤ bit b (get_or x.cells k 0)

-- the cells change when the time has run out, and not before
abbrev pub NotBefore : Type 0
NotBefore = (rec : Record) (x : Chip) (us : ℕ) → us < x.state.busy → (wait_of rec x us).chip.cells ≡ x.cells

-- with the pattern of the cells that were there a cut operation has not happened, with that of the finished one it has finished
abbrev pub unit_cells : Record → Chip → List ℕ → List ℕ
unit_cells rec x cells = part cells (unit rec x).start (unit rec x).size

abbrev pub PatternOld : Type 0
PatternOld = (rec : Record) (x : Chip) → is_done (power_cut_of rec x (unit_cells rec x x.cells)).answer ≡ true → (power_cut_of rec x (unit_cells rec x x.cells)).chip.cells ≡ x.cells

abbrev pub PatternFinished : Type 0
PatternFinished =
    (rec : Record) (x : Chip)
    → (let done : List ℕ = (finished rec.model x).cells in
    is_done (power_cut_of rec x (unit_cells rec x done)).answer ≡ true → (power_cut_of rec x (unit_cells rec x done)).chip.cells ≡ done)

-- the wear table after a frame: one that is taken counts the sectors that its operation covers, and every other leaves the table
abbrev pub WearCounted : Type 0
WearCounted =
    (rec : Record) (x : Chip) (f : Sent)
    → (let h : Head = head_of rec x f in
    (frame_of rec x f).wear ≡ cond (is_done (frame_of rec x f).reply.answer) (counted (operation_of h.command) h.address f.wear) f.wear)

-- no second answer satisfies a promise. Every promise of the crates below is an equation with a definition, of what comes back or of a lent buffer, or one of the
-- forms `Gives`, `Shows`, `Starts`, `Does`, `Counting`, `Left` and `Ends`
abbrev pub OneOutcome : Type 1
OneOutcome = (A : Type 0) (a r t : A) → r ≡ a → t ≡ a → r ≡ t

-- `Gives`, of a frame
abbrev pub OneEffect : Type 0
OneEffect =
    (rec : Record) (x : Chip) (f : Sent) (r t : Reply) (page page' wear wear' os ps : List ℕ)
    → Gives (frame_of rec x f) r page wear os → Gives (frame_of rec x f) t page' wear' ps → (r ≡ t) × (page ≡ page') × (wear ≡ wear') × (os ≡ ps)

-- `Shows`, of a command that drives bytes out, `Starts`, of one that starts an operation with page data, and `Does`, of any
abbrev pub OneShown : Type 0
OneShown = (e : Shown) (r t : Reply) (os ps : List ℕ) → Shows e r os → Shows e t ps → (r ≡ t) × (os ≡ ps)

abbrev pub OneStarted : Type 0
OneStarted = (e : Started) (r t : Reply) (page page' : List ℕ) → Starts e r page → Starts e t page' → (r ≡ t) × (page ≡ page')

abbrev pub OneDone : Type 0
OneDone = (e : Effect) (r t : Reply) (page page' os ps : List ℕ) → Does e r page os → Does e t page' ps → (r ≡ t) × (page ≡ page') × (os ≡ ps)

-- `Counting`, of the wear table
abbrev pub OneCounting : Type 0
OneCounting = (op : Option Operation) (at : Address) (before : List ℕ) (r t : Bool) (xs ys : List ℕ) → Counting op at before r xs → Counting op at before t ys → (r ≡ t) × (xs ≡ ys)

-- `Left`, of an operation that has finished or was cut
abbrev pub OneLeft : Type 0
OneLeft = (x : Chip) (s t : State) (page page' xs ys : List ℕ) → Left x s page xs → Left x t page' ys → (s ≡ t) × (page ≡ page') × (xs ≡ ys)

-- `Ends`, of a wait and of a cut
abbrev pub OneEnd : Type 0
OneEnd =
    (o : Aftermath) (r t : Result State Refusal) (page page' xs ys : List ℕ) → Ends o r page xs → Ends o t page' ys
    → (r ≡ t) × (page ≡ page') × (xs ≡ ys)

abbrev pub OneCycle : Type 0
OneCycle = (rec : Record) (s : State) (page : List ℕ) (r t : Result State Refusal) → r ≡ ended (power_of rec s page) → t ≡ ended (power_of rec s page) → r ≡ t

-- a made-up number of driven bytes falls: what satisfies the contract of a frame drives as many as the command and the length say
abbrev pub NumberFixed : Type 0
NumberFixed =
    (rec : Record) (x : Chip) (f : Sent) (r : Reply) (page wear os : List ℕ) → Gives (frame_of rec x f) r page wear os → is_done r.answer ≡ true
    → r.count ≡ driven_bytes (decode_of rec.model (get_or f.bytes 0 0)) (length f.bytes)

-- the answer says that a program folded exactly when the frame is taken, its command is a program, and a byte went past the page's end
abbrev pub FoldNoted : Type 0
FoldNoted =
    (rec : Record) (x : Chip) (f : Sent)
    → (let h : Head = head_of rec x f in
    (frame_of rec x f).reply.fold ≡ (is_done (frame_of rec x f).reply.answer && fold_of h.command h.address (length f.bytes)))
