-- The protected area: what a frame can start, and an invariant that every call keeps while BP and TB stay.
use Rattle.std.specs.Prelude.{Option, Some, None}
use mathlib.Core.Path.{◌≡◌, refl, sym, ap, ◌∙◌}
use mathlib.Core.Bool.{Bool, true, false, not, ◌&&◌, ◌||◌, cond, true≢false, false≢true}
use mathlib.Core.List.{List, [], ◌∷◌}
use mathlib.Core.Logic.{◌⊎◌, inl, inr, ⊎_elim}
use Prim.Native.Nat.{ℕ, ◌+◌, ◌/◌, ◌≤◌, ◌<◌}
use native.Mathlib.Omega.{arith}
use lib.Dec.{eqb, ltb}
use lib.ListN.{get_or}
use borrow.Author.Tests.{eqb-true, ltb-true, ltb-false, not-false}
use Rattle.units.specs.declared.Address.{Address}
use Rattle.units.specs.Kinds.{block_of}
use Rattle.units.proofs.Bools.{neither}
use Rattle.models.specs.Models.{model_of, is_protected}
use Rattle.answers.specs.Answers.{is_done}
use Rattle.commands.specs.Commands.{decode_of, traits_of, operation_of, started_by}
use Rattle.commands.specs.declared.Command.{Command}
use Rattle.commands.specs.declared.Command.TheVariants.{WriteEnable, WriteDisable, ReadStatus, ReadConfig, WriteStatus, Read, FastRead, EraseSector, EraseHalf, EraseBlock, EraseChip, Program, ReadId, Wake, ReadMaker, Sleep, Unknown, Withdrawn, ReadSfdp}
use Rattle.commands.specs.declared.Operation.{Operation}
use Rattle.commands.specs.declared.Operation.TheVariants.{WritesStatus, Programs, ErasesSector, ErasesHalf, ErasesBlock, ErasesChip}
use Rattle.commands.proofs.Rows.{none-started}
use Rattle.states.specs.States.{tb_of, state_ok, no_address, Chip, chip_of}
use Rattle.states.specs.declared.Record.{Record}
use Rattle.states.specs.declared.State.{State}
use Rattle.states.proofs.States.{sound}
use Rattle.ladder.proofs.Passed.{passed}
use Rattle.effects.specs.Effects.{Effect, latched, dozing, starting, drives, write_enable, write_disable, write_status, erase_starts, sleep, read_status, read_config, read_from, program_page, read_id, wake, read_maker, read_sfdp}
use Rattle.operations.specs.Operations.{Extent, unit_of, runs, runs_at, forgotten, finished}
use Rattle.time.specs.Time.{later, waited, cycled, cut_off, chip_refusal, power_refusal, cut_refusal, wait_of, power_of, power_cut_of}
use Rattle.time.proofs.Time.{Fit, chip-fits, cuttable}
use Rattle.chip.specs.Frames.{Sent, head_for, accepted_of, frame_of}
use Rattle.chip.proofs.Sorts.{Move, stays, latches, dozes}
use Rattle.chip.proofs.Cases.{head, frame-cases, refused-moves}
use Rattle.calls.specs.Calls.{Call, sends, waits, cycles, cuts, ours, after}
use Rattle.calls.proofs.Steps.{unprotected}
use Rattle.recovery.specs.Histories.{Lent, lend, history, on_one}
use Rattle.recovery.proofs.Histories.{runs-are-histories}
use Rattle.promises.specs.Laws.{unit, Outside}
use Rattle.promises.specs.Protected.{in_area, Spares, StartsOutside, Calm, SameArea, AreaStays, StaysProtected, ProtectedStays, KeepsArea, ProtectedRun}
use Rattle.promises.proofs.Laws.{by, refused-wait, refused-cut, only-its-unit, cuts-only-its-unit}

-- ---- frames
-- outside a unit is before or behind it
outside-by : (u : Extent) (k : ℕ) → (u.start ≤ k → k < u.start + u.size → ⊥) → Outside u k
outside-by u k h = go (ltb k u.start) refl (ltb k (u.start + u.size)) refl
  where
    go : (a : Bool) → ltb k u.start ≡ a → (b : Bool) → ltb k (u.start + u.size) ≡ b → Outside u k
    go true p b q = inl (ltb-true k u.start p)
    go false p true q = absurd (h (ltb-false k u.start p) (ltb-true k (u.start + u.size) q))
    go false p false q = inr (ltb-false k (u.start + u.size) q)

abbrev pub is_write : Option Operation → Bool
is_write None = false
is_write (Some WritesStatus) = true
is_write (Some Programs) = false
is_write (Some ErasesSector) = false
is_write (Some ErasesHalf) = false
is_write (Some ErasesBlock) = false
is_write (Some ErasesChip) = false

-- what an accepted frame can start: nothing in the area that the state protects, and a status write only where it is not locked
pub record Starts (rec : Record) (s : State) (wp : Bool) (op : Option Operation) (at : Address) : Type 0 where
  pub outside : Spares rec s op at
  pub unlocked : is_write op ≡ true → (s.srwd && not wp) ≡ false

-- the state after any frame
pub data Next (rec : Record) (s : State) (wp : Bool) : State → Type 0 where
  remains : Next rec s wp s
  enables : (b : Bool) → Next rec s wp (latched s b)
  rests : (b : Bool) (time : ℕ) → Next rec s wp (dozing s b time)
  begins : (command place time : ℕ) → Starts rec s wp (started_by rec.model command) (record { 0 = place }) → Next rec s wp (starting s command place time)

module _ (rec : Record) (s : State) (wp : Bool) where
  refused-next : {t : State} → Move rec s t → Next rec s wp t
  refused-next stays = remains
  refused-next (latches b z) = enables b
  refused-next (dozes b t z l) = rests b t

  -- a cell of the area lies in another block than an address that is not protected
  other_block : (at : Address) → is_protected rec.model (tb_of s) s.bp (block_of at) ≡ false → (k : ℕ) → in_area rec s k ≡ true → at.0 / 65536 ≡ k / 65536 → ⊥
  other_block at free k a e =
      true≢false (sym a ∙ ap (λ (n : ℕ). is_protected rec.model (tb_of s) s.bp (record { 0 = n })) (sym e) ∙ free)

  module _ (at : Address) (bytes wear out : List ℕ) where
    -- an operation on the unit of an address that is not protected
    begins-unit : (op : Option Operation) (time : ℕ) → started_by rec.model (get_or bytes 0 0) ≡ op → is_write op ≡ false
        → ((n k : ℕ) → (at.0 / 65536 ≡ k / 65536 → ⊥) → Outside (unit_of op at n) k)
        → (is_protected rec.model (tb_of s) s.bp (block_of at) || false) ≡ false → Next rec s wp (starting s (get_or bytes 0 0) at.0 time)
    begins-unit op time e w o free =
        begins (get_or bytes 0 0) at.0 time
        (rw e (record { outside = λ k a. o _ k (other_block at (neither _ false free).0 k a); unlocked = λ i. absurd (false≢true (sym w ∙ i)) }))

    -- a chip erase: BP is 0, and nothing is protected
    begins-whole : (time : ℕ) → started_by rec.model (get_or bytes 0 0) ≡ Some ErasesChip → not (eqb s.bp 0) ≡ false → Next rec s wp (starting s (get_or bytes 0 0) no_address time)
    begins-whole time e free =
        let z : s.bp ≡ 0 = eqb-true s.bp 0 (not-false _ free) in
        begins (get_or bytes 0 0) no_address time
        (rw e (record { outside = λ k a. absurd (true≢false (sym a ∙ ap (λ (b : ℕ). is_protected rec.model (tb_of s) b (record { 0 = k / 65536 })) z ∙ unprotected rec.model (tb_of s) (record { 0 = k / 65536 }))); unlocked = λ i. absurd (false≢true i) }))

    -- a status write has no cells
    begins-write : (place time : ℕ) → started_by rec.model (get_or bytes 0 0) ≡ Some WritesStatus → (s.srwd && not wp) ≡ false → Next rec s wp (starting s (get_or bytes 0 0) place time)
    begins-write place time e l = begins (get_or bytes 0 0) place time (rw e (record { outside = λ k a. inr (omega arith); unlocked = λ i. l }))

    -- an accepted frame, by its command
    accepted-next : (c : Command) → decode_of rec.model (get_or bytes 0 0) ≡ c → ((traits_of (model_of rec.model).register c).lock && (s.srwd && not wp)) ≡ false
        → (((traits_of (model_of rec.model).register c).unit && is_protected rec.model (tb_of s) s.bp (block_of at)) || ((traits_of (model_of rec.model).register c).whole && not (eqb s.bp 0))) ≡ false
        → (page cells : List ℕ) → Next rec s wp (accepted_of rec (chip_of s page cells) c at bytes wear out).reply.state
    unfolding accepted_of traits_of write_enable write_disable write_status erase_starts sleep drives read_status read_config read_from program_page read_id wake read_maker read_sfdp
    accepted-next WriteEnable m l f page cells = enables true
    accepted-next WriteDisable m l f page cells = enables false
    accepted-next ReadStatus m l f page cells = remains
    accepted-next ReadConfig m l f page cells = remains
    accepted-next WriteStatus m l f page cells = begins-write _ _ (ap operation_of m) l
    accepted-next Read m l f page cells = remains
    accepted-next FastRead m l f page cells = remains
    accepted-next EraseSector m l f page cells = begins-unit (Some ErasesSector) _ (ap operation_of m) refl (λ n k d. outside-by _ k (λ a b. d (omega arith))) f
    accepted-next EraseHalf m l f page cells = begins-unit (Some ErasesHalf) _ (ap operation_of m) refl (λ n k d. outside-by _ k (λ a b. d (omega arith))) f
    accepted-next EraseBlock m l f page cells = begins-unit (Some ErasesBlock) _ (ap operation_of m) refl (λ n k d. outside-by _ k (λ a b. d (omega arith))) f
    accepted-next EraseChip m l f page cells = begins-whole _ (ap operation_of m) f
    accepted-next Program m l f page cells = begins-unit (Some Programs) _ (ap operation_of m) refl (λ n k d. outside-by _ k (λ a b. d (omega arith))) f
    accepted-next ReadId m l f page cells = remains
    accepted-next Wake m l f page cells = rests false _
    accepted-next ReadMaker m l f page cells = remains
    accepted-next Sleep m l f page cells = rests true _
    accepted-next Unknown m l f page cells = remains
    accepted-next Withdrawn m l f page cells = remains
    accepted-next ReadSfdp m l f page cells = remains

pub frame-next : (rec : Record) (x : Chip) (f : Sent) → Next rec x.state f.wp (frame_of rec x f).reply.state
unfolding head_for
frame-next rec x f =
    frame-cases rec x f (λ (e : Effect). Next rec x.state f.wp e.reply.state)
    (λ d.
    let q = passed rec x.state (head rec x f) d in
    accepted-next rec x.state f.wp (head rec x f).address f.bytes f.wear f.out (head rec x f).command refl q.unlocked q.free x.page x.cells)
    (λ d. refused-next rec x.state f.wp (refused-moves rec x f))

-- an idle chip with a valid state runs nothing, and nothing has no cells
pub idle-runs : (rec : Record) (s : State) → state_ok rec s ≡ true → s.busy ≡ 0 → runs rec.model s ≡ None
idle-runs rec s v z = ⊎_elim (λ q. ap (started_by rec.model) q.command ∙ none-started rec.model) (λ q. absurd (omega (arith, q.busy))) (sound rec s v).mood

nothing-spared : (rec : Record) (p s : State) → runs rec.model s ≡ None → Spares rec p (runs rec.model s) (runs_at s)
nothing-spared rec p s e k a = rw e (inr (omega arith))

taken-valid : (rec : Record) (x : Chip) (f : Sent) → is_done (frame_of rec x f).reply.answer ≡ true → state_ok rec x.state ≡ true
taken-valid rec x f =
    frame-cases rec x f (λ (e : Effect). is_done e.reply.answer ≡ true → state_ok rec x.state ≡ true)
    (λ d g. (passed rec x.state (head rec x f) d).valid) (λ d g. absurd (false≢true (sym d ∙ g)))

next-spares : {rec : Record} {s t : State} {wp : Bool} → runs rec.model s ≡ None → Next rec s wp t → Spares rec s (runs rec.model t) (runs_at t)
unfolding latched dozing starting
next-spares {rec} {s} e remains = nothing-spared rec s s e
next-spares {rec} {s} e (enables b) = nothing-spared rec s s e
next-spares {rec} {s} e (rests b time) = nothing-spared rec s s e
next-spares e (begins command place time q) = q.outside

pub starts-outside : StartsOutside
starts-outside rec x f z d = next-spares (idle-runs rec x.state (taken-valid rec x f d) z) (frame-next rec x f)

-- ---- what is so of an idle chip, and of what runs otherwise, is so after every call, if it is of what a frame starts
module _ (rec : Record) (Q : Option Operation → Address → Type 0) where
  abbrev pub Mood : State → Type 0
  Mood s = (s.busy ≡ 0) ⊎ Q (runs rec.model s) (runs_at s)

  next-mood : {s t : State} {wp : Bool} → ((op : Option Operation) (at : Address) → Starts rec s wp op at → Q op at) → Mood s → Next rec s wp t → Mood t
  unfolding latched dozing starting
  next-mood h m remains = m
  next-mood h m (enables b) = m
  next-mood h m (rests b time) = m
  next-mood h m (begins command place time q) = inr (h _ _ q)

  later-mood : (s : State) (us : ℕ) → Mood s → Mood (later s us)
  unfolding later
  later-mood s us m = ⊎_elim (λ z. inl (omega arith)) (λ q. inr q) m

  wait-mood : (x : Chip) (us : ℕ) → Mood x.state → Mood (wait_of rec x us).chip.state
  unfolding wait_of waited finished forgotten
  wait-mood x us m =
      by (λ (y : Chip). Mood y.state) (is_done (chip_refusal rec x)) x (waited rec.model x us) (λ d. m)
      (λ d. by (λ (y : Chip). Mood y.state) (eqb x.state.busy 0 || ltb us x.state.busy) (finished rec.model x) (chip_of (later x.state us) x.page x.cells)
      (λ t. inl refl) (λ t. later-mood x.state us m))

  cycle-mood : (x : Chip) → Mood x.state → Mood (power_of rec x.state x.page).state
  unfolding power_of cycled
  cycle-mood x m = go (is_done (power_refusal rec x.state x.page))
    where
      go : (b : Bool) → Mood (cond b (cycled x.state) x.state)
      go true = inl refl
      go false = m

  cut-mood : (x : Chip) (pattern : List ℕ) → Mood x.state → Mood (power_cut_of rec x pattern).chip.state
  unfolding power_cut_of cut_off cycled
  cut-mood x pattern m =
      by (λ (y : Chip). Mood y.state) (is_done (cut_refusal rec x pattern)) x (cut_off rec.model x pattern) (λ d. m) (λ d. inl refl)

  pub call-mood : (c : Call) (x : Chip) → ((f : Sent) → c ≡ sends f → (op : Option Operation) (at : Address) → Starts rec x.state f.wp op at → Q op at) → Mood x.state
      → Mood (after ours rec [] c x).state
  unfolding after
  call-mood (sends f) x h m = next-mood (h f refl) m (frame-next rec x f)
  call-mood (waits us) x h m = wait-mood x us m
  call-mood cycles x h m = cycle-mood x m
  call-mood (cuts pattern) x h m = cut-mood x pattern m

-- ---- the cells, under any call and any list of them
module _ (rec : Record) (start : State) where
  -- where a wait or a cut is taken, what runs leaves the area alone: an idle chip runs nothing
  taken-spares : (x : Chip) → Calm rec start x → Fit rec x → (k : ℕ) → in_area rec start k ≡ true → Outside (unit rec x) k
  taken-spares x m f = rw f.whole (⊎_elim (λ z. nothing-spared rec start x.state (idle-runs rec x.state f.valid z)) (λ q. q) m)

  wait-cells : (x : Chip) (us : ℕ) → Calm rec start x → AreaStays rec start x (wait_of rec x us).chip
  unfolding wait_of
  wait-cells x us m k a = go (is_done (chip_refusal rec x)) refl
    where
      go : (b : Bool) → is_done (chip_refusal rec x) ≡ b → get_or (wait_of rec x us).chip.cells k 0 ≡ get_or x.cells k 0
      go true d = only-its-unit rec x us k (taken-spares x m (chip-fits rec x d) k a)
      go false d = ap (λ (y : Chip). get_or y.cells k 0) (refused-wait rec x us d)

  cut_cells : (x : Chip) (pattern : List ℕ) → Calm rec start x → AreaStays rec start x (power_cut_of rec x pattern).chip
  unfolding power_cut_of
  cut_cells x pattern m k a = go (is_done (cut_refusal rec x pattern)) refl
    where
      go : (b : Bool) → is_done (cut_refusal rec x pattern) ≡ b → get_or (power_cut_of rec x pattern).chip.cells k 0 ≡ get_or x.cells k 0
      go true d = cuts-only-its-unit rec x pattern k (taken-spares x m (cuttable rec x pattern d).fit k a)
      go false d = ap (λ (y : Chip). get_or y.cells k 0) (refused-cut rec x pattern d)

  call-cells : (c : Call) (x : Chip) → Calm rec start x → AreaStays rec start x (after ours rec [] c x)
  unfolding after
  call-cells (sends f) x m k a = refl
  call-cells (waits us) x m k a = wait-cells x us m k a
  call-cells cycles x m k a = refl
  call-cells (cuts pattern) x m k a = cut_cells x pattern m k a

  -- while BP and TB stay, what a frame starts leaves that area alone too
  call-calm : (c : Call) (x : Chip) → SameArea start x.state → Calm rec start x → Calm rec start (after ours rec [] c x)
  call-calm c x e = call-mood rec (Spares rec start) c x (λ f i op at q k a. q.outside k (rw (e.tb, e.bp) a))

  stays-protected : (past : List Lent) (x : Chip) → SameArea start x.state → Calm rec start x → StaysProtected rec start past x
  stays-protected [] x e m = tt
  stays-protected (l ∷ ls) x e m =
      let y : Chip = lend x l.cells in
      (call-cells l.call y m, λ same. stays-protected ls (after ours rec [] l.call y) same (call-calm l.call y e m))

  -- on one array
  all-together : (calls : List Call) (x : Chip) → KeepsArea rec start calls x → StaysProtected rec start (on_one rec calls x) x → AreaStays rec start x (history rec (on_one rec calls x) x)
  all-together [] x e h k a = refl
  all-together (c ∷ cs) x e h k a = all-together cs (after ours rec [] c x) e.1 (h.1 e.0) k a ∙ h.0 k a

pub protected-stays : ProtectedStays
protected-stays rec past x m = stays-protected rec x.state past x (record { bp = refl; tb = refl }) m

pub protected-run : ProtectedRun
protected-run rec calls x m e = rw (runs-are-histories rec calls x) (all-together rec x.state calls x e (protected-stays rec (on_one rec calls x) x m))
