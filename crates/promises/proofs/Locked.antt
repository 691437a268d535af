-- The locked area: no status write runs, so BP, TB and SRWD stay, and the cells with them.
use Rattle.std.specs.Prelude.{Option, Some, None}
use mathlib.Core.Path.{◌≡◌, refl, ap, subst, ◌∙◌}
use mathlib.Core.Bool.{Bool, true, false, not, ◌&&◌, ◌||◌, cond, true≢false}
use mathlib.Core.List.{List, [], ◌∷◌}
use mathlib.Core.Logic.{inl, ⊎_elim}
use Prim.Native.Nat.{ℕ}
use lib.Dec.{eqb, ltb}
use Rattle.units.specs.declared.Address.{Address}
use Rattle.answers.specs.Answers.{is_done}
use Rattle.commands.specs.declared.Operation.{Operation}
use Rattle.commands.specs.declared.Operation.TheVariants.{WritesStatus, Programs, ErasesSector, ErasesHalf, ErasesBlock, ErasesChip}
use Rattle.states.specs.States.{tb_of, Chip, chip_of}
use Rattle.states.specs.declared.Record.{Record}
use Rattle.states.specs.declared.State.{State}
use Rattle.effects.specs.Effects.{latched, dozing, starting}
use Rattle.operations.specs.Operations.{runs, finished_bits, forgotten, finished, cut_bits, torn_chip}
use Rattle.time.specs.Time.{later, waited, cycled, cut_off, chip_refusal, power_refusal, cut_refusal, wait_of, power_of, power_cut_of}
use Rattle.time.proofs.Time.{Fit, chip-fits, cuttable}
use Rattle.calls.specs.Calls.{Call, sends, waits, cycles, cuts, ours, after}
use Rattle.recovery.specs.Histories.{Lent, lend, history, on_one}
use Rattle.recovery.proofs.Histories.{runs-are-histories}
use Rattle.promises.specs.Protected.{SameArea, StaysProtected}
use Rattle.promises.specs.Locked.{LowIn, WpLow, Unchanged, StaysLocked, LockedArea, LockedRun}
use Rattle.promises.proofs.Laws.{by}
use Rattle.promises.proofs.Torn.{cycle-keeps-tb}
use Rattle.promises.proofs.Protected.{is_write, Next, remains, enables, rests, begins, frame-next, idle-runs, Mood, call-mood, protected-stays}

-- ---- SRWD, BP and TB
record Kept (s t : State) : Type 0 where
  srwd : t.srwd ≡ s.srwd
  area : SameArea s t

kept : {s t : State} → t.srwd ≡ s.srwd → t.bp ≡ s.bp → tb_of t ≡ tb_of s → Kept s t
kept e b t = record { srwd = e; area = record { bp = b; tb = t } }

then : {s t u : State} → Kept s t → Kept t u → Kept s u
then p q = kept (q.srwd ∙ p.srwd) (q.area.bp ∙ p.area.bp) (q.area.tb ∙ p.area.tb)

-- a frame keeps them
next-keeps : {rec : Record} {s t : State} {wp : Bool} → Next rec s wp t → Kept s t
unfolding latched dozing starting tb_of
next-keeps remains = kept refl refl refl
next-keeps (enables b) = kept refl refl refl
next-keeps (rests b time) = kept refl refl refl
next-keeps (begins command place time q) = kept refl refl refl

-- so does all else, where no status write runs that finishes or is cut
finished-bits : (n : ℕ) (s : State) (page : List ℕ) (op : Option Operation) → is_write op ≡ false → finished_bits n op s page ≡ s
finished-bits n s page None w = refl
finished-bits n s page (Some WritesStatus) w = absurd (true≢false w)
finished-bits n s page (Some Programs) w = refl
finished-bits n s page (Some ErasesSector) w = refl
finished-bits n s page (Some ErasesHalf) w = refl
finished-bits n s page (Some ErasesBlock) w = refl
finished-bits n s page (Some ErasesChip) w = refl

cut-bits : (n : ℕ) (s : State) (page pattern : List ℕ) (op : Option Operation) → is_write op ≡ false → cut_bits n op s page pattern ≡ s
cut-bits n s page pattern None w = refl
cut-bits n s page pattern (Some WritesStatus) w = absurd (true≢false w)
cut-bits n s page pattern (Some Programs) w = refl
cut-bits n s page pattern (Some ErasesSector) w = refl
cut-bits n s page pattern (Some ErasesHalf) w = refl
cut-bits n s page pattern (Some ErasesBlock) w = refl
cut-bits n s page pattern (Some ErasesChip) w = refl

later-keeps : (s : State) (us : ℕ) → Kept s (later s us)
unfolding later tb_of
later-keeps s us = kept refl refl refl

forgotten-keeps : (s : State) → Kept s (forgotten s)
unfolding forgotten tb_of
forgotten-keeps s = kept refl refl refl

cycled-keeps : (s : State) → Kept s (cycled s)
unfolding cycled
cycled-keeps s = kept refl refl (cycle-keeps-tb s)

-- the chip is idle, or no status write runs
abbrev NoWrite : Option Operation → Address → Type 0
NoWrite op at = is_write op ≡ false

module _ (rec : Record) (x : Chip) (m : Mood rec NoWrite x.state) where
  -- where a wait or a cut is taken, none does: an idle chip runs nothing
  none_runs : Fit rec x → is_write (runs rec.model x.state) ≡ false
  none_runs f = ⊎_elim (λ z. ap is_write (idle-runs rec x.state f.valid z)) (λ q. q) m

  wait-keeps : (us : ℕ) → Kept x.state (wait_of rec x us).chip.state
  unfolding wait_of waited finished
  wait-keeps us =
      by (λ (y : Chip). Kept x.state y.state) (is_done (chip_refusal rec x)) x (waited rec.model x us) (λ d. kept refl refl refl)
      (λ d. by (λ (y : Chip). Kept x.state y.state) (eqb x.state.busy 0 || ltb us x.state.busy) (finished rec.model x) (chip_of (later x.state us) x.page x.cells)
      (λ t. rw (finished-bits rec.model x.state x.page (runs rec.model x.state) (none_runs (chip-fits rec x d))) (forgotten-keeps x.state)) (λ t. later-keeps x.state us))

  cycle-keeps : Kept x.state (power_of rec x.state x.page).state
  unfolding power_of
  cycle-keeps = go (is_done (power_refusal rec x.state x.page))
    where
      go : (b : Bool) → Kept x.state (cond b (cycled x.state) x.state)
      go true = cycled-keeps x.state
      go false = kept refl refl refl

  cut_keeps : (pattern : List ℕ) → Kept x.state (power_cut_of rec x pattern).chip.state
  unfolding power_cut_of cut_off torn_chip
  cut_keeps pattern =
      by (λ (y : Chip). Kept x.state y.state) (is_done (cut_refusal rec x pattern)) x (cut_off rec.model x pattern) (λ d. kept refl refl refl)
      (λ d. rw (cut-bits rec.model x.state x.page pattern (runs rec.model x.state) (none_runs (cuttable rec x pattern d).fit)) (cycled-keeps x.state))

  call-keeps : (c : Call) → Kept x.state (after ours rec [] c x).state
  unfolding after
  call-keeps (sends f) = next-keeps (frame-next rec x f)
  call-keeps (waits us) = wait-keeps us
  call-keeps cycles = cycle-keeps
  call-keeps (cuts pattern) = cut_keeps pattern

-- ---- the lock
-- SRWD, BP and TB are as at the start, and no status write runs
record Guarding (rec : Record) (start s : State) : Type 0 where
  same : Kept start s
  quiet : Mood rec NoWrite s

module _ (rec : Record) (start : State) (locked : start.srwd ≡ true) where
  -- with SRWD 1 and WP# low no frame starts one
  no_write : (op : Option Operation) (wp : Bool) → wp ≡ false → (is_write op ≡ true → (true && not wp) ≡ false) → is_write op ≡ false
  no_write op wp w h = go (is_write op) refl
    where
      go : (b : Bool) → is_write op ≡ b → b ≡ false
      go true i = absurd (true≢false (rw w at (h i)))
      go false i = refl

  call-guards : (c : Call) (x : Chip) → LowIn c → Guarding rec start x.state → Guarding rec start (after ours rec [] c x).state
  call-guards c x w p =
      record {
        same = then p.same (call-keeps rec x p.quiet c);
        quiet = call-mood rec NoWrite c x (λ f i op at q. no_write op f.wp (subst LowIn i w) (rw (p.same.srwd ∙ locked) at q.unlocked)) p.quiet;
      }

  stays-locked : (past : List Lent) (x : Chip) → WpLow past → Guarding rec start x.state → StaysProtected rec start past x → StaysLocked rec start past x
  stays-locked [] x w p h = tt
  stays-locked (l ∷ ls) x w p h =
      let y : Chip = lend x l.cells in
      let q = call-guards l.call y w.0 p in
      (record { bp = q.same.area.bp; srwd = q.same.srwd; cells = h.0 }, stays-locked ls (after ours rec [] l.call y) w.1 q (h.1 q.same.area))

-- the model is not looked at: QE, which ends this protection on the KH25L12845G, is always 0 here
pub locked-area : LockedArea
locked-area rec past x m z e w = stays-locked rec x.state e past x w (record { same = kept refl refl refl; quiet = inl z }) (protected-stays rec past x (inl z))

-- ---- on one array
all-together : (rec : Record) (s : State) (calls : List Call) (x : Chip) → x.state.bp ≡ s.bp → x.state.srwd ≡ s.srwd
    → StaysLocked rec s (on_one rec calls x) x → Unchanged rec s x (history rec (on_one rec calls x) x)
all-together rec s [] x b e h = record { bp = b; srwd = e; cells = λ k a. refl }
all-together rec s (c ∷ cs) x b e h =
    let y : Chip = after ours rec [] c x in
    let u = h.0 in
    let r = all-together rec s cs y u.bp u.srwd h.1 in
    record { bp = r.bp; srwd = r.srwd; cells = λ k a. r.cells k a ∙ u.cells k a }

pub locked-run : LockedRun
locked-run rec calls x m z e w = rw (runs-are-histories rec calls x) (all-together rec x.state calls x refl refl (locked-area rec (on_one rec calls x) x m z e w))
