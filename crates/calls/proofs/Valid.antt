-- Every call leaves a valid state valid, its page data fitting and the array as long as it was.
use mathlib.Core.Path.{◌≡◌, refl}
use mathlib.Core.Bool.{Bool, true, false, ◌||◌, cond}
use mathlib.Core.List.{List}
use mathlib.Core.Logic.{⊎_elim, inl, inr}
use Prim.Native.Nat.{ℕ, ◌≤◌, ◌-◌, ◌<◌}
use native.Mathlib.Nat.{le_trans}
use native.Mathlib.Omega.{arith}
use lib.Dec.{eqb, ltb}
use lib.ListN.{length}
use borrow.Author.Tests.{eqb-true, eq-eqb, ne_eqb, ltb-true}
use Rattle.units.proofs.Bools.{either}
use Rattle.models.specs.Models.{model_of}
use Rattle.answers.specs.Answers.{is_done}
use Rattle.std.specs.Prelude.{Option}
use Rattle.commands.specs.declared.Operation.{Operation}
use Rattle.states.specs.States.{longest_settle, record_ok, operation_time, used_page, page_ok, blank_page, power_on, Chip, chip_of}
use Rattle.states.specs.declared.Record.{Record}
use Rattle.states.specs.declared.State.{State}
use Rattle.states.proofs.States.{Sound, Resting, Running, config-0-ok, only-tb-ok, blank-page, blank_ok}
use Rattle.effects.specs.Effects.{Effect, latched, dozing, starting}
use Rattle.ladder.proofs.Passed.{passed}
use Rattle.operations.specs.Operations.{runs, runs_at, finished_bits, forgotten, finished, cut_bits, torn_chip}
use Rattle.operations.proofs.Kept.{finished-level, finished-register, finished-settle, cut_level, cut-register}
use Rattle.operations.proofs.Only.{finished-only, cut-only}
use Rattle.chip.specs.Frames.{Sent, frame_of}
use Rattle.chip.proofs.Sorts.{Move, stays, latches, dozes, Begun, Turn, moved, begun, moves}
use Rattle.chip.proofs.Cases.{head, frame-cases, sort, shown-asked, refused-moves}
use Rattle.time.specs.Time.{later, waited, cycled, cut_off, chip_refusal, power_refusal, cut_refusal, wait_of, power_of, power_cut_of}
use Rattle.time.proofs.Time.{chip-fits, ready, cuttable, cyclable}
use Rattle.calls.specs.Calls.{Call, sends, waits, cycles, cuts, ours, after}

-- a valid state, and page data that fit it
pub record Fine (rec : Record) (s : State) (page : List ℕ) : Type 0 where
  pub sound : Sound rec s
  pub page-data : page_ok rec.model s page ≡ true

-- page data that fit an idle chip fit it in every idle state
still-idle : (n : ℕ) (s t : State) (page : List ℕ) → s.busy ≡ 0 → t.busy ≡ 0 → page_ok n s page ≡ true → page_ok n t page ≡ true
still-idle n s t page z w e = rw (blank-page n s page e z) (blank_ok n t w)

module _ (rec : Record) (s : State) (p : Sound rec s) where
  at_rest : s.busy ≡ 0 → Resting s
  at_rest z = ⊎_elim (λ q. q) (λ q. absurd (omega (arith, q.busy))) p.mood

  -- the state of an idle chip may change its latch and fall asleep or wake
  latched-sound : (b : Bool) → s.busy ≡ 0 → Sound rec (latched s b)
  unfolding latched
  latched-sound b z = let q = at_rest z in record { level = p.level; register = p.register; settle = p.settle; mood = inl (record { idle = z; command = q.command; address = q.address }) }

  dozing-sound : (b : Bool) (t : ℕ) → s.busy ≡ 0 → t ≤ longest_settle rec → Sound rec (dozing s b t)
  unfolding dozing
  dozing-sound b t z l = let q = at_rest z in record { level = p.level; register = p.register; settle = l; mood = inl (record { idle = z; command = q.command; address = q.address }) }

  -- a wait that does not run the time out
  later-sound : (us : ℕ) → (eqb s.busy 0 || ltb us s.busy) ≡ true → Sound rec (later s us)
  unfolding later
  later-sound us t =
      record {
        level = p.level;
        register = p.register;
        settle = omega (arith, p.settle);
        mood =
            ⊎_elim (λ q. inl (record { idle = omega (arith, q.idle); command = q.command; address = q.address }))
            (λ q. inr (goes q)) p.mood;
      }
    where
      goes : Running rec s → Running rec (later s us)
      goes q =
          let l : us < s.busy = ⊎_elim (λ e. absurd (omega (arith, q.busy, eqb-true s.busy 0 e))) (λ e. ltb-true us s.busy e) (either (eqb s.busy 0) (ltb us s.busy) t) in
          record { busy = omega arith; time = le_trans (omega arith) q.time; place = q.place; latch = q.latch; awake = q.awake; settled = omega (arith, q.settled) }

  cycled-sound : Sound rec (cycled s)
  unfolding cycled
  cycled-sound = record { level = p.level; register = only-tb-ok (model_of rec.model).register s.config p.register; settle = omega arith; mood = inl (record { idle = refl; command = refl; address = refl }) }

-- the chip that a finished operation leaves, and one that was cut
finished-fine : (rec : Record) (x : Chip) → Sound rec x.state → Fine rec (finished rec.model x).state (finished rec.model x).page
unfolding finished forgotten
finished-fine rec x p =
    let s = x.state in
    let op = runs rec.model s in
    record {
      sound =
          record {
            level = finished-level rec.model s x.page op p.level;
            register = finished-register rec.model s x.page op p.register;
            settle = rw (finished-settle rec.model s x.page op) p.settle;
            mood = inl (record { idle = refl; command = refl; address = refl });
          };
      page-data = blank_ok rec.model (forgotten (finished_bits rec.model op s x.page)) refl;
    }

cut-fine : (rec : Record) (x : Chip) (pattern : List ℕ) → Sound rec x.state → Fine rec (cut_off rec.model x pattern).state (cut_off rec.model x pattern).page
unfolding cut_off torn_chip cycled
cut-fine rec x pattern p =
    let s = x.state in
    let op = runs rec.model s in
    record {
      sound =
          record {
            level = cut_level rec.model s x.page pattern op p.level;
            register = cut-register rec.model s x.page pattern op p.register;
            settle = omega arith;
            mood = inl (record { idle = refl; command = refl; address = refl });
          };
      page-data = blank_ok rec.model (cycled (cut_bits rec.model op s x.page pattern)) refl;
    }

-- ---- frames
module _ (rec : Record) (x : Chip) (p : Fine rec x.state x.page) where
  moved-fine : {t : State} → Move rec x.state t → Fine rec t x.page
  unfolding latched dozing
  moved-fine stays = p
  moved-fine (latches b z) = record { sound = latched-sound rec x.state p.sound b z; page-data = still-idle rec.model x.state (latched x.state b) x.page z z p.page-data }
  moved-fine (dozes b t z l) = record { sound = dozing-sound rec x.state p.sound b t z l; page-data = still-idle rec.model x.state (dozing x.state b t) x.page z z p.page-data }

  -- an operation starts: the latch is set, and the chip is awake
  begun-fine : record_ok rec ≡ true → (op : Option Operation) {t : State} {page : List ℕ} → Begun rec x op t page → Fine rec t page
  unfolding starting page_ok used_page
  begun-fine r op {t} {page} b =
      let some = b.takes-time r in
      let k = b.page-fits (blank-page rec.model x.state x.page p.page-data b.idle-before) in
      rw b.is
      (record {
        sound =
            record {
              level = p.sound.level;
              register = p.sound.register;
              settle = p.sound.settle;
              mood = inr (record { busy = some; time = rw b.starts-it (omega arith); place = rw b.starts-it b.placed; latch = b.latch; awake = b.awake; settled = b.settled });
            };
        page-data = rw (ne_eqb (operation_time rec op) 0 (λ z. omega arith), b.starts-it, eq-eqb (length page) 256 k.0) k.1;
      })

  turned-fine : record_ok rec ≡ true → {t : State} {page : List ℕ} → Turn rec x t page → Fine rec t page
  turned-fine r (moved m) = moved-fine m
  turned-fine r (begun op b) = begun-fine r op b

  frame-fine : (f : Sent) → Fine rec (frame_of rec x f).reply.state (frame_of rec x f).page
  frame-fine f =
      frame-cases rec x f (λ (e : Effect). Fine rec e.reply.state e.page)
      (λ d. turned-fine (passed rec x.state (head rec x f) d).right (moves (sort rec x f) (shown-asked rec x f d))) (λ d. moved-fine (refused-moves rec x f))

-- page data fit on while the time does not run out
later-page : (n : ℕ) (s : State) (page : List ℕ) (us : ℕ) → (eqb s.busy 0 || ltb us s.busy) ≡ true → page_ok n s page ≡ true → page_ok n (later s us) page ≡ true
unfolding page_ok used_page later
later-page n s page us t e = go (eqb s.busy 0) refl t e
  where
    go : (b : Bool) → eqb s.busy 0 ≡ b → (b || ltb us s.busy) ≡ true → page_ok n s page ≡ true → page_ok n (later s us) page ≡ true
    go true z u k = let i = eqb-true s.busy 0 z in rw (eq-eqb (s.busy - us) 0 (omega arith)) (rw z at k)
    go false z u k = let l = ltb-true us s.busy u in rw (ne_eqb (s.busy - us) 0 (λ w. omega arith)) (rw z at k)

-- ---- waits, power cycles and cuts
by : (P : Chip → Type 0) (b : Bool) (x y : Chip) → (b ≡ false → P x) → (b ≡ true → P y) → P (cond b y x)
by P true x y f g = g refl
by P false x y f g = f refl

module _ (rec : Record) (x : Chip) where
  wait-fine : (us : ℕ) → Fine rec x.state x.page → Fine rec (wait_of rec x us).chip.state (wait_of rec x us).chip.page
  unfolding wait_of waited later
  wait-fine us p =
      by (λ (y : Chip). Fine rec y.state y.page) (is_done (chip_refusal rec x)) x (waited rec.model x us) (λ d. p)
      (λ d. by (λ (y : Chip). Fine rec y.state y.page) (eqb x.state.busy 0 || ltb us x.state.busy) (finished rec.model x) (chip_of (later x.state us) x.page x.cells)
      (λ t. finished-fine rec x p.sound) (λ t. record { sound = later-sound rec x.state p.sound us t; page-data = later-page rec.model x.state x.page us t p.page-data }))

  cycle-fine : Fine rec x.state x.page → Fine rec (power_of rec x.state x.page).state x.page
  unfolding power_of cycled
  cycle-fine p = go (is_done (power_refusal rec x.state x.page)) refl
    where
      go : (b : Bool) → is_done (power_refusal rec x.state x.page) ≡ b → Fine rec (cond b (cycled x.state) x.state) x.page
      go true d = record { sound = cycled-sound rec x.state p.sound; page-data = still-idle rec.model x.state (cycled x.state) x.page (cyclable rec x.state x.page d).idle refl p.page-data }
      go false d = p

  cut-call-fine : (pattern : List ℕ) → Fine rec x.state x.page → Fine rec (power_cut_of rec x pattern).chip.state (power_cut_of rec x pattern).chip.page
  unfolding power_cut_of
  cut-call-fine pattern p =
      by (λ (y : Chip). Fine rec y.state y.page) (is_done (cut_refusal rec x pattern)) x (cut_off rec.model x pattern) (λ d. p) (λ d. cut-fine rec x pattern p.sound)

  -- the array
  wait-length : (us : ℕ) → length (wait_of rec x us).chip.cells ≡ length x.cells
  unfolding wait_of waited finished
  wait-length us =
      by (λ (y : Chip). length y.cells ≡ length x.cells) (is_done (chip_refusal rec x)) x (waited rec.model x us) (λ d. refl)
      (λ d. by (λ (y : Chip). length y.cells ≡ length x.cells) (eqb x.state.busy 0 || ltb us x.state.busy) (finished rec.model x) (chip_of (later x.state us) x.page x.cells)
      (λ t. let r = ready rec x (chip-fits rec x d) in (finished-only rec.model (runs_at x.state) x.page x.cells r.whole (runs rec.model x.state) r.placed).long) (λ t. refl))

  cut-length : (pattern : List ℕ) → length (power_cut_of rec x pattern).chip.cells ≡ length x.cells
  unfolding power_cut_of cut_off torn_chip
  cut-length pattern =
      by (λ (y : Chip). length y.cells ≡ length x.cells) (is_done (cut_refusal rec x pattern)) x (cut_off rec.model x pattern) (λ d. refl)
      (λ d. let c = cuttable rec x pattern d in let r = ready rec x c.fit in (cut-only rec.model (runs_at x.state) x.page x.cells r.whole pattern (runs rec.model x.state) r.placed c.long).long)

-- any call
module _ (rec : Record) (seen : List Call) where
  pub call-fine : (c : Call) (x : Chip) → Fine rec x.state x.page → Fine rec (after ours rec seen c x).state (after ours rec seen c x).page
  unfolding after
  call-fine (sends f) x p = frame-fine rec x p f
  call-fine (waits us) x p = wait-fine rec x us p
  call-fine cycles x p = cycle-fine rec x p
  call-fine (cuts pattern) x p = cut-call-fine rec x pattern p

  pub call_length : (c : Call) (x : Chip) → length (after ours rec seen c x).cells ≡ length x.cells
  unfolding after
  call_length (sends f) x = refl
  call_length (waits us) x = wait-length rec x us
  call_length cycles x = refl
  call_length (cuts pattern) x = cut-length rec x pattern

pub power-on-fine : (rec : Record) → Fine rec power_on blank_page
power-on-fine rec =
    record {
      sound = record { level = omega arith; register = config-0-ok (model_of rec.model).register; settle = omega arith; mood = inl (record { idle = refl; command = refl; address = refl }) };
      page-data = blank_ok rec.model power_on refl;
    }
