-- Laws of records and states that the layers above cite.
use mathlib.Core.Path.{◌≡◌, refl, ◌∙◌}
use mathlib.Core.Bool.{Bool, true, false, not, ◌&&◌, cond}
use mathlib.Core.Logic.{◌⊎◌, inl, inr, ⊎_elim}
use mathlib.Core.List.{List, [], ◌∷◌, ◌++◌}
use Prim.Native.Nat.{ℕ, zero, suc, ◌*◌, ◌/◌, ◌%◌, max, ◌≤◌, ◌<◌}
use native.Mathlib.Nat.{le_refl, le_trans, le_of_lt, le-max_left, le-max_right, max-le, max-eq_left, max-eq_right, not-suc-le-zero, le_of_suc-le-suc}
use native.Mathlib.Omega.{arith}
use lib.Dec.{eqb, leb, lit≤}
use lib.ListN.{length, get_or, replicate}
use Rattle.parts.specs.Parts.{all_are}
use Rattle.commands.specs.Commands.{started_by}
use Rattle.std.specs.Prelude.{Option, Some, None}
use Rattle.commands.specs.declared.Operation.{Operation}
use Rattle.commands.specs.declared.Operation.TheVariants.{WritesStatus, Programs, ErasesSector, ErasesHalf, ErasesBlock, ErasesChip}
use borrow.Author.Tests.{eqb-true, eqb-false, leb-true, leb-false, not-true, eq-eqb, ne_eqb, le-leb}
use Rattle.models.specs.Models.{is_model, part_of, model_of}
use Rattle.units.proofs.Bools.{both}
use Rattle.states.specs.States.{common_times, busy_times, settle_times, times_of, in_range, all, half_ok, record_ok, largest, longest_busy, longest_settle, longest_of, config_ok, no_command, no_address, operation_time, place_ok, level_ok, idle_ok, runs_ok, busy_ok, state_ok, used_page, page_fits, page_ok, blank_page}
use Rattle.states.specs.declared.Record.{Record}
use Rattle.states.specs.declared.State.{State}

-- a list that is one byte over and over
all_same : (xs : List ℕ) (n : ℕ) → length xs ≡ n → all_are 0xFF xs ≡ true → xs ≡ replicate n 0xFF
all_same [] zero l e = refl
all_same [] (suc n) l e = absurd (omega arith)
all_same (x ∷ xs) zero l e = absurd (omega arith)
all_same (x ∷ xs) (suc n) l e =
    let k = both (eqb x 0xFF) (all_are 0xFF xs) e in
    rw (eqb-true x 0xFF k.0, all_same xs n (omega arith) k.1)

-- a valid state, in parts: what an idle chip and what a busy one is like
pub record Resting (s : State) : Type 0 where
  pub idle : s.busy ≡ 0
  pub command : s.command ≡ no_command
  pub address : s.address ≡ no_address

pub record Running (rec : Record) (s : State) : Type 0 where
  pub busy : 0 < s.busy
  pub time : s.busy ≤ operation_time rec (started_by rec.model s.command)
  pub place : place_ok rec.model (started_by rec.model s.command) s.address ≡ true
  pub latch : s.wel ≡ true
  pub awake : s.asleep ≡ false
  pub settled : s.settle ≡ 0

pub record Sound (rec : Record) (s : State) : Type 0 where
  pub level : s.bp ≤ (model_of rec.model).highest_bp
  pub register : config_ok (model_of rec.model).register s.config ≡ true
  pub settle : s.settle ≤ longest_settle rec
  pub mood : Resting s ⊎ Running rec s

module _ (rec : Record) (s : State) where
  resting : s.busy ≡ 0 → idle_ok rec s ≡ true → (s.settle ≤ longest_settle rec) × Resting s
  unfolding idle_ok
  resting z e =
      let k = both (leb s.settle (longest_settle rec)) _ e in
      let l = both (eqb s.command no_command) (eqb s.address no_address) k.1 in
      (leb-true s.settle (longest_settle rec) k.0, record { idle = z; command = eqb-true s.command no_command l.0; address = eqb-true s.address no_address l.1 })

  running : (s.busy ≡ 0 → ⊥) → busy_ok rec s ≡ true → Running rec s
  unfolding busy_ok
  running z e =
      let op = started_by rec.model s.command in
      let k = both (leb s.busy (operation_time rec op) && place_ok rec.model op s.address) _ e in
      let l = both (leb s.busy (operation_time rec op)) (place_ok rec.model op s.address) k.0 in
      let m = both (s.wel && not s.asleep) (eqb s.settle 0) k.1 in
      let a = both s.wel (not s.asleep) m.0 in
      record { busy = omega arith; time = leb-true s.busy (operation_time rec op) l.0; place = l.1; latch = a.0; awake = not-true s.asleep a.1; settled = eqb-true s.settle 0 m.1 }

pub sound : (rec : Record) (s : State) → state_ok rec s ≡ true → Sound rec s
unfolding state_ok
sound rec s e = go (eqb s.busy 0) refl k.1
  where
    k : ((leb s.bp (model_of rec.model).highest_bp && config_ok (model_of rec.model).register s.config) ≡ true) × (cond (eqb s.busy 0) (idle_ok rec s) (busy_ok rec s) ≡ true)
    k = both (leb s.bp (model_of rec.model).highest_bp && config_ok (model_of rec.model).register s.config) (cond (eqb s.busy 0) (idle_ok rec s) (busy_ok rec s)) e

    m : (leb s.bp (model_of rec.model).highest_bp ≡ true) × (config_ok (model_of rec.model).register s.config ≡ true)
    m = both (leb s.bp (model_of rec.model).highest_bp) (config_ok (model_of rec.model).register s.config) k.0

    go : (b : Bool) → eqb s.busy 0 ≡ b → cond b (idle_ok rec s) (busy_ok rec s) ≡ true → Sound rec s
    go true z t =
        let r = resting rec s (eqb-true s.busy 0 z) t in
        record { level = leb-true s.bp (model_of rec.model).highest_bp m.0; register = m.1; settle = r.0; mood = inl r.1 }
    go false z t =
        let r = running rec s (eqb-false s.busy 0 z) t in
        record { level = leb-true s.bp (model_of rec.model).highest_bp m.0; register = m.1; settle = omega (arith, r.settled); mood = inr r }

-- and back
pub valid : (rec : Record) (s : State) → Sound rec s → state_ok rec s ≡ true
unfolding state_ok idle_ok busy_ok
valid rec s p =
    rw (le-leb s.bp (model_of rec.model).highest_bp p.level, p.register)
    (⊎_elim
    (λ q. rw (eq-eqb s.busy 0 q.idle, le-leb s.settle (longest_settle rec) p.settle, eq-eqb s.command no_command q.command, eq-eqb s.address no_address q.address))
    (λ q. rw (ne_eqb s.busy 0 (λ z. omega (arith, q.busy)), le-leb s.busy (operation_time rec (started_by rec.model s.command)) q.time, q.place, q.latch, q.awake, eq-eqb s.settle 0 q.settled))
    p.mood)

-- by what runs: the state of a chip that is not busy, and of a busy one
module _ (rec : Record) (s : State) where
  pub idle-state : s.busy ≡ 0 → state_ok rec s ≡ (level_ok rec.model s && idle_ok rec s)
  unfolding state_ok
  idle-state z = rw (eq-eqb s.busy 0 z)

  pub busy-state : {op : Option Operation} → (s.busy ≡ 0 → ⊥) → op ≡ started_by rec.model s.command → state_ok rec s ≡ (level_ok rec.model s && runs_ok rec s op)
  unfolding state_ok busy_ok
  busy-state z e = rw (ne_eqb s.busy 0 z, e)

-- ---- the page data
-- by what runs
module _ (n : ℕ) (s : State) (page : List ℕ) where
  pub idle-page : s.busy ≡ 0 → page_ok n s page ≡ page_fits None s.address page
  unfolding page_ok used_page
  idle-page z = rw (eq-eqb s.busy 0 z)

  pub busy-page : {op : Option Operation} → (s.busy ≡ 0 → ⊥) → op ≡ started_by n s.command → page_ok n s page ≡ page_fits op s.address page
  unfolding page_ok used_page
  busy-page z e = rw (ne_eqb s.busy 0 z, e)

  pub page-length : page_ok n s page ≡ true → length page ≡ 256
  unfolding page_ok
  page-length e = eqb-true (length page) 256 (both (eqb (length page) 256) _ e).0

  -- an idle chip's are blank
  pub blank-page : page_ok n s page ≡ true → s.busy ≡ 0 → page ≡ blank_page
  unfolding page_ok used_page
  blank-page e z =
      let k = both (eqb (length page) 256) _ e in
      all_same page 256 (eqb-true (length page) 256 k.0) (rw (eq-eqb s.busy 0 z) at k.1)

pub blank_ok : (n : ℕ) (s : State) → s.busy ≡ 0 → page_ok n s blank_page ≡ true
unfolding page_ok used_page
blank_ok n s z = rw (eq-eqb s.busy 0 z)

-- ---- the register
pub config-0-ok : (r : Bool) → config_ok r 0 ≡ true
unfolding config_ok
config-0-ok true = refl
config-0-ok false = refl

-- with all of it cleared but TB it is still in its range
pub only-tb-ok : (r : Bool) (c : ℕ) → config_ok r c ≡ true → config_ok r (c / 8 % 2 * 8) ≡ true
unfolding config_ok
only-tb-ok true c h =
    let a : c / 8 % 2 * 8 / 32 % 2 ≡ 0 = omega arith in
    let b : c / 8 % 2 * 8 / 4 % 2 ≡ 0 = omega arith in
    rw (a, b)
only-tb-ok false c h = let z = eqb-true c 0 h in eq-eqb (c / 8 % 2 * 8) 0 (omega arith)

-- ---- the times
-- every time is at most the longest
le-largest : (xs : List ℕ) (k : ℕ) → get_or xs k 0 ≤ largest xs
le-largest [] k = omega arith
le-largest (x ∷ xs) zero = le-max_left x (largest xs)
le-largest (x ∷ xs) (suc k) = le_trans (le-largest xs k) (le-max_right x (largest xs))

time-le : (r : Record) (k : ℕ) → get_or (busy_times r) k 0 ≤ longest_busy r
unfolding longest_busy
time-le r k = le-largest (busy_times r) k

settle-le : (r : Record) (k : ℕ) → get_or (settle_times r) k 0 ≤ longest_settle r
unfolding longest_settle
settle-le r k = le-largest (settle_times r) k

-- the largest of two lists bounds that of each
left_le : (xs ys : List ℕ) → largest xs ≤ largest (xs ++ ys)
left_le [] ys = omega arith
left_le (x ∷ xs) ys = max-le (le-max_left x (largest (xs ++ ys))) (le_trans (left_le xs ys) (le-max_right x (largest (xs ++ ys))))

right_le : (xs ys : List ℕ) → largest ys ≤ largest (xs ++ ys)
right_le [] ys = le_refl (largest ys)
right_le (x ∷ xs) ys = le_trans (right_le xs ys) (le-max_right x (largest (xs ++ ys)))

pub busy-le-all : (r : Record) → longest_busy r ≤ longest_of r
unfolding longest_busy longest_of
busy-le-all r = left_le (busy_times r) (settle_times r)

pub settle-le-all : (r : Record) → longest_settle r ≤ longest_of r
unfolding longest_settle longest_of
settle-le-all r = right_le (busy_times r) (settle_times r)

module _ (r : Record) where
  pub status-write-le : r.status_write ≤ longest_busy r
  status-write-le = time-le r 0

  pub page-le : r.page ≤ longest_busy r
  page-le = time-le r 1

  pub sector-le : r.sector ≤ longest_busy r
  sector-le = time-le r 2

  pub block-le : r.block ≤ longest_busy r
  block-le = time-le r 3

  pub chip-le : r.chip ≤ longest_busy r
  chip-le = time-le r 4

  pub half_le : r.half ≤ longest_busy r
  half_le = time-le r 5

  pub operation-le : (op : Option Operation) → operation_time r op ≤ longest_busy r
  operation-le None = omega arith
  operation-le (Some WritesStatus) = status-write-le
  operation-le (Some Programs) = page-le
  operation-le (Some ErasesSector) = sector-le
  operation-le (Some ErasesHalf) = half_le
  operation-le (Some ErasesBlock) = block-le
  operation-le (Some ErasesChip) = chip-le

  pub sleep-le : r.sleep ≤ longest_settle r
  sleep-le = settle-le r 0

  pub wake-le : r.wake ≤ longest_settle r
  wake-le = settle-le r 1

  pub sign_le : r.sign ≤ longest_settle r
  sign_le = settle-le r 2

-- and it is one of the two
largest-append : (xs ys : List ℕ) → largest (xs ++ ys) ≡ max (largest xs) (largest ys)
largest-append [] ys = omega arith
largest-append (x ∷ xs) ys = let e = largest-append xs ys in omega arith

pub longest-either : (r : Record) → (longest_of r ≡ longest_busy r) ⊎ (longest_of r ≡ longest_settle r)
unfolding longest_of longest_busy longest_settle
longest-either r = go (leb (largest (settle_times r)) (largest (busy_times r))) refl
  where
    e : largest (times_of r) ≡ max (largest (busy_times r)) (largest (settle_times r))
    e = largest-append (busy_times r) (settle_times r)

    go : (b : Bool) → leb (largest (settle_times r)) (largest (busy_times r)) ≡ b → (largest (times_of r) ≡ largest (busy_times r)) ⊎ (largest (times_of r) ≡ largest (settle_times r))
    go true t = inl (e ∙ max-eq_left (leb-true (largest (settle_times r)) (largest (busy_times r)) t))
    go false t = inr (e ∙ max-eq_right (le_of_lt (leb-false (largest (settle_times r)) (largest (busy_times r)) t)))

-- the longest is one of them: what follows from each of them follows
abbrev pub Each : (ℕ → Type 0) → List ℕ → Type 0
Each F [] = Unit {0}
Each F (x ∷ xs) = F x × Each F xs

by-largest : {P : Type 0} (m : ℕ) (xs : List ℕ) → 0 < m → m ≡ largest xs → Each (λ (x : ℕ). m ≡ x → P) xs → P
by-largest m [] h e f = absurd (omega arith)
by-largest {P} m (x ∷ xs) h e f = go (leb (largest xs) x) refl (λ g. by-largest m xs h g f.1)
  where
    go : (b : Bool) → leb (largest xs) x ≡ b → (m ≡ largest xs → P) → P
    go true t rest = f.0 (e ∙ max-eq_left (leb-true (largest xs) x t))
    go false t rest = rest (e ∙ max-eq_right (le_of_lt (leb-false (largest xs) x t)))

pub by-longest : {P : Type 0} (r : Record) → 0 < longest_of r → Each (λ (us : ℕ). longest_of r ≡ us → P) (times_of r) → P
unfolding longest_of
by-longest r h f = by-largest (longest_of r) (times_of r) h refl f

-- the times of a record that is taken are in range
pub record InRange (us : ℕ) : Type 0 where
  pub some : 0 < us
  pub short : us ≤ 1000000000

ranged : (us : ℕ) → in_range us ≡ true → InRange us
unfolding in_range
ranged us e = let b = both (leb 1 us) (leb us 1000000000) e in record { some = leb-true 1 us b.0; short = leb-true us 1000000000 b.1 }

all-ranged : (xs : List ℕ) → all in_range xs ≡ true → (k : ℕ) → k < length xs → InRange (get_or xs k 0)
all-ranged [] e k h = absurd (not-suc-le-zero h)
all-ranged (x ∷ xs) e zero h = ranged x (both (in_range x) (all in_range xs) e).0
all-ranged (x ∷ xs) e (suc k) h = all-ranged xs (both (in_range x) (all in_range xs) e).1 k (le_of_suc-le-suc h)

-- a good record, in parts
record Good (r : Record) : Type 0 where
  five : all in_range (common_times r) ≡ true
  last : half_ok r.model r.half ≡ true
  three : all in_range (settle_times r) ≡ true

good : (r : Record) → record_ok r ≡ true → Good r
unfolding record_ok
good r e =
    let a = both (is_model r.model) (all in_range (common_times r) && (half_ok r.model r.half && all in_range (settle_times r))) e in
    let b = both (all in_range (common_times r)) _ a.1 in
    let c = both (half_ok r.model r.half) (all in_range (settle_times r)) b.1 in
    record { five = b.0; last = c.0; three = c.1 }

time-in-range : (r : Record) → record_ok r ≡ true → (k : ℕ) → k < length (common_times r) → InRange (get_or (common_times r) k 0)
time-in-range r e k h = all-ranged (common_times r) (good r e).five k h

-- the sixth time: a model that has one has the erase of a half block
pub has-half : (r : Record) → record_ok r ≡ true → 0 < r.half → (model_of r.model).half_erase ≡ true
unfolding half_ok
has-half r e h = go (model_of r.model).half_erase refl (good r e).last
  where
    go : (b : Bool) → (model_of r.model).half_erase ≡ b → cond b (in_range r.half) (eqb r.half 0) ≡ true → (model_of r.model).half_erase ≡ true
    go true p t = p
    go false p t = let z = eqb-true r.half 0 t in absurd (omega arith)

-- and on model 3 it is one of them
pub half-some : (r : Record) → record_ok r ≡ true → r.model ≡ 3 → 0 < r.half
unfolding half_ok part_of
half-some r e m =
    let t : (model_of r.model).half_erase ≡ true = rw m in
    (ranged r.half (rw t at (good r e).last)).some

half-short : (r : Record) → record_ok r ≡ true → r.half ≤ 1000000000
unfolding half_ok
half-short r e = go (model_of r.model).half_erase (good r e).last
  where
    go : (b : Bool) → cond b (in_range r.half) (eqb r.half 0) ≡ true → r.half ≤ 1000000000
    go true t = (ranged r.half t).short
    go false t = let z = eqb-true r.half 0 t in omega arith

pub record Times (r : Record) : Type 0 where
  pub status : 0 < r.status_write
  pub page : 0 < r.page
  pub sector : 0 < r.sector
  pub block : 0 < r.block
  pub chip : 0 < r.chip
  pub sleep : 0 < r.sleep
  pub wake : 0 < r.wake
  pub sign : 0 < r.sign

pub times : (r : Record) → record_ok r ≡ true → Times r
times r e =
    record {
      status = (time-in-range r e 0 (lit≤ tt)).some;
      page = (time-in-range r e 1 (lit≤ tt)).some;
      sector = (time-in-range r e 2 (lit≤ tt)).some;
      block = (time-in-range r e 3 (lit≤ tt)).some;
      chip = (time-in-range r e 4 (lit≤ tt)).some;
      sleep = (all-ranged (settle_times r) (good r e).three 0 (lit≤ tt)).some;
      wake = (all-ranged (settle_times r) (good r e).three 1 (lit≤ tt)).some;
      sign = (all-ranged (settle_times r) (good r e).three 2 (lit≤ tt)).some;
    }

-- a busy time of a valid state is at most the longest
pub busy-le : (r : Record) (s : State) → Sound r s → s.busy ≤ longest_busy r
busy-le r s p = ⊎_elim (λ q. omega (arith, q.idle)) (λ q. le_trans q.time (operation-le r (started_by r.model s.command))) p.mood

-- and so is the longest
Short : List ℕ → Type 0
Short [] = Unit {0}
Short (x ∷ xs) = (x ≤ 1000000000) × Short xs

largest-short : (xs : List ℕ) → Short xs → largest xs ≤ 1000000000
unfolding Short
largest-short [] h = omega arith
largest-short (x ∷ xs) h = max-le h.0 (largest-short xs h.1)

all_short : (xs ys : List ℕ) → all in_range xs ≡ true → Short ys → Short (xs ++ ys)
unfolding Short
all_short [] ys e h = h
all_short (x ∷ xs) ys e h = let b = both (in_range x) (all in_range xs) e in ((ranged x b.0).short, all_short xs ys b.1 h)

pub longest-in-range : (r : Record) → record_ok r ≡ true → InRange (longest_of r)
unfolding longest_of Short
longest-in-range r e =
    record {
      some = le_trans (times r e).status (le_trans (status-write-le r) (busy-le-all r));
      short =
          largest-short (times_of r)
          (all_short (common_times r) (r.half ∷ settle_times r) (good r e).five (half-short r e, all_short (settle_times r) [] (good r e).three tt));
    }
