-- What a wait or a cut that is not refused has shown of the chip, and what comes of each.
use Rattle.std.specs.Prelude.{Result, Ok, Err, Option, Some, None, is_some}
use mathlib.Core.Path.{◌≡◌, refl, sym, ap, ◌∙◌}
use mathlib.Core.Bool.{Bool, true, false, not, ◌&&◌, cond, false≢true, true≢false, and-false}
use mathlib.Core.List.{List}
use mathlib.Core.Logic.{⊎_elim}
use Prim.Native.Nat.{ℕ, ◌≤◌}
use lib.Dec.{eqb}
use lib.ListN.{length}
use native.Mathlib.Omega.{arith}
use native.Mathlib.Nat.{pos_of_ne-zero}
use borrow.Author.Tests.{lt-leb, eqb-true, eq-eqb, ne_eqb, not-false}
use Rattle.units.proofs.Bools.{both}
use Rattle.models.specs.Models.{model_of}
use Rattle.answers.specs.Answers.{Answer, Done, is_done}
use Rattle.answers.specs.declared.Refusal.{Refusal}
use Rattle.answers.specs.declared.Refusal.TheVariants.{BadRecord, BadArray, BadState, Busy, BadPattern}
use Rattle.answers.specs.Tables.{first_of}
use Rattle.answers.proofs.Tables.{test_of, joined, row-clear}
use Rattle.commands.specs.Commands.{started_by}
use Rattle.commands.specs.declared.Operation.{Operation}
use Rattle.commands.proofs.Rows.{none-started}
use Rattle.states.specs.States.{record_ok, level_ok, idle_ok, runs_ok, state_ok, page_fits, page_ok, place_ok, Chip}
use Rattle.states.specs.declared.Record.{Record}
use Rattle.states.specs.declared.State.{State}
use Rattle.states.proofs.States.{sound, idle-state, busy-state, idle-page, busy-page, page-length, Resting}
use Rattle.operations.specs.Operations.{runs, pattern_length, finished, torn_chip}
use Rattle.operations.specs.ContractForms.{Operable, Left}
use Rattle.time.specs.Time.{later, nothing_ends, waited, cycled, cut_off, chip_rows, chip_refusal, fit_refusal, power_rows, power_refusal, pattern_rows, cut_refusal, unless, told, ended, power_of}
use Rattle.time.specs.ContractForms.{Ends}

-- record, array, state and page data fit
pub record Fit (rec : Record) (x : Chip) : Type 0 where
  pub right : record_ok rec ≡ true
  pub whole : length x.cells ≡ (model_of rec.model).length
  pub valid : state_ok rec x.state ≡ true
  pub page : page_ok rec.model x.state x.page ≡ true

-- whether state and page data fit, by the tests of a chip that is not busy, and by those of a busy one
abbrev pub Fits : Record → State → List ℕ → Bool → Type 0
Fits rec s page b = (state_ok rec s && page_ok rec.model s page) ≡ b

module _ (rec : Record) (s : State) (page : List ℕ) {a b : Bool} (t : Bool) where
  pub idle-fits : s.busy ≡ 0 → a ≡ (level_ok rec.model s && idle_ok rec s) → b ≡ page_fits None s.address page → (a && b) ≡ t → Fits rec s page t
  idle-fits z p q e =
      let k : state_ok rec s ≡ a = idle-state rec s z ∙ sym p in
      let l : page_ok rec.model s page ≡ b = idle-page rec.model s page z ∙ sym q in
      rw (k, l) e

  pub busy-fits : {op : Option Operation} → (s.busy ≡ 0 → ⊥) → op ≡ runs rec.model s → a ≡ (level_ok rec.model s && runs_ok rec s op) → b ≡ page_fits op s.address page → (a && b) ≡ t
      → Fits rec s page t
  busy-fits z o p q e =
      let k : state_ok rec s ≡ a = busy-state rec s z o ∙ sym p in
      let l : page_ok rec.model s page ≡ b = busy-page rec.model s page z o ∙ sym q in
      rw (k, l) e

-- no chip is busy with nothing
pub none-of : (op : Option Operation) → is_some op ≡ false → None ≡ op
none-of None e = refl
none-of (Some o) e = absurd (true≢false e)

pub busy-with-none : (rec : Record) (s : State) (page : List ℕ) → (s.busy ≡ 0 → ⊥) → None ≡ runs rec.model s → Fits rec s page false
busy-with-none rec s page z o = busy-fits rec s page false z o refl refl (rw (lt-leb s.busy 0 (pos_of_ne-zero z), and-false))

-- an idle chip whose state is valid runs nothing
idle-runs : (rec : Record) (s : State) → s.busy ≡ 0 → state_ok rec s ≡ true → runs rec.model s ≡ None
idle-runs rec s z v = ⊎_elim (λ q. ap (started_by rec.model) q.command ∙ none-started rec.model) (λ q. absurd (omega (arith, q.busy))) (sound rec s v).mood

pub idle-told : (rec : Record) (s : State) (page : List ℕ) → s.busy ≡ 0 → Fits rec s page true → Ok None ≡ told (fit_refusal rec s page) (runs rec.model s)
idle-told rec s page z f = rw (f, idle-runs rec s z (both (state_ok rec s) (page_ok rec.model s page) f).0)

-- ---- what a result has shown of the answer
module _ {T : Type 0} where
  answer_in : Result T Refusal → Answer
  answer_in (Ok x) = Done
  answer_in (Err r) = Err r

  value_in : T → Result T Refusal → T
  value_in v (Ok x) = x
  value_in v (Err r) = v

  answer-told : (a : Answer) (v : T) → answer_in (told a v) ≡ a
  unfolding answer_in
  answer-told (Ok x) v = refl
  answer-told (Err r) v = refl

  pub told-refused : (a : Answer) (v : T) {r : Refusal} → Err r ≡ told a v → a ≡ Err r
  unfolding answer_in
  told-refused a v e = sym (answer-told a v) ∙ ap answer_in (sym e)

  pub told-done : (a : Answer) (v : T) {w : T} → Ok w ≡ told a v → (a ≡ Done) × (w ≡ v)
  unfolding answer_in value_in
  told-done a v {w} e = let d : a ≡ Done = sym (answer-told a v) ∙ ap answer_in (sym e) in (d, ap (value_in v) (rw d at e))

-- what comes of a call that is refused, and of one that is not
module _ {a : Answer} (x y : Chip) where
  pub refused-ends : {r : Refusal} {k : Result State Refusal} → a ≡ Err r → k ≡ Err r → Ends (unless a x y) k x.page x.cells
  refused-ends e i = rw (e, i) (record { result-is = refl; page-is = refl; cells_are = refl })

  pub done-ends : {s : State} {page cells : List ℕ} → a ≡ Done → Left y s page cells → Ends (unless a x y) (Ok s) page cells
  done-ends e g = rw e (record { result-is = ap (λ (s : State). Ok s) g.state-is; page-is = g.page-is; cells_are = g.cells_are })

module _ (rec : Record) (x : Chip) where
  pub chip-fits : is_done (chip_refusal rec x) ≡ true → Fit rec x
  unfolding chip_refusal
  chip-fits d =
      let clear : (a : Refusal) → test_of a (chip_rows rec x) ≡ false = row-clear (chip_rows rec x) d in
      let ok = both (state_ok rec x.state) (page_ok rec.model x.state x.page) (not-false _ (clear BadState)) in
      record { right = not-false _ (clear BadRecord); whole = eqb-true _ _ (not-false _ (clear BadArray)); valid = ok.0; page = ok.1 }

  pub fit-taken : Fit rec x → chip_refusal rec x ≡ Done
  unfolding chip_refusal
  fit-taken f = rw (f.right, eq-eqb (length x.cells) (model_of rec.model).length f.whole, f.valid, f.page)

  -- its operation, if it runs one, has a fitting address
  placed : (s : State) → Resting s → place_ok rec.model (runs rec.model s) s.address ≡ true
  placed s q = rw (q.command, none-started rec.model, q.address)

  pub ready : Fit rec x → Operable rec.model x.state x.page x.cells
  ready f =
      record {
        whole = f.whole;
        placed = ⊎_elim (λ q. placed x.state q) (λ q. q.place) (sound rec x.state f.valid).mood;
        page-data = page-length rec.model x.state x.page f.page;
      }

  pub low-level : Fit rec x → x.state.bp ≤ (model_of rec.model).highest_bp
  low-level f = (sound rec x.state f.valid).level

  -- what the tests say, one after the other
  pub no_record : record_ok rec ≡ false → chip_refusal rec x ≡ Err BadRecord
  unfolding chip_refusal
  no_record r = rw r

  pub no-array : record_ok rec ≡ true → eqb (length x.cells) (model_of rec.model).length ≡ false → chip_refusal rec x ≡ Err BadArray
  unfolding chip_refusal
  no-array r w = rw (r, w)

  pub last_row : record_ok rec ≡ true → eqb (length x.cells) (model_of rec.model).length ≡ true → chip_refusal rec x ≡ fit_refusal rec x.state x.page
  unfolding chip_refusal
  last_row r w = rw (r, w)

  -- a wait in which nothing ends, and one in which the operation does
  pub rests : (us : ℕ) → nothing_ends x.state us ≡ true → Left (waited rec.model x us) (later x.state us) x.page x.cells
  unfolding waited
  rests us t = rw t (record { state-is = refl; page-is = refl; cells_are = refl })

  pub ends : (us : ℕ) {s : State} {page cells : List ℕ} → nothing_ends x.state us ≡ false → Left (finished rec.model x) s page cells → Left (waited rec.model x us) s page cells
  unfolding waited
  ends us t g = rw t g

-- ---- cuts
module _ (rec : Record) (x : Chip) (pattern : List ℕ) where
  pub record Cuttable : Type 0 where
    pub fit : Fit rec x
    pub long : length pattern ≡ pattern_length (runs rec.model x.state) x.state.address (length x.cells)

  -- the rows of the chip, and then that of the pattern
  pub cut_parts : cut_refusal rec x pattern ≡ cond (is_done (chip_refusal rec x)) (first_of (pattern_rows rec x pattern)) (chip_refusal rec x)
  unfolding cut_refusal chip_refusal
  cut_parts = joined (chip_rows rec x) (pattern_rows rec x pattern)

  pub cuttable : is_done (cut_refusal rec x pattern) ≡ true → Cuttable
  cuttable d = go (is_done (chip_refusal rec x)) (eqb (length pattern) (pattern_length (runs rec.model x.state) x.state.address (length x.cells))) refl refl (rw cut_parts at d)
    where
      go : (a b : Bool) → is_done (chip_refusal rec x) ≡ a → eqb (length pattern) (pattern_length (runs rec.model x.state) x.state.address (length x.cells)) ≡ b
          → is_done (cond a (cond (not b) (Err BadPattern) Done) (chip_refusal rec x)) ≡ true → Cuttable
      go true true p q f = record { fit = chip-fits rec x p; long = eqb-true (length pattern) _ q }
      go true false p q f = absurd (false≢true f)
      go false b p q f = absurd (false≢true (sym p ∙ f))

  -- what the tests say
  pub no-chip : {r : Refusal} → chip_refusal rec x ≡ Err r → cut_refusal rec x pattern ≡ Err r
  no-chip e = cut_parts ∙ rw e

  module _ (e : chip_refusal rec x ≡ Done) where
    pub no-pattern : (length pattern ≡ pattern_length (runs rec.model x.state) x.state.address (length x.cells) → ⊥) → cut_refusal rec x pattern ≡ Err BadPattern
    no-pattern l = rw (cut_parts, e, ne_eqb _ _ l)

    pub may-cut : length pattern ≡ pattern_length (runs rec.model x.state) x.state.address (length x.cells) → cut_refusal rec x pattern ≡ Done
    may-cut l = rw (cut_parts, e, eq-eqb _ _ l)

  pub cut-left : {s : State} {page cells : List ℕ} → Left (torn_chip rec.model x pattern) s page cells → Left (cut_off rec.model x pattern) (cycled s) page cells
  unfolding cut_off
  cut-left g = record { state-is = ap cycled g.state-is; page-is = g.page-is; cells_are = g.cells_are }

-- ---- power cycles
module _ (rec : Record) (s : State) (page : List ℕ) where
  pub power-record : record_ok rec ≡ false → power_refusal rec s page ≡ Err BadRecord
  unfolding power_refusal
  power-record r = rw r

  -- the rows of record and state, and then that of a busy chip
  pub power-parts : record_ok rec ≡ true → power_refusal rec s page ≡ cond (is_done (fit_refusal rec s page)) (cond (not (eqb s.busy 0)) (Err Busy) Done) (fit_refusal rec s page)
  unfolding power_refusal
  power-parts r = rw r (go (state_ok rec s && page_ok rec.model s page))
    where
      go : (b : Bool) → cond (not b) (Err BadState) (cond (not (eqb s.busy 0)) (Err Busy) Done)
          ≡ cond (is_done (cond (not b) (Err BadState) Done)) (cond (not (eqb s.busy 0)) (Err Busy) Done) (cond (not b) (Err BadState) Done)
      go true = refl
      go false = refl

  pub power-refused : {r : Refusal} → power_refusal rec s page ≡ Err r → Err r ≡ ended (power_of rec s page)
  unfolding power_of
  power-refused e = rw e

  pub power-done : {t : State} → t ≡ cycled s → power_refusal rec s page ≡ Done → Ok t ≡ ended (power_of rec s page)
  unfolding power_of
  power-done h e = rw (e, h)

-- one that is taken has found an idle chip, and the state and page data fit
pub record Cyclable (rec : Record) (s : State) (page : List ℕ) : Type 0 where
  pub right : record_ok rec ≡ true
  pub valid : state_ok rec s ≡ true
  pub page-data : page_ok rec.model s page ≡ true
  pub idle : s.busy ≡ 0

pub cyclable : (rec : Record) (s : State) (page : List ℕ) → is_done (power_refusal rec s page) ≡ true → Cyclable rec s page
unfolding power_refusal
cyclable rec s page d =
    let clear : (a : Refusal) → test_of a (power_rows rec s page) ≡ false = row-clear (power_rows rec s page) d in
    let ok = both (state_ok rec s) (page_ok rec.model s page) (not-false _ (clear BadState)) in
    record { right = not-false _ (clear BadRecord); valid = ok.0; page-data = ok.1; idle = eqb-true s.busy 0 (not-false _ (clear Busy)) }
