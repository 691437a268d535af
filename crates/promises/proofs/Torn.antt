-- The statements of `specs/Torn.antt`.
use Rattle.std.specs.Prelude.{Option, Some, None}
use mathlib.Core.Path.{◌≡◌, refl, sym, ap, ap₂, ◌∙◌}
use mathlib.Core.Bool.{Bool, true, false, not, false≢true}
use mathlib.Core.List.{List, [], ◌∷◌}
use mathlib.Core.Logic.{⊎_elim}
use Prim.Native.Nat.{ℕ, zero, suc, ◌+◌, ◌*◌, ◌/◌, ◌%◌, ◌≤◌, ◌<◌}
use native.Mathlib.Omega.{arith}
use lib.Dec.{eqb, ltb}
use lib.ListN.{length, get_or, take}
use lib.Seq.{get_or-take}
use borrow.Author.Tests.{eqb-true, ltb-true}
use Rattle.units.specs.declared.Address.{Address}
use Rattle.units.specs.Kinds.{sector_of, half_block_of, block_of, page_start, sector_start, half_block_start, block_start}
use Rattle.units.proofs.Bools.{both, either}
use Rattle.models.specs.Models.{model_of}
use Rattle.models.proofs.Rules.{highest-bp}
use Rattle.parts.specs.Parts.{Bytes, part}
use Rattle.cells.specs.Cell.{bit}
use Rattle.cells.proofs.Cell.{torn-bit}
use Rattle.answers.specs.Answers.{is_done}
use Rattle.commands.specs.declared.Operation.{Operation}
use Rattle.commands.specs.declared.Operation.TheVariants.{WritesStatus, Programs, ErasesSector, ErasesHalf, ErasesBlock, ErasesChip}
use Rattle.states.specs.States.{flag, tb_of, status_of, place_ok, Chip}
use Rattle.states.specs.declared.Record.{Record}
use Rattle.states.specs.declared.State.{State}
use Rattle.operations.specs.Operations.{unit_of, runs, runs_at, finished_cells, finished_bits, forgotten, finished, written, pattern_length, cut_cells, torn_bits, cut_bits, torn_chip}
use Rattle.operations.proofs.Fits.{page-fits, sector-fits, half-block-fits, block-fits}
use Rattle.operations.proofs.Patterns.{laid-part, torn-at}
use Rattle.operations.proofs.Bits.{torn-srwd, torn-bp, not-changed, srwd-old, bp-old, tb-old, srwd-new, bp-new, tb-new}
use Rattle.time.specs.Time.{cycled, cut_off, power_cut_of}
use Rattle.time.proofs.Time.{Cuttable, cuttable, ready, low-level}
use Rattle.promises.specs.Torn.{bit_left, is_erase, KeptBits, Unplugged, CutLeaves, PatternRead, PatternWritten}
use Rattle.promises.proofs.Laws.{cuts-only-its-unit}

-- ---- the cells
module _ (n : ℕ) (at : Address) (page cells pattern : List ℕ) (e : length cells ≡ (model_of n).length) where
  in_array : ltb at.0 (model_of n).length ≡ true → at.0 < length cells
  in_array p = omega (arith, ltb-true at.0 (model_of n).length p)

  program-bits : length page ≡ 256 → place_ok n (Some Programs) at.0 ≡ true → (k b : ℕ) → k < 256
      → bit b (get_or (part (cut_cells (Some Programs) at page pattern cells) (page_start at) 256) k 0)
      ≡ bit_left (bit b (get_or (part cells (page_start at) 256) k 0)) (bit b (get_or (part (finished_cells (Some Programs) at page cells) (page_start at) 256) k 0)) (bit b (get_or pattern k 0))
  program-bits l p k b m = ap (bit b) (torn-at cells at page (page-fits n cells at (in_array p) e) l pattern k m) ∙ torn-bit b _ _ _

  erased-unit : (op : Option Operation) → is_erase op ≡ true → place_ok n op at.0 ≡ true → length pattern ≡ pattern_length op at.0 (length cells)
      → part (cut_cells op at page pattern cells) (unit_of op at (length cells)).start (unit_of op at (length cells)).size ≡ pattern
  erased-unit None i p l = absurd (false≢true i)
  erased-unit (Some WritesStatus) i p l = absurd (false≢true i)
  erased-unit (Some Programs) i p l = absurd (false≢true i)
  erased-unit (Some ErasesSector) i p l = laid-part cells (sector_start (sector_of at)) 4096 (sector-fits n cells at (in_array p) e).1 pattern l
  erased-unit (Some ErasesHalf) i p l = laid-part cells (half_block_start (half_block_of at)) 32768 (half-block-fits n cells at (in_array p) e).1 pattern l
  erased-unit (Some ErasesBlock) i p l = laid-part cells (block_start (block_of at)) 65536 (block-fits n cells at (in_array p) e).1 pattern l
  erased-unit (Some ErasesChip) i p l = laid-part cells 0 (length cells) (omega arith) pattern l

-- ---- the kept bits
tb-flag : (s : State) → flag (tb_of s) 1 ≡ bit 3 s.config
unfolding tb_of
tb-flag s = go (s.config / 8 % 2) (omega arith)
  where
    go : (b : ℕ) → b < 2 → flag (eqb b 1) 1 ≡ b
    go zero l = refl
    go (suc zero) l = refl
    go (suc (suc b)) l = absurd (omega arith)

pub cycle-keeps-tb : (s : State) → tb_of (cycled s) ≡ tb_of s
unfolding tb_of cycled
cycle-keeps-tb s = let e : s.config / 8 % 2 * 8 / 8 % 2 ≡ s.config / 8 % 2 = omega arith in rw e

cycled-twice : (s : State) → cycled (cycled s) ≡ cycled s
unfolding cycled
cycled-twice s = let e : s.config / 8 % 2 * 8 / 8 % 2 ≡ s.config / 8 % 2 = omega arith in rw e

-- from t, which an operation that was to come from s to w left when it was cut
kept_by : (s w t : State) (pattern : List ℕ) → flag t.srwd 1 ≡ bit_left (flag s.srwd 1) (flag w.srwd 1) (bit 7 (get_or pattern 0 0))
    → ((b : ℕ) → bit b t.bp ≡ bit_left (bit b s.bp) (bit b w.bp) (bit b (get_or pattern 0 0 / 4)))
    → bit 3 t.config ≡ bit_left (bit 3 s.config) (bit 3 w.config) (bit 3 (get_or pattern 1 0)) → KeptBits s (forgotten w) pattern (cycled t)
unfolding forgotten cycled
kept_by s w t pattern p q r =
    record { srwd = p; bp = q; tb = ap (λ (b : Bool). flag b 1) (cycle-keeps-tb t) ∙ tb-flag t ∙ r ∙ sym (ap₂ (λ (a b : ℕ). bit_left a b (bit 3 (get_or pattern 1 0))) (tb-flag s) (tb-flag (forgotten w))) }

-- no kept bit was to change
same_bits : (s : State) (pattern : List ℕ) → KeptBits s (forgotten s) pattern (cycled s)
same_bits s pattern = kept_by s s s pattern (sym (not-changed _ _)) (λ b. sym (not-changed _ _)) (sym (not-changed _ _))

module _ (n : ℕ) (s : State) (page pattern : List ℕ) (level : s.bp ≤ (model_of n).highest_bp) where
  kept-bits : (op : Option Operation) → KeptBits s (forgotten (finished_bits n op s page)) pattern (cycled (cut_bits n op s page pattern))
  unfolding torn_bits
  kept-bits None = same_bits s pattern
  kept-bits (Some WritesStatus) =
      kept_by s (written n s page) (torn_bits n s page pattern) pattern (torn-srwd n s page pattern level) (λ b. ap (bit b) (torn-bp n s page pattern level) ∙ torn-bit b _ _ _)
      (torn-bit 3 s.config (written n s page).config (get_or pattern 1 0))
  kept-bits (Some Programs) = same_bits s pattern
  kept-bits (Some ErasesSector) = same_bits s pattern
  kept-bits (Some ErasesHalf) = same_bits s pattern
  kept-bits (Some ErasesBlock) = same_bits s pattern
  kept-bits (Some ErasesChip) = same_bits s pattern

-- ---- all of it
module _ (rec : Record) (x : Chip) (pattern : List ℕ) (d : is_done (power_cut_of rec x pattern).answer ≡ true) where
  cut-is : (power_cut_of rec x pattern).chip ≡ cut_off rec.model x pattern
  unfolding power_cut_of
  cut-is = rw d

  taken : Cuttable rec x pattern
  unfolding power_cut_of
  taken = cuttable rec x pattern d

  unplugged : Unplugged rec x (finished rec.model x) pattern (cut_off rec.model x pattern)
  unfolding cut_off torn_chip finished
  unplugged =
      let r = ready rec x taken.fit in
      let at = runs_at x.state in
      record {
        program = λ e k b l. rw e (program-bits rec.model at x.page x.cells pattern r.whole r.page-data (rw e at r.placed) k b l);
        erase = λ i. erased-unit rec.model at x.page x.cells pattern r.whole (runs rec.model x.state) i r.placed taken.long;
        outside = λ k o. ap (λ (y : Chip). get_or y.cells k 0) (sym cut-is) ∙ cuts-only-its-unit rec x pattern k o;
        kept = kept-bits rec.model x.state x.page pattern (low-level rec x taken.fit) (runs rec.model x.state);
        rest = cycled-twice _;
        page = refl;
      }

pub cut-leaves : CutLeaves
cut-leaves rec x pattern d = rw (cut-is rec x pattern d) (unplugged rec x pattern d)

-- ---- two patterns of a status write
-- the status byte has SRWD and BP at their places
low_bits : (a b : Bool) → flag a 2 + flag b 1 < 4
low_bits true true = omega arith
low_bits true false = omega arith
low_bits false true = omega arith
low_bits false false = omega arith

status-srwd : (a : Bool) (bp low : ℕ) → bp < 16 → low < 4 → bit 7 (flag a 128 + (4 * bp + low)) ≡ flag a 1
status-srwd true bp low l m = omega arith
status-srwd false bp low l m = omega arith

status-bp : (a : Bool) (bp low : ℕ) → bp < 16 → low < 4 → (flag a 128 + (4 * bp + low)) / 4 % 16 ≡ bp
status-bp true bp low l m = omega arith
status-bp false bp low l m = omega arith

-- a power cycle looks at SRWD, BP and TB only
cycled-by : (s t : State) → t.srwd ≡ s.srwd → t.bp ≡ s.bp → bit 3 t.config ≡ bit 3 s.config → cycled t ≡ cycled s
unfolding cycled
cycled-by s t p q r = rw (p, q, r)

-- a status write has a data byte
some_byte : (n place : ℕ) → place_ok n (Some WritesStatus) place ≡ true → 0 < place
some_byte n place p =
    ⊎_elim (λ e. omega (arith, eqb-true place 1 e)) (λ e. omega (arith, eqb-true place 2 (both (model_of n).register (eqb place 2) e).1)) (either (eqb place 1) _ p)

module _ (rec : Record) (x : Chip) (pattern : List ℕ) (e : runs rec.model x.state ≡ Some WritesStatus) (d : is_done (power_cut_of rec x pattern).answer ≡ true) where
  abbrev s : State
  s = x.state

  torn-is : (power_cut_of rec x pattern).chip.state ≡ cycled (torn_bits rec.model s x.page pattern)
  unfolding cut_off torn_chip
  torn-is = ap (λ (y : Chip). y.state) (cut-is rec x pattern d) ∙ rw e

  level : s.bp ≤ (model_of rec.model).highest_bp
  level = low-level rec x (taken rec x pattern d).fit

  some : 0 < s.address
  some = some_byte rec.model s.address (rw e at (ready rec x (taken rec x pattern d).fit).placed)

  reads_old : pattern ≡ take s.address (status_of s ∷ s.config ∷ []) → (power_cut_of rec x pattern).chip.state ≡ cycled s
  unfolding status_of
  reads_old i =
      let l : s.bp < 16 = omega (arith, highest-bp rec.model, level) in
      let m = low_bits s.wel (not (eqb s.busy 0)) in
      let first : get_or pattern 0 0 ≡ status_of s = ap (λ (z : List ℕ). get_or z 0 0) i ∙ get_or-take s.address (status_of s ∷ s.config ∷ []) 0 0 some in
      torn-is
      ∙ cycled-by s (torn_bits rec.model s x.page pattern)
      (srwd-old rec.model s x.page pattern level (rw first (status-srwd s.srwd s.bp _ l m)))
      (bp-old rec.model s x.page pattern level (rw first (status-bp s.srwd s.bp _ l m)))
      (tb-old rec.model s x.page pattern level (λ two. ap (λ (z : List ℕ). get_or z 1 0) i ∙ get_or-take s.address (status_of s ∷ s.config ∷ []) 1 0 (omega arith)))

  writes-new : Bytes x.page → pattern ≡ take s.address x.page → (power_cut_of rec x pattern).chip.state ≡ cycled (finished rec.model x).state
  unfolding finished forgotten cycled
  writes-new b i =
      let same : (k : ℕ) → k < s.address → get_or pattern k 0 ≡ get_or x.page k 0 = λ k l. ap (λ (z : List ℕ). get_or z k 0) i ∙ get_or-take s.address x.page k 0 l in
      torn-is
      ∙ cycled-by (written rec.model s x.page) (torn_bits rec.model s x.page pattern)
      (srwd-new rec.model s x.page pattern level (same 0 some) (b.below 0))
      (bp-new rec.model s x.page pattern level (same 0 some))
      (tb-new rec.model s x.page pattern level (λ two. same 1 (omega arith)))
      ∙ rw e

pub pattern-read : PatternRead
pattern-read rec x e d = reads_old rec x _ e d refl

pub pattern-written : PatternWritten
pattern-written rec x e b d = writes-new rec x _ e d b refl
