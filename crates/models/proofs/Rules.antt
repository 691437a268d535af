-- The statements of `specs/Rules.antt`. The two on the table rest on one computed test each.
use mathlib.Core.Path.{◌≡◌, refl, sym, ap, subst, ◌∙◌}
use mathlib.Core.Bool.{Bool, true, false, not, ◌&&◌, ◌||◌, cond, true≢false, false≢true}
use mathlib.Core.Logic.{⊎_elim}
use mathlib.Core.List.{List}
use Prim.Native.Nat.{ℕ, ◌+◌, ◌*◌, ◌-◌, ◌/◌, ◌%◌, ◌^◌, ◌≤◌, ◌<◌}
use native.Mathlib.Omega.{arith}
use lib.Dec.{eqb, leb, ltb}
use lib.ListN.{length, get_or, get_or-eq_default}
use borrow.Author.Tests.{eqb-true, eqb-false, leb-true, ltb-true, ltb-false, eq-eqb, ne_eqb, lt-ltb, le-ltb, not-true}
use Rattle.units.specs.declared.Sector.{Sector}
use Rattle.units.specs.declared.HalfBlock.{HalfBlock}
use Rattle.models.specs.declared.Range.{Range}
use Rattle.models.specs.Models.{Part, models, kh25l512, kh25l2006e, kh25l12845g, part_of, model_of, ranges_of, range_of, range}
use Rattle.models.specs.Rules.{RowRules, RangeRules, PageInBlock, SectorInBlock, HalfInBlock, BlockOfSector, BlockOfHalf, UnitsInside}
use Rattle.parts.proofs.Lay.{other-default}
use Rattle.units.proofs.Bools.{both, either, neither, unless}
use Rattle.models.proofs.Table.{every, at, found}

-- the row's test
row_test : Part → Bool
row_test p =
    eqb p.row.length (4096 * p.row.sectors)
    && (eqb p.row.length (32768 * p.row.half_blocks)
    && (eqb p.row.length (65536 * p.row.blocks) && (leb 65536 p.row.length && leb p.row.length 16777216)))

pub row-rules : RowRules
unfolding part_of row_test
row-rules n =
    let t = found row_test n kh25l512 models refl refl in
    let a = both (eqb (model_of n).length (4096 * (model_of n).sectors)) _ t in
    let h = both (eqb (model_of n).length (32768 * (model_of n).half_blocks)) _ a.1 in
    let b = both (eqb (model_of n).length (65536 * (model_of n).blocks)) _ h.1 in
    let c = both (leb 65536 (model_of n).length) _ b.1 in
    record {
      sectors = eqb-true _ _ a.0;
      half-blocks = eqb-true _ _ h.0;
      blocks = eqb-true _ _ b.0;
      some = leb-true _ _ c.0;
      reach = leb-true _ _ c.1;
    }

-- how many levels of BP have a range
abbrev levels : Part → Bool → ℕ
levels p tb = cond tb (cond p.row.register (p.row.highest_bp + 1) 0) (p.row.highest_bp + 1)

has-levels : (p : Part) (tb : Bool) → (tb ≡ true → p.row.register ≡ true) → levels p tb ≡ p.row.highest_bp + 1
has-levels p true h = rw (h refl)
has-levels p false h = refl

-- the test of a range at its TB and BP, and of a part's whole list of them
range_test : Part → Bool → ℕ → Range → Bool
range_test p tb bp r =
    leb (r.0.0 + r.1) p.row.blocks
    && (cond tb (eqb r.0.0 0) (eqb (r.0.0 + r.1) p.row.blocks)
    && (leb r.1 (get_or (ranges_of p tb) (bp + 1) r).1 && cond (eqb bp 0) (eqb r.1 0) (ltb 0 r.1)))

ranges_test : Bool → Part → Bool
ranges_test tb p = eqb (length (ranges_of p tb)) (levels p tb) && every (range_test p tb) 0 (ranges_of p tb)

ranges-test : (tb : Bool) (n : ℕ) → ranges_test tb (part_of n) ≡ true
unfolding part_of ranges_test range_test
ranges-test true n = found (ranges_test true) n kh25l512 models refl refl
ranges-test false n = found (ranges_test false) n kh25l512 models refl refl

empty-at-none : (b : Bool) (x : ℕ) → cond b (eqb x 0) (ltb 0 x) ≡ true → b ≡ true → x ≡ 0
empty-at-none true x t e = eqb-true x 0 t
empty-at-none false x t e = absurd (false≢true e)

some-above : (b : Bool) (x : ℕ) → cond b (eqb x 0) (ltb 0 x) ≡ true → b ≡ false → 0 < x
some-above true x t e = absurd (true≢false e)
some-above false x t e = ltb-true 0 x t

at_top : (tb : Bool) (x y : Bool) → cond tb x y ≡ true → tb ≡ false → y ≡ true
at_top true x y t e = absurd (true≢false e)
at_top false x y t e = t

at-bottom : (tb : Bool) (x y : Bool) → cond tb x y ≡ true → tb ≡ true → x ≡ true
at-bottom true x y t e = t
at-bottom false x y t e = absurd (false≢true e)

pub range-rules : RangeRules
unfolding ranges_test range_test range_of
range-rules n tb bp h k =
    let p : Part = part_of n in
    let rs : List Range = ranges_of p tb in
    let a = both (eqb (length rs) (levels p tb)) _ (ranges-test tb n) in
    let l : length rs ≡ p.row.highest_bp + 1 = eqb-true _ _ a.0 ∙ has-levels p tb k in
    let t = at (range_test p tb) rs (range 0 0) a.1 bp (omega arith) in
    let r : Range = range_of n tb bp in
    let i = both (leb (r.0.0 + r.1) p.row.blocks) _ t in
    let b = both (cond tb (eqb r.0.0 0) (eqb (r.0.0 + r.1) p.row.blocks)) _ i.1 in
    let d = both (leb r.1 (get_or rs (bp + 1) r).1) _ b.1 in
    record {
      inside = leb-true _ _ i.0;
      none = λ e. empty-at-none (eqb bp 0) r.1 d.1 (eq-eqb bp 0 e);
      some = λ e. some-above (eqb bp 0) r.1 d.1 (ne_eqb bp 0 (λ z. omega arith));
      top = λ e. eqb-true _ _ (at_top tb (eqb r.0.0 0) (eqb (r.0.0 + r.1) p.row.blocks) b.0 e);
      bottom = λ e. eqb-true _ _ (at-bottom tb (eqb r.0.0 0) (eqb (r.0.0 + r.1) p.row.blocks) b.0 e);
      grows = λ e. subst (λ (x : Range). r.1 ≤ x.1) (other-default rs (bp + 1) r (range 0 0) (omega arith)) (leb-true _ _ d.0);
    }

-- no range reaches past 16,384 blocks, whatever the number, TB and BP
small : ℕ → Range → Bool
small bp r = leb (r.0.0 + r.1) 16384

ranges_small : Bool → Part → Bool
ranges_small tb p = every small 0 (ranges_of p tb)

ranges-small : (tb : Bool) (n : ℕ) → ranges_small tb (part_of n) ≡ true
unfolding part_of ranges_small small
ranges-small true n = found (ranges_small true) n kh25l512 models refl refl
ranges-small false n = found (ranges_small false) n kh25l512 models refl refl

pub range_small : (n : ℕ) (tb : Bool) (bp : ℕ) → (range_of n tb bp).0.0 + (range_of n tb bp).1 ≤ 16384
unfolding ranges_small small range_of
range_small n tb bp = go (ltb bp (length rs)) refl
  where
    rs : List Range
    rs = ranges_of (part_of n) tb

    go : (b : Bool) → ltb bp (length rs) ≡ b → (range_of n tb bp).0.0 + (range_of n tb bp).1 ≤ 16384
    go true e = leb-true _ 16384 (at small rs (range 0 0) (ranges-small tb n) bp (ltb-true bp _ e))
    go false e = subst (λ (r : Range). r.0.0 + r.1 ≤ 16384) (sym (get_or-eq_default rs (range 0 0) (ltb-false bp _ e))) (omega arith)

pub page-in-block : PageInBlock
page-in-block a b e = ap (λ (x : ℕ). record { 0 = x }) {x = a.0 / 65536} {y = b.0 / 65536} (omega arith)

pub sector-in-block : SectorInBlock
sector-in-block a b e =
    let s : a.0 / 4096 ≡ b.0 / 4096 = ap (λ (x : Sector). x.0) e in
    ap (λ (x : ℕ). record { 0 = x }) {x = a.0 / 65536} {y = b.0 / 65536} (omega arith)

pub half-in-block : HalfInBlock
half-in-block a b e =
    let h : a.0 / 32768 ≡ b.0 / 32768 = ap (λ (x : HalfBlock). x.0) e in
    ap (λ (x : ℕ). record { 0 = x }) {x = a.0 / 65536} {y = b.0 / 65536} (omega arith)

pub block-of-sector : BlockOfSector
block-of-sector a = ap (λ (x : ℕ). record { 0 = x }) {x = a.0 / 65536} {y = a.0 / 4096 / 16} (omega arith)

pub block-of-half : BlockOfHalf
block-of-half a = ap (λ (x : ℕ). record { 0 = x }) {x = a.0 / 65536} {y = a.0 / 32768 / 2} (omega arith)

pub units-inside : UnitsInside
units-inside n a h =
    let w = row-rules n in
    let s = w.sectors in
    let i = w.half-blocks in
    let b = w.blocks in
    record { page = omega arith; sector = omega arith; half-block = omega arith; block = omega arith }

-- ---- how the code finds a row
pub second-part : (n : ℕ) → n ≡ 2 → part_of n ≡ kh25l2006e
unfolding part_of
second-part n e = rw e

pub third-part : (n : ℕ) → n ≡ 3 → part_of n ≡ kh25l12845g
unfolding part_of
third-part n e = rw e

pub first_part : (n : ℕ) → (n ≡ 2 → ⊥) → (n ≡ 3 → ⊥) → part_of n ≡ kh25l512
unfolding part_of
first_part n e f = rw (ne_eqb n 2 e, ne_eqb n 3 f) (go (eqb n 1))
  where
    go : (b : Bool) → cond b kh25l512 kh25l512 ≡ kh25l512
    go true = refl
    go false = refl

-- ---- how it finds a range: BP 1 protects one block, and each BP more twice as many, as far as the chip has them
abbrev doubled : ℕ → ℕ
doubled bp = 1 * 2 ^ bp % 4294967296 / 2

doubles_test : Part → Bool → ℕ → Range → Bool
doubles_test p tb bp r =
    cond (ltb (doubled bp) p.row.blocks)
    (eqb (cond tb 0 (p.row.blocks - doubled bp)) r.0.0 && eqb (doubled bp) r.1)
    (eqb 0 r.0.0 && eqb p.row.blocks r.1)

all_double : Bool → Part → Bool
all_double tb p = every (doubles_test p tb) 0 (ranges_of p tb)

all-double : (tb : Bool) (n : ℕ) → all_double tb (part_of n) ≡ true
unfolding part_of all_double doubles_test
all-double true n = found (all_double true) n kh25l512 models refl refl
all-double false n = found (all_double false) n kh25l512 models refl refl

module _ (n : ℕ) (tb : Bool) where
  abbrev p : Part
  p = part_of n

  how-many : length (ranges_of p tb) ≡ levels p tb
  unfolding ranges_test
  how-many = eqb-true _ _ (both (eqb (length (ranges_of p tb)) (levels p tb)) _ (ranges-test tb n)).0

  pub no-range : (bp : ℕ) → levels p tb ≤ bp → range 0 0 ≡ range_of n tb bp
  unfolding range_of
  no-range bp h = sym (get_or-eq_default (ranges_of p tb) (range 0 0) (omega (arith, how-many)))

  module _ (bp blocks : ℕ) (e : blocks ≡ (model_of n).blocks) (h : bp ≤ (model_of n).highest_bp) (k : tb ≡ true → (model_of n).register ≡ true) where
    doubles : doubles_test p tb bp (range_of n tb bp) ≡ true
    unfolding range_of all_double
    doubles = at (doubles_test p tb) (ranges_of p tb) (range 0 0) (all-double tb n) bp (omega (arith, how-many, has-levels p tb k))

    range-below : doubled bp < blocks → range (cond tb 0 (blocks - doubled bp)) (doubled bp) ≡ range_of n tb bp
    unfolding doubles_test
    range-below l =
        let t = at-bottom (ltb (doubled bp) (model_of n).blocks) _ _ doubles (lt-ltb (doubled bp) (model_of n).blocks (omega arith)) in
        let b = both (eqb (cond tb 0 ((model_of n).blocks - doubled bp)) (range_of n tb bp).0.0) _ t in
        let f : cond tb 0 (blocks - doubled bp) ≡ (range_of n tb bp).0.0 = ap (λ (k : ℕ). cond tb 0 (k - doubled bp)) e ∙ eqb-true _ _ b.0 in
        let s : doubled bp ≡ (range_of n tb bp).1 = eqb-true _ _ b.1 in
        ap (λ (k : ℕ). range k (doubled bp)) f ∙ ap (range (range_of n tb bp).0.0) s

    pub range-bottom : tb ≡ true → doubled bp < blocks → range 0 (doubled bp) ≡ range_of n tb bp
    range-bottom t l = sym (ap (λ (b : Bool). range (cond b 0 (blocks - doubled bp)) (doubled bp)) t) ∙ range-below l

    pub range-top : tb ≡ false → doubled bp < blocks → range (blocks - doubled bp) (doubled bp) ≡ range_of n tb bp
    range-top t l = sym (ap (λ (b : Bool). range (cond b 0 (blocks - doubled bp)) (doubled bp)) t) ∙ range-below l

    pub range_all : blocks ≤ doubled bp → range 0 blocks ≡ range_of n tb bp
    unfolding doubles_test
    range_all l =
        let t = at_top (ltb (doubled bp) (model_of n).blocks) _ _ doubles (le-ltb (doubled bp) (model_of n).blocks (omega arith)) in
        let b = both (eqb 0 (range_of n tb bp).0.0) _ t in
        let f : 0 ≡ (range_of n tb bp).0.0 = eqb-true _ _ b.0 in
        let s : blocks ≡ (range_of n tb bp).1 = e ∙ eqb-true _ _ b.1 in
        ap (λ (k : ℕ). range k blocks) f ∙ ap (range (range_of n tb bp).0.0) s

-- at BP 0 nothing is protected, whatever TB is
pub range_none : (n : ℕ) (tb : Bool) → (range_of n tb 0).1 ≡ 0
range_none n tb = go tb (model_of n).register refl
  where
    go : (tb r : Bool) → (model_of n).register ≡ r → (range_of n tb 0).1 ≡ 0
    go false r e = (range-rules n false 0 (omega arith) (λ t. absurd (false≢true t))).none refl
    go true true e = (range-rules n true 0 (omega arith) (λ t. e)).none refl
    go true false e = sym (ap (λ (x : Range). x.1) (no-range n true 0 (rw e (omega arith))))

-- the code's test for no range at all
pub out_of_range : (n : ℕ) (tb : Bool) (bp : ℕ) → (ltb (model_of n).highest_bp bp || (tb && not (model_of n).register)) ≡ true → levels (part_of n) tb ≤ bp
out_of_range n tb bp e = ⊎_elim (λ l. above tb (ltb-true _ bp l)) (λ b. without tb (both tb _ b)) (either (ltb (model_of n).highest_bp bp) _ e)
  where
    above : (tb : Bool) → (model_of n).highest_bp < bp → levels (part_of n) tb ≤ bp
    above true l = go (model_of n).register
      where
        go : (b : Bool) → cond b ((model_of n).highest_bp + 1) 0 ≤ bp
        go true = omega arith
        go false = omega arith
    above false l = omega arith

    without : (tb : Bool) → (tb ≡ true) × (not (model_of n).register ≡ true) → levels (part_of n) tb ≤ bp
    without true b = rw (not-true (model_of n).register b.1) (omega arith)
    without false b = absurd (false≢true b.0)

pub in-range : (n : ℕ) (tb : Bool) (bp : ℕ) → (ltb (model_of n).highest_bp bp || (tb && not (model_of n).register)) ≡ false
    → (bp ≤ (model_of n).highest_bp) × (tb ≡ true → (model_of n).register ≡ true)
in-range n tb bp e =
    let k = neither (ltb (model_of n).highest_bp bp) _ e in
    (ltb-false _ bp k.0, λ t. unless tb (model_of n).register k.1 t)

-- no model has a BP above 15
low_test : Part → Bool
low_test p = leb p.row.highest_bp 15

pub highest-bp : (n : ℕ) → (model_of n).highest_bp ≤ 15
unfolding part_of low_test
highest-bp n = leb-true _ _ (found low_test n kh25l512 models refl refl)

-- only model 3 has the erase of a half block
pub half-erase-model : (n : ℕ) → (model_of n).half_erase ≡ true → n ≡ 3
half-erase-model n e = go (eqb n 3) refl
  where
    go : (b : Bool) → eqb n 3 ≡ b → n ≡ 3
    go true t = eqb-true n 3 t
    go false t = absurd (false≢true (sym (none (eqb n 2) refl) ∙ e))
      where
        none : (b : Bool) → eqb n 2 ≡ b → (model_of n).half_erase ≡ false
        none true u = ap (λ (p : Part). p.row.half_erase) (second-part n (eqb-true n 2 u))
        none false u = ap (λ (p : Part). p.row.half_erase) (first_part n (eqb-false n 2 u) (eqb-false n 3 t))

-- and on it alone WEL falls at a protected unit
pub latch-falls-model : (n : ℕ) → (model_of n).latch_falls ≡ eqb n 3
latch-falls-model n = go (eqb n 3) refl
  where
    go : (b : Bool) → eqb n 3 ≡ b → (model_of n).latch_falls ≡ b
    go true t = ap (λ (p : Part). p.row.latch_falls) (third-part n (eqb-true n 3 t))
    go false t = none (eqb n 2) refl
      where
        none : (b : Bool) → eqb n 2 ≡ b → (model_of n).latch_falls ≡ false
        none true u = ap (λ (p : Part). p.row.latch_falls) (second-part n (eqb-true n 2 u))
        none false u = ap (λ (p : Part). p.row.latch_falls) (first_part n (eqb-false n 2 u) (eqb-false n 3 t))
