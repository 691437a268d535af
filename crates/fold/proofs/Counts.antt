-- The byte that counts at an offset, and the sheet's sentences on a cell.
use mathlib.Core.Path.{◌≡◌, refl, sym, ap, ◌∙◌}
use mathlib.Core.Bool.{Bool, true, false, cond}
use mathlib.Core.List.{List}
use Prim.Native.Nat.{ℕ, zero, suc, ◌+◌, ◌-◌, ◌%◌, ◌≤◌, ◌<◌}
use native.Mathlib.Nat.{not-suc-le-zero}
use native.Mathlib.Omega.{arith}
use lib.Bits.{bit_and}
use lib.Dec.{eqb}
use lib.ListN.{length, drop, get_or}
use lib.Seq.{get_or-drop}
use borrow.Author.Tests.{eqb-true, eqb-false, lt-ltb, ltb-true, ltb-false}
use Rattle.cells.specs.Cell.{FF}
use Rattle.parts.specs.Parts.{Bytes}
use Rattle.fold.specs.Fold.{counts, cell_after, folds}
use Rattle.fold.specs.Sheet.{LastCounts, UnreachedStays, OnlyFalls, FoldsWhen, FoldsOnlyWhen, StraightOn}
use Rattle.cells.proofs.Cell.{and_ff, and-falls}

pub last-counts : LastCounts
unfolding counts
last-counts a sent zero i k l e later = absurd (not-suc-le-zero l)
last-counts a sent (suc m) i k l e later =
    go (λ x. last-counts a sent m i k x e (λ j y z. later j y (omega arith))) (eqb ((a + m) % 256) k) refl (eqb i m) refl
  where
    go : (i < m → counts a sent m k ≡ get_or sent i 0) → (t : Bool) → eqb ((a + m) % 256) k ≡ t → (u : Bool) → eqb i m ≡ u → counts a sent (suc m) k ≡ get_or sent i 0
    go earlier true p true q = rw p (ap (λ (x : ℕ). get_or sent x 0) (sym (eqb-true i m q)))
    go earlier true p false q =
        let ne : i ≡ m → ⊥ = eqb-false i m q in
        absurd (later m (omega arith) (omega arith) (eqb-true ((a + m) % 256) k p))
    go earlier false p true q = absurd (eqb-false ((a + m) % 256) k p (ap (λ (x : ℕ). (a + x) % 256) (sym (eqb-true i m q)) ∙ e))
    go earlier false p false q =
        let ne : i ≡ m → ⊥ = eqb-false i m q in
        rw p (earlier (omega arith))

-- where no byte has the offset, FF counts
pub none-counts : (a : ℕ) (sent : List ℕ) (n k : ℕ) → ((j : ℕ) → j < n → (a + j) % 256 ≡ k → ⊥) → counts a sent n k ≡ FF
unfolding counts
none-counts a sent zero k never = refl
none-counts a sent (suc m) k never = go (none-counts a sent m k (λ j x. never j (omega arith))) (eqb ((a + m) % 256) k) refl
  where
    go : counts a sent m k ≡ FF → (t : Bool) → eqb ((a + m) % 256) k ≡ t → counts a sent (suc m) k ≡ FF
    go earlier true p = absurd (never m (omega arith) (eqb-true ((a + m) % 256) k p))
    go earlier false p = rw p earlier

pub unreached-stays : UnreachedStays
unfolding cell_after
unreached-stays a sent k old l never = ap (bit_and old) (none-counts a sent (length sent) k never) ∙ and_ff old l

pub only-falls : OnlyFalls
unfolding cell_after
only-falls b a sent k old = and-falls b old (counts a sent (length sent) k)

-- a byte that is sent counts, where no more than 256 are
pub each_counts : (a : ℕ) (sent : List ℕ) (i k : ℕ) → length sent ≤ 256 → i < length sent → (a + i) % 256 ≡ k → counts a sent (length sent) k ≡ get_or sent i 0
each_counts a sent i k n l e = last-counts a sent (length sent) i k l e (λ j x y z. omega arith)

pub sent-counts : (a : ℕ) (sent : List ℕ) (i k old : ℕ) → length sent ≤ 256 → i < length sent → (a + i) % 256 ≡ k → cell_after a sent k old ≡ bit_and old (get_or sent i 0)
unfolding cell_after
sent-counts a sent i k old n l e = ap (bit_and old) (each_counts a sent i k n l e)

-- the last 256 bytes reach every offset, so no other counts
pub counts-tail : (a f : ℕ) (sent : List ℕ) (k : ℕ) → k < 256 → counts ((a + f) % 256) (drop f sent) 256 k ≡ counts a sent (f + 256) k
counts-tail a f sent k l =
    let b = (a + f) % 256 in
    let j = (k + 256 - b) % 256 in
    last-counts b (drop f sent) 256 j k (omega arith) (omega arith) (λ i x y e. omega arith)
    ∙ get_or-drop f sent j 0
    ∙ sym (last-counts a sent (f + 256) (f + j) k (omega arith) (omega arith) (λ i x y e. omega arith))

-- what counts is a byte
pub counts-byte : (a : ℕ) {sent : List ℕ} (n k : ℕ) → Bytes sent → counts a sent n k < 256
unfolding counts
counts-byte a zero k b = omega arith
counts-byte a {sent} (suc m) k b = go (eqb ((a + m) % 256) k) (counts-byte a m k b)
  where
    go : (t : Bool) → counts a sent m k < 256 → cond t (get_or sent m 0) (counts a sent m k) < 256
    go true l = b.below m
    go false l = l

-- ---- whether a program folds
pub folds-when : FoldsWhen
unfolding folds
folds-when a n i l h = lt-ltb 256 (a + n) (omega arith)

-- the last byte has gone past the end
pub folds-only-when : FoldsOnlyWhen
unfolding folds
folds-only-when a n l e = let h : 256 < a + n = ltb-true 256 (a + n) e in (n - 1, omega arith, omega arith)

pub straight-on : StraightOn
unfolding folds
straight-on a sent i e l =
    let h : a + length sent ≤ 256 = ltb-false 256 (a + length sent) e in
    let k : (a + i) % 256 ≡ a + i = omega arith in
    (k, last-counts a sent (length sent) i (a + i) l k (λ j x y z. omega arith))
