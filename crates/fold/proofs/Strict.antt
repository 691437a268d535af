-- Which programs go over old data: the sentences of `specs/Strict.antt`, and the test in straight runs.
use mathlib.Core.Path.{◌≡◌, refl, sym, ap, ap₂, ◌∙◌}
use mathlib.Core.Bool.{Bool, true, false, cond, not, ◌&&◌, ◌||◌, false≢true, and-false, or-true}
use mathlib.Core.List.{List}
use Prim.Native.Nat.{ℕ, zero, suc, ◌+◌, ◌-◌, ◌%◌, ◌≤◌, ◌<◌}
use native.Mathlib.Nat.{not-suc-le-zero}
use native.Mathlib.Omega.{arith}
use lib.Dec.{eqb, ltb}
use lib.ListN.{length, get_or, get_or-replicate}
use lib.Seq.{take-length}
use borrow.Author.Tests.{eqb-true, eqb-false, eq-eqb, ltb-true, ltb-false, not-true, not-false}
use Rattle.cells.specs.Cell.{FF, erased, misses, all_hold}
use Rattle.parts.specs.Parts.{part, some_by_index}
use Rattle.fold.specs.Fold.{counts, cell_after}
use Rattle.fold.specs.Strict.{reached, lost, over_old, ReachedWhen, ReachedOnlyWhen, OverOldWhen, OverOldOnlyWhen, ReadsBack, AcceptedWhen, ErasedAccepts}
use Rattle.cells.proofs.Cell.{ff-and, misses-bit, missed-bit}
use Rattle.parts.proofs.Lay.{length_part, part_at}
use Rattle.parts.proofs.Some.{some_at, some-found, none_passes, none-at, some_same}
use Rattle.fold.proofs.Counts.{unreached-stays, each_counts, counts-byte}
use Rattle.fold.proofs.Fold.{page_after-at, tail-counts}

-- ---- which offsets are reached
pub reached-when : ReachedWhen
unfolding reached
reached-when a zero i k l e = absurd (not-suc-le-zero l)
reached-when a (suc m) i k l e = go (eqb i m) refl (λ x. reached-when a m i k x e)
  where
    go : (t : Bool) → eqb i m ≡ t → (i < m → reached a m k ≡ true) → reached a (suc m) k ≡ true
    go true p earlier = ap (λ (t : Bool). t || reached a m k) (eq-eqb ((a + m) % 256) k (ap (λ (x : ℕ). (a + x) % 256) (sym (eqb-true i m p)) ∙ e))
    go false p earlier =
        let ne : i ≡ m → ⊥ = eqb-false i m p in
        ap (λ (t : Bool). eqb ((a + m) % 256) k || t) (earlier (omega arith)) ∙ or-true (eqb ((a + m) % 256) k)

pub reached-only-when : ReachedOnlyWhen
unfolding reached
reached-only-when a zero k e = absurd (false≢true e)
reached-only-when a (suc m) k e = go (eqb ((a + m) % 256) k) refl (reached-only-when a m k)
  where
    go : (t : Bool) → eqb ((a + m) % 256) k ≡ t → (reached a m k ≡ true → (i : ℕ) × (i < m) × ((a + i) % 256 ≡ k))
        → (i : ℕ) × (i < suc m) × ((a + i) % 256 ≡ k)
    go true p earlier = (m, omega arith, eqb-true ((a + m) % 256) k p)
    go false p earlier =
        let r = earlier (sym (ap (λ (t : Bool). t || reached a m k) p) ∙ e) in
        (r.0, omega (arith, r.1), r.2)

-- where an offset is not reached no byte has it
never : (a n k : ℕ) → reached a n k ≡ false → (j : ℕ) → j < n → (a + j) % 256 ≡ k → ⊥
never a n k e j l p = false≢true (sym e ∙ reached-when a n j k l p)

-- ---- one cell
-- where the offset is reached the byte that counts is lost if the cell misses it, and elsewhere none is
lost-reached : (a : ℕ) (sent : List ℕ) (k old : ℕ) → reached a (length sent) k ≡ true → lost a sent k old ≡ misses old (counts a sent (length sent) k)
unfolding lost cell_after
lost-reached a sent k old e = ap (λ (t : Bool). t && misses old (counts a sent (length sent) k)) e

not-reached : (a : ℕ) (sent : List ℕ) (k old : ℕ) → reached a (length sent) k ≡ false → lost a sent k old ≡ false
unfolding lost
not-reached a sent k old e = ap (λ (t : Bool). t && not (eqb (cell_after a sent k old) (counts a sent (length sent) k))) e

lost-hit : (a : ℕ) (sent : List ℕ) (k old : ℕ) → lost a sent k old ≡ true → reached a (length sent) k ≡ true
lost-hit a sent k old e = go (reached a (length sent) k) refl
  where
    go : (t : Bool) → reached a (length sent) k ≡ t → t ≡ true
    go true p = refl
    go false p = sym (not-reached a sent k old p) ∙ e

-- nothing is lost where the cell would hold the byte that counts, and where nothing is lost it would
lost-kept : (a : ℕ) (sent : List ℕ) (k old : ℕ) → cell_after a sent k old ≡ counts a sent (length sent) k → lost a sent k old ≡ false
unfolding lost
lost-kept a sent k old e =
    ap (λ (t : Bool). reached a (length sent) k && not t) (eq-eqb (cell_after a sent k old) (counts a sent (length sent) k) e) ∙ and-false (reached a (length sent) k)

kept : (a : ℕ) (sent : List ℕ) (k old : ℕ) → reached a (length sent) k ≡ true → lost a sent k old ≡ false → cell_after a sent k old ≡ counts a sent (length sent) k
unfolding lost
kept a sent k old p e =
    let same : Bool = eqb (cell_after a sent k old) (counts a sent (length sent) k) in
    eqb-true (cell_after a sent k old) (counts a sent (length sent) k) (not-false same (sym (ap (λ (t : Bool). t && not same) p) ∙ e))

-- the byte sent there is the one that counts, where no more than 256 are sent
lost-at : (a : ℕ) (sent : List ℕ) (i k old : ℕ) → length sent ≤ 256 → i < length sent → (a + i) % 256 ≡ k → lost a sent k old ≡ misses old (get_or sent i 0)
lost-at a sent i k old n l e = lost-reached a sent k old (reached-when a (length sent) i k l e) ∙ ap (misses old) (each_counts a sent i k n l e)

-- ---- which programs are refused
pub over-old-when : OverOldWhen
unfolding over_old
over-old-when a sent page k b r =
    some_at (lost a sent) page k r.inside
    (lost-reached a sent k (get_or page k 0) r.hit ∙ misses-bit b (get_or page k 0) (counts a sent (length sent) k) r.low r.high)

pub over-old-only-when : OverOldOnlyWhen
unfolding over_old
over-old-only-when a sent page s e =
    let f = some-found (lost a sent) page e in
    let k = f.0 in
    let hit = lost-hit a sent k (get_or page k 0) f.2 in
    let m = missed-bit (get_or page k 0) (counts a sent (length sent) k) (counts-byte a (length sent) k s) (sym (lost-reached a sent k (get_or page k 0) hit) ∙ f.2) in
    (k, m.0, m.1, record { inside = f.1; hit = hit; low = m.2; high = m.3 })

-- ---- what an accepted program leaves
pub reads-back : ReadsBack
unfolding over_old
reads-back a sent page k b e l = page_after-at a sent page k l ∙ go (reached a (length sent) k) refl
  where
    old : ℕ
    old = get_or page k 0

    go : (t : Bool) → reached a (length sent) k ≡ t → cell_after a sent k old ≡ cond t (counts a sent (length sent) k) old
    go true p = kept a sent k old p (none-at (lost a sent) page k e l)
    go false p = unreached-stays a sent k old (b.below k) (never a (length sent) k p)

pub accepted-when : AcceptedWhen
unfolding over_old
accepted-when a sent page h = none_passes (lost a sent) page (λ k l. go k l (reached a (length sent) k) refl)
  where
    go : (k : ℕ) → k < length page → (t : Bool) → reached a (length sent) k ≡ t → lost a sent k (get_or page k 0) ≡ false
    go k l true p = lost-kept a sent k (get_or page k 0) (sym (page_after-at a sent page k l) ∙ h k l p)
    go k l false p = not-reached a sent k (get_or page k 0) p

pub erased-accepts : ErasedAccepts
unfolding over_old cell_after
erased-accepts a sent s =
    none_passes (lost a sent) (erased 256)
    (λ k l. lost-kept a sent k (get_or (erased 256) k 0) (rw (get_or-replicate 256 k FF 0 l) (ff-and (counts a sent (length sent) k) (counts-byte a (length sent) k s))))

-- ---- the test in straight runs
-- n bytes sent, from index from on, held against the n cells of the page that they reach, from offset start on
module _ (a : ℕ) (sent page : List ℕ) (p : length page ≡ 256) (few : length sent ≤ 256)
    (from start n : ℕ) (turned : (a + from) % 256 ≡ start) (had : from + n ≤ length sent) (fits : start + n ≤ 256) where
  abbrev run_holds : Bool
  run_holds = all_hold (part sent from n) (part page start n)

  abbrev run-missed : ℕ → ℕ → Bool
  run-missed i old = misses old (get_or (part sent from n) i 0)

  run-lost : (i : ℕ) → i < n → run-missed i (get_or (part page start n) i 0) ≡ lost a sent (start + i) (get_or page (start + i) 0)
  run-lost i l =
      ap (misses (get_or (part page start n) i 0)) (part_at sent from n i l)
      ∙ ap (λ (old : ℕ). misses old (get_or sent (from + i) 0)) (part_at page start n i l)
      ∙ sym (lost-at a sent (from + i) (start + i) (get_or page (start + i) 0) few (omega arith) (omega arith))

  run-refuses : run_holds ≡ false → over_old a sent page ≡ true
  unfolding all_hold over_old
  run-refuses e =
      let r = some-found run-missed (part page start n) (not-false (some_by_index run-missed (part page start n)) e) in
      let l : r.0 < n = omega (arith, r.1, length_part page start n (omega arith)) in
      some_at (lost a sent) page (start + r.0) (omega arith) (sym (run-lost r.0 l) ∙ r.2)

  run-keeps : run_holds ≡ true → (k : ℕ) → start ≤ k → k < start + n → lost a sent k (get_or page k 0) ≡ false
  unfolding all_hold
  run-keeps e k l m =
      let i : ℕ = k - start in
      ap (λ (j : ℕ). lost a sent j (get_or page j 0)) {x = k} {y = start + i} (omega arith)
      ∙ sym (run-lost i (omega arith))
      ∙ none-at run-missed (part page start n) i (not-true (some_by_index run-missed (part page start n)) e) (omega (arith, length_part page start n (omega arith)))

-- a program is accepted where nothing is lost at the offsets that its bytes have
nothing-lost : (a : ℕ) (sent page : List ℕ) → ((i k : ℕ) → i < length sent → (a + i) % 256 ≡ k → lost a sent k (get_or page k 0) ≡ false) → over_old a sent page ≡ false
unfolding over_old
nothing-lost a sent page h = none_passes (lost a sent) page (λ k l. at k (reached a (length sent) k) refl)
  where
    at : (k : ℕ) (t : Bool) → reached a (length sent) k ≡ t → lost a sent k (get_or page k 0) ≡ false
    at k true e = let r = reached-only-when a (length sent) k e in h r.0 k r.1 r.2
    at k false e = not-reached a sent k (get_or page k 0) e

-- bytes that end within the page
pub one-look : (a : ℕ) (sent page : List ℕ) → a < 256 → length page ≡ 256 → a + length sent ≤ 256
    → not (all_hold (part sent 0 (length sent)) (part page a (length sent))) ≡ over_old a sent page
one-look a sent page s p h = go (all_hold (part sent 0 (length sent)) (part page a (length sent))) refl
  where
    turned : (a + 0) % 256 ≡ a
    turned = omega arith

    go : (t : Bool) → all_hold (part sent 0 (length sent)) (part page a (length sent)) ≡ t → not t ≡ over_old a sent page
    go true e =
        sym
        (nothing-lost a sent page
        (λ i k l x. run-keeps a sent page p (omega arith) 0 a (length sent) turned (omega arith) h e k (omega arith) (omega arith)))
    go false e = sym (run-refuses a sent page p (omega arith) 0 a (length sent) turned (omega arith) h e)

-- bytes that go beyond the page's end: to its end, and from its start
pub two-looks : (a room rest : ℕ) (sent page : List ℕ) → a < 256 → length page ≡ 256 → a + room ≡ 256 → length sent ≡ room + rest → rest ≤ a
    → not (all_hold (part sent 0 room) (part page a room) && all_hold (part sent room rest) (part page 0 rest)) ≡ over_old a sent page
two-looks a room rest sent page s p r n m = go (all_hold (part sent 0 room) (part page a room)) refl (all_hold (part sent room rest) (part page 0 rest)) refl
  where
    few : length sent ≤ 256
    few = omega arith

    turned : (a + 0) % 256 ≡ a
    turned = omega arith

    start : (a + room) % 256 ≡ 0
    start = omega arith

    go : (t : Bool) → all_hold (part sent 0 room) (part page a room) ≡ t → (u : Bool) → all_hold (part sent room rest) (part page 0 rest) ≡ u → not (t && u) ≡ over_old a sent page
    go false e u f = sym (run-refuses a sent page p few 0 a room turned (omega arith) (omega arith) e)
    go true e false f = sym (run-refuses a sent page p few room 0 rest start (omega arith) (omega arith) f)
    go true e true f = sym (nothing-lost a sent page (λ i k l x. at i k l x (ltb i room) refl))
      where
        at : (i k : ℕ) → i < length sent → (a + i) % 256 ≡ k → (t : Bool) → ltb i room ≡ t → lost a sent k (get_or page k 0) ≡ false
        at i k l x true y =
            let o : i < room = ltb-true i room y in
            run-keeps a sent page p few 0 a room turned (omega arith) (omega arith) e k (omega arith) (omega arith)
        at i k l x false y =
            let o : room ≤ i = ltb-false i room y in
            run-keeps a sent page p few room 0 rest start (omega arith) (omega arith) f k (omega arith) (omega arith)

-- more than 256 bytes are refused where their last 256 are, from where those fall: these reach every offset
pub over-tail : (a f : ℕ) (sent page : List ℕ) → length sent ≡ f + 256 → length page ≡ 256 → over_old ((a + f) % 256) (part sent f 256) page ≡ over_old a sent page
unfolding over_old
over-tail a f sent page e p = some_same (lost ((a + f) % 256) (part sent f 256)) (lost a sent) page (λ k l. at k (omega arith))
  where
    long : length (part sent f 256) ≡ 256
    long = length_part sent f 256 (omega arith)

    at : (k : ℕ) → k < 256 → lost ((a + f) % 256) (part sent f 256) k (get_or page k 0) ≡ lost a sent k (get_or page k 0)
    at k l =
        let b = (a + f) % 256 in
        let i : ℕ = (k + 256 - b) % 256 in
        lost-reached b (part sent f 256) k (get_or page k 0) (reached-when b (length (part sent f 256)) i k (omega (arith, long)) (omega arith))
        ∙ ap (misses (get_or page k 0)) (tail-counts a f sent k e l)
        ∙ sym (lost-reached a sent k (get_or page k 0) (reached-when a (length sent) (f + i) k (omega arith) (omega arith)))

-- ---- what the code's runs gave
pub one_seen : (a : ℕ) (sent page : List ℕ) (held : Bool) → a < 256 → length page ≡ 256 → a + length sent ≤ 256
    → held ≡ all_hold sent (part page a (a + length sent - a)) → not held ≡ over_old a sent page
one_seen a sent page held s p h e =
    let n : a + length sent - a ≡ length sent = omega arith in
    ap not (e ∙ ap (λ (m : ℕ). all_hold sent (part page a m)) n ∙ ap (λ (z : List ℕ). all_hold z (part page a (length sent))) (sym (take-length sent)))
    ∙ one-look a sent page s p h

pub two-seen : (a room rest : ℕ) (sent page : List ℕ) (tail head : Bool) → a < 256 → length page ≡ 256 → a + room ≡ 256 → length sent ≡ room + rest → rest ≤ a
    → tail ≡ all_hold (part sent 0 (room - 0)) (part page a (256 - a))
    → head ≡ all_hold (part sent room (length sent - room)) (part page 0 (rest - 0))
    → not (tail && head) ≡ over_old a sent page
two-seen a room rest sent page tail head s p r n m e f =
    let x₀ : room - 0 ≡ room = omega arith in
    let x₁ : 256 - a ≡ room = omega arith in
    let x₂ : length sent - room ≡ rest = omega arith in
    let x₃ : rest - 0 ≡ rest = omega arith in
    ap not
    (ap₂ ◌&&◌
    (e ∙ ap₂ (λ (i j : ℕ). all_hold (part sent 0 i) (part page a j)) x₀ x₁)
    (f ∙ ap₂ (λ (i j : ℕ). all_hold (part sent room i) (part page 0 j)) x₂ x₃))
    ∙ two-looks a room rest sent page s p r n m
