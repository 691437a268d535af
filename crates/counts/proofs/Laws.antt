-- Laws of counts and of the report.
use Rattle.std.specs.Prelude.{Option, Some, None}
use mathlib.Core.Path.{◌≡◌, refl, sym, ap, ◌∙◌}
use mathlib.Core.Bool.{Bool, true, false, ◌||◌, false≢true}
use mathlib.Core.List.{List, [], ◌∷◌, ◌++◌}
use Prim.Native.Nat.{ℕ, zero, suc, ◌+◌, ◌-◌, ◌≤◌, ◌<◌}
use native.Mathlib.Omega.{arith}
use lib.Dec.{eqb, leb, ltb}
use lib.ListN.{length, get_or, take, drop, replicate}
use borrow.Author.Tests.{leb-false, eq-eqb, ne_eqb, eqb-true, lt-leb, ltb-true, ltb-false, eqb-false}
use mathlib.Core.Logic.{⊎_elim}
use Rattle.units.specs.declared.Address.{Address}
use Rattle.units.specs.declared.Sector.{Sector}
use Rattle.units.specs.Kinds.{sector_of}
use Rattle.units.proofs.Bools.{neither, either}
use Rattle.models.specs.Models.{is_sectors, model_of}
use Rattle.counts.specs.Counts.{sector_at, count_of, top_count, at_top, first_with, covered, InTable, counted, sectors, worn_out, OneMore, raised, total_of}
use Rattle.commands.specs.declared.Operation.{Operation}
use Rattle.commands.specs.declared.Operation.TheVariants.{WritesStatus, Programs, ErasesSector, ErasesHalf, ErasesBlock, ErasesChip}
use Rattle.models.proofs.Rules.{row-rules}
use Rattle.parts.proofs.Lay.{lay-none, lay-before, lay-inside, lay-after, length-lay, length_part, lay-part}
use lib.Seq.{drop-cons, ext_get_or}
use Rattle.parts.specs.Parts.{part, lay, map_from}
use Rattle.parts.proofs.Loop.{length-by_index}

-- no count at its top: each is below it
pub below_top : (counts : List ℕ) → at_top counts ≡ false → (k : ℕ) → k < length counts → get_or counts k 0 < top_count
below_top [] e k l = absurd (omega arith)
below_top (x ∷ xs) e zero l = leb-false top_count x (neither (leb top_count x) (at_top xs) e).0
below_top (x ∷ xs) e (suc k) l = below_top xs (neither (leb top_count x) (at_top xs) e).1 k (omega arith)

-- the first sector with a count: it has it, and none before it has
pub first-is : (v : ℕ) (xs : List ℕ) (s : ℕ) → get_or xs s 0 ≡ v → ((k : ℕ) → k < s → get_or xs k 0 < v) → first_with v xs ≡ s
first-is v [] zero e h = refl
first-is v [] (suc s) e h = absurd (omega (arith, h 0 (omega arith)))
first-is v (x ∷ xs) zero e h = rw (eq-eqb x v e)
first-is v (x ∷ xs) (suc s) e h =
    let l : x < v = h 0 (omega arith) in
    rw (ne_eqb x v (λ z. omega arith)) (ap suc (first-is v xs s e (λ k m. h (suc k) (omega arith))))

-- as many counts as some chip has sectors
pub sectors-range : (n : ℕ) → is_sectors n ≡ true → (16 ≤ n) × (n ≤ 4096)
unfolding is_sectors
sectors-range n e =
    ⊎_elim (λ a. let k : n ≡ 16 = eqb-true n 16 a in (omega arith, omega arith))
    (λ r. ⊎_elim (λ a. let k : n ≡ 64 = eqb-true n 64 a in (omega arith, omega arith))
    (λ q. ⊎_elim (λ a. let k : n ≡ 4096 = eqb-true n 4096 a in (omega arith, omega arith)) (λ f. absurd (false≢true f)) (either (eqb n 4096) false q))
    (either (eqb n 64) (eqb n 4096 || false) r))
    (either (eqb n 16) (eqb n 64 || (eqb n 4096 || false)) e)

-- ---- the covered sectors lie in the table of the chip
pub in_table : (n : ℕ) (op : Option Operation) (at : Address) (wear : List ℕ) → length wear ≡ (model_of n).sectors → at.0 < (model_of n).length → InTable op at wear
unfolding covered
in_table n None at wear e l = omega arith
in_table n (Some WritesStatus) at wear e l = omega arith
in_table n (Some Programs) at wear e l = omega arith
in_table n (Some ErasesSector) at wear e l = omega (arith, (row-rules n).sectors)
in_table n (Some ErasesHalf) at wear e l = omega (arith, (row-rules n).sectors, (row-rules n).half-blocks)
in_table n (Some ErasesBlock) at wear e l = omega (arith, (row-rules n).sectors, (row-rules n).blocks)
in_table n (Some ErasesChip) at wear e l = omega arith

-- an erase of the chip lies in every table
pub chip-in-table : (at : Address) (wear : List ℕ) → InTable (Some ErasesChip) at wear
unfolding covered
chip-in-table at wear = omega arith

-- an operation that covers no sector counts nothing
pub uncounted : (op : Option Operation) (at : Address) (wear : List ℕ) → covered op at (length wear) ≡ sectors (sector_at 0) 0 → counted op at wear ≡ wear
unfolding counted
uncounted op at wear e = rw e (lay-none wear 0)

-- ---- no count at its top
-- nor in a part of the table
none-taken : (n : ℕ) (xs : List ℕ) → at_top xs ≡ false → at_top (take n xs) ≡ false
none-taken zero xs e = refl
none-taken (suc n) [] e = refl
none-taken (suc n) (x ∷ xs) e = let k = neither (leb top_count x) (at_top xs) e in rw k.0 (none-taken n xs k.1)

none_dropped : (n : ℕ) (xs : List ℕ) → at_top xs ≡ false → at_top (drop n xs) ≡ false
none_dropped zero xs e = e
none_dropped (suc n) [] e = refl
none_dropped (suc n) (x ∷ xs) e = none_dropped n xs (neither (leb top_count x) (at_top xs) e).1

pub none-worn : (op : Option Operation) (at : Address) (wear : List ℕ) → at_top wear ≡ false → worn_out op at wear ≡ false
unfolding worn_out
none-worn op at wear e = let s = covered op at (length wear) in none-taken s.count (drop s.first.0 wear) (none_dropped s.first.0 wear e)

-- a table from the factory
pub new-table : (n : ℕ) → at_top (replicate n 0) ≡ false
new-table zero = refl
new-table (suc n) = new-table n

-- ---- an erase of one sector
one-count : (k : ℕ) (wear : List ℕ) → k < length wear → part wear k 1 ≡ get_or wear k 0 ∷ []
one-count k wear l = rw (drop-cons wear k 0 l)

pub sector-spared : (at : Address) (wear : List ℕ) → (sector_of at).0 < length wear → count_of wear (sector_of at) < top_count → worn_out (Some ErasesSector) at wear ≡ false
unfolding worn_out covered
sector-spared at wear l b = ap at_top (one-count (sector_of at).0 wear l) ∙ rw (lt-leb top_count (count_of wear (sector_of at)) b)

head_of : (k v : ℕ) → get_or (v ∷ []) (k - k) 0 ≡ v
head_of k v = let z : k - k ≡ 0 = omega arith in rw z

-- the count of one sector is one more, and the others are as they were
one_more : (k : ℕ) (wear after : List ℕ) → k < length wear → OneMore (sector_at k) wear after → lay wear k ((get_or wear k 0 + 1) ∷ []) ≡ after
one_more k wear after l h = ext_get_or 0 (lay wear k ys) after (length-lay wear k ys (omega arith) ∙ sym h.same) (λ i m. at i (ltb i k) (eqb i k) refl refl)
  where
    ys : List ℕ
    ys = (get_or wear k 0 + 1) ∷ []

    at : (i : ℕ) (b c : Bool) → ltb i k ≡ b → eqb i k ≡ c → get_or (lay wear k ys) i 0 ≡ get_or after i 0
    at i true c e f =
        let m : i < k = ltb-true i k e in
        lay-before wear k ys i (omega arith) m ∙ sym (h.others (sector_at i) (λ z. omega (arith, ap (λ (s : Sector). s.0) z)))
    at i false true e f =
        let z : i ≡ k = eqb-true i k f in
        rw z (lay-inside wear k ys k (omega arith) (omega arith) (omega arith) ∙ head_of k (get_or wear k 0 + 1) ∙ sym h.one)
    at i false false e f =
        let z : i ≡ k → ⊥ = eqb-false i k f in
        lay-after wear k ys i (omega arith) (omega (arith, ltb-false i k e)) ∙ sym (h.others (sector_at i) (λ y. z (ap (λ (s : Sector). s.0) y)))

pub sector-counted : (at : Address) (wear after : List ℕ) → (sector_of at).0 < length wear → OneMore (sector_of at) wear after → counted (Some ErasesSector) at wear ≡ after
unfolding counted covered
sector-counted at wear after l h = ap (λ (ys : List ℕ). lay wear (sector_of at).0 (raised ys)) (one-count (sector_of at).0 wear l) ∙ one_more (sector_of at).0 wear after l h

-- ---- the sum
total-join : (xs ys : List ℕ) → total_of (xs ++ ys) ≡ total_of xs + total_of ys
total-join [] ys = omega arith
total-join (x ∷ xs) ys = rw (total-join xs ys) (omega arith)

total-raised : (k : ℕ) (xs : List ℕ) → total_of (map_from (λ (i old : ℕ). old + 1) k xs) ≡ total_of xs + length xs
total-raised k [] = refl
total-raised k (x ∷ xs) = rw (total-raised (suc k) xs) (omega arith)

total-lay : (xs : List ℕ) (at : ℕ) (ys : List ℕ) → total_of (lay xs at ys) ≡ total_of (take at xs) + (total_of ys + total_of (drop (at + length ys) xs))
unfolding lay
total-lay xs at ys = total-join (take at xs) (ys ++ drop (at + length ys) xs) ∙ ap (λ (n : ℕ). total_of (take at xs) + n) (total-join ys (drop (at + length ys) xs))

-- a counted operation adds as many as it covers sectors
pub total-counted : (op : Option Operation) (at : Address) (wear : List ℕ) → InTable op at wear
    → total_of (counted op at wear) ≡ total_of wear + (covered op at (length wear)).count
unfolding counted
total-counted op at wear l =
    let s = covered op at (length wear) in
    let ys = part wear s.first.0 s.count in
    let n : length ys ≡ s.count = length_part wear s.first.0 s.count l in
    let m : length (raised ys) ≡ length ys = length-by_index (λ (k old : ℕ). old + 1) ys in
    let up = total-lay wear s.first.0 (raised ys) in
    let was = total-lay wear s.first.0 ys in
    let back : total_of (lay wear s.first.0 ys) ≡ total_of wear = ap total_of (lay-part wear s.first.0 s.count l) in
    let more : total_of (raised ys) ≡ total_of ys + length ys = total-raised 0 ys in
    let raise = rw m at up in
    omega (arith, raise, was, back, more, n)

-- an erase of the chip has no address
pub all-counted : (p q : Address) (wear : List ℕ) → counted (Some ErasesChip) p wear ≡ counted (Some ErasesChip) q wear
unfolding counted covered
all-counted p q wear = refl
