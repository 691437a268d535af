-- One pass over a table: what is known of the counts looked at so far, and of all.
use mathlib.Core.Path.{◌≡◌, refl, sym, ap, ◌∙◌}
use mathlib.Core.Bool.{Bool, true, false, cond}
use mathlib.Core.List.{List, [], ◌∷◌}
use Prim.Native.Nat.{ℕ, suc, ◌+◌, ◌≤◌, ◌<◌, min, max}
use native.Mathlib.Omega.{arith}
use lib.Dec.{ltb, eqb}
use lib.ListN.{length, get_or, drop, drop_of_length-le}
use lib.Seq.{drop-cons}
use borrow.Author.Tests.{ltb-true, ltb-false, eqb-true, eqb-false}
use Rattle.units.specs.declared.Sector.{Sector}
use Rattle.counts.specs.declared.Sums.{Sums}
use Rattle.counts.specs.Counts.{sector_at, count_of, total_of, least_from, most_from, smallest_of, largest_of, first_with, with_one, sums_of}
use Rattle.counts.proofs.Laws.{first-is}

-- what s says of the first i counts, and what those still to come add
pub record Seen (wear : List ℕ) (i : ℕ) (s : Sums) : Type 0 where
  pub total : s.total + total_of (drop i wear) ≡ total_of wear
  pub smallest : least_from s.smallest (drop i wear) ≡ smallest_of wear
  pub largest : most_from s.largest (drop i wear) ≡ largest_of wear
  pub has-it : count_of wear s.sector ≡ s.largest
  pub first : (k : ℕ) → k < s.sector.0 → get_or wear k 0 < s.largest
  pub most : (k : ℕ) → k < i → get_or wear k 0 ≤ s.largest

-- of a table that has a first count
pub seen_none : (wear : List ℕ) → 0 < length wear → Seen wear 0 (record { total = 0; smallest = get_or wear 0 0; largest = get_or wear 0 0; sector = sector_at 0 })
seen_none [] l = absurd (omega arith)
seen_none (x ∷ xs) l =
    let low : min x x ≡ x = omega arith in
    let high : max x x ≡ x = omega arith in
    record { total = omega arith; smallest = ap (λ (m : ℕ). least_from m xs) low; largest = ap (λ (m : ℕ). most_from m xs) high; has-it = refl; first = λ k m. absurd (omega arith); most = λ k m. absurd (omega arith) }

module _ (wear : List ℕ) (i : ℕ) (s : Sums) (h : Seen wear i s) where
  abbrev x : ℕ
  x = get_or wear i 0

  -- the sector with the largest count of the first i + 1
  abbrev Peak : Bool → Type 0
  Peak b =
      (count_of wear (cond b (sector_at i) s.sector) ≡ max s.largest x)
      × ((k : ℕ) → k < (cond b (sector_at i) s.sector).0 → get_or wear k 0 < max s.largest x)

  peak : (b : Bool) → ltb s.largest x ≡ b → Peak b
  peak true e =
      let l : s.largest < x = ltb-true s.largest x e in
      (omega arith, λ k m. omega (arith, h.most k m))
  peak false e =
      let l : x ≤ s.largest = ltb-false s.largest x e in
      (omega (arith, h.has-it), λ k m. omega (arith, h.first k m))

  pub seen_one : i < length wear → Seen wear (i + 1) (with_one s x (sector_at i))
  seen_one l =
      let next : i + 1 ≡ suc i = omega arith in
      let d : drop i wear ≡ x ∷ drop (suc i) wear = drop-cons wear i 0 l in
      let p = peak (ltb s.largest x) refl in
      rw next
      (record {
        total = sum-on s.total x (total_of (drop (suc i) wear)) ∙ sym (ap (λ (z : List ℕ). s.total + total_of z) d) ∙ h.total;
        smallest = sym (ap (least_from s.smallest) d) ∙ h.smallest;
        largest = sym (ap (most_from s.largest) d) ∙ h.largest;
        has-it = p.0;
        first = p.1;
        most = λ k m. reach k m;
      })
    where
      sum-on : (a b c : ℕ) → a + b + c ≡ a + (b + c)
      sum-on a b c = omega arith

      reach : (k : ℕ) → k < suc i → get_or wear k 0 ≤ max s.largest (get_or wear i 0)
      reach k m = go (eqb k i) refl
        where
          go : (b : Bool) → eqb k i ≡ b → get_or wear k 0 ≤ max s.largest (get_or wear i 0)
          go true e = rw (eqb-true k i e) (omega arith)
          go false e = omega (arith, h.most k (omega (arith, eqb-false k i e)))

  pub seen_all : length wear ≤ i → s ≡ sums_of wear
  seen_all l =
      let d : drop i wear ≡ [] = drop_of_length-le wear {i = i} l in
      let most : s.largest ≡ largest_of wear = sym (ap (most_from s.largest) d) ∙ h.largest in
      let least : s.smallest ≡ smallest_of wear = sym (ap (least_from s.smallest) d) ∙ h.smallest in
      let total : s.total ≡ total_of wear = add_none s.total ∙ sym (ap (λ (z : List ℕ). s.total + total_of z) d) ∙ h.total in
      let at : s.sector ≡ sector_at (first_with (largest_of wear) wear) = ap sector_at (sym (first-is (largest_of wear) wear s.sector.0 (h.has-it ∙ most) (λ k m. rw (← most) (h.first k m)))) in
      same total least most at
    where
      add_none : (n : ℕ) → n ≡ n + 0
      add_none n = omega arith

      same : {a b c : ℕ} {e : Sector} → s.total ≡ a → s.smallest ≡ b → s.largest ≡ c → s.sector ≡ e → s ≡ record { total = a; smallest = b; largest = c; sector = e }
      same p q r t = rw (← p, ← q, ← r, ← t)
