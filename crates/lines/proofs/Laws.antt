-- The laws of a cut: what it says of the lines of the input, whatever line is held and whatever comes after the block.
use mathlib.Core.Path.{◌≡◌, refl, sym, ap, ◌∙◌, subst}
use mathlib.Core.Bool.{Bool, true, false, ◌&&◌}
use mathlib.Core.List.{List, [], ◌∷◌}
use Prim.Native.Nat.{ℕ, ◌+◌, ◌-◌, ◌≤◌, ◌<◌, min}
use native.Mathlib.Nat.{add-zero}
use native.Mathlib.Omega.{arith}
use lib.Dec.{eqb, leb, ltb}
use lib.ListN.{length, drop, take, length-drop, drop_of_length-le}
use lib.Seq.{length-take-le, take-nil, take_all}
use borrow.Author.Tests.{leb-true, leb-false, lt-ltb, le-ltb, ltb-false}
use Rattle.script.proofs.HexLaws.{and_left, and_right}
use Rattle.std.specs.Prelude.{Some, None, position, nat_lt}
use Rattle.std.specs.List.{position_or_len}
use Rattle.parts.specs.Parts.{lay}
use Rattle.parts.proofs.Lay.{lay-none}
use borrow.Rule.Slice.PartMut.{put_mid}
use Rattle.text.specs.Put.{Put}
use Rattle.text.proofs.PutLaws.{put_part}
use Rattle.lines.specs.declared.Cut.TheVariants.{Here, Joined, Open}
use Rattle.lines.specs.Cutting.{first_line, end_of, fitting, held_with, used_of, cut_of, held_of, Cuts, OneCuts}

-- ---- the place of the newline
-- the bytes before the first newline, as the library counts them
before : (s : List ℕ) → position_or_len (λ b. eqb b 10) s ≡ length (first_line s)
before [] = refl
before (b ∷ s) = go (eqb b 10) refl (before s)
  where
    go : (t : Bool) → eqb b 10 ≡ t → position_or_len (λ b. eqb b 10) s ≡ length (first_line s) → position_or_len (λ b. eqb b 10) (b ∷ s) ≡ length (first_line (b ∷ s))
    go true p h = rw p
    go false p h = rw p (omega arith)

pub end_found : (s : List ℕ) (at n : ℕ) → Some n ≡ position (λ b. eqb b 10) (drop at s) → at + n ≡ end_of s at
end_found s at n e = go (nat_lt (position_or_len (λ b. eqb b 10) (drop at s)) (length (drop at s))) refl
  where
    go : (t : Bool) → nat_lt (position_or_len (λ b. eqb b 10) (drop at s)) (length (drop at s)) ≡ t → at + n ≡ end_of s at
    go true p =
        let k : Some n ≡ Some (position_or_len (λ b. eqb b 10) (drop at s)) = rw p at e in
        let m : n ≡ position_or_len (λ b. eqb b 10) (drop at s) = cc in
        ap (λ (z : ℕ). at + z) (m ∙ before (drop at s))
    go false p = let k : Some n ≡ None = rw p at e in absurd cc

pub end_out : (s : List ℕ) (i : ℕ) → length s ≤ i → i ≡ end_of s i
end_out s i l = rw (drop_of_length-le s l) (sym (add-zero i))

-- ---- what is kept
-- nothing, where there is no room or nothing to keep
pub kept-none : (held part : List ℕ) (used : ℕ) → fitting held used part ≡ [] → (used ≡ used_of held used part) × (held ≡ held_with held used part)
kept-none held part used e = (rw e (sym (add-zero used)), rw e (sym (lay-none held used)))

pub full : (held part : List ℕ) (used : ℕ) → length held ≤ used → fitting held used part ≡ []
full held part used l = let z : length held - used ≡ 0 = omega arith in ap (λ (n : ℕ). take n part) z

-- or as much as fits
as_fits : (m : ℕ) (s : List ℕ) (n : ℕ) → n ≡ min m (length s) → take n s ≡ take m s
as_fits m s n e = go (leb m (length s)) refl
  where
    go : (t : Bool) → leb m (length s) ≡ t → take n s ≡ take m s
    go true p = let h : m ≤ length s = leb-true m (length s) p in ap (λ (k : ℕ). take k s) {x = n} {y = m} (omega arith)
    go false p = let h : length s < m = leb-false m (length s) p in take_all n s (omega arith) ∙ sym (take_all m s (omega arith))

pub kept_put : (held part after : List ℕ) (used n r : ℕ) → n ≡ min (length held - used) (length part) → Put (take n part) held used after r
    → (r ≡ used_of held used part) × (after ≡ held_with held used part)
kept_put held part after used n r e p =
    let same : take n part ≡ fitting held used part = as_fits (length held - used) part n e in
    (p.next ∙ ap (λ (z : List ℕ). used + length z) same, p.is ∙ ap (lay held used) same)

-- the part that is copied behind them
pub kept_copied : (held part e : List ℕ) (used n : ℕ) → n ≡ min (length held - used) (length part) → used < length held → e ≡ take n part
    → (used + n ≡ used_of held used part) × (put_mid used (used + n - used) held e ≡ held_with held used part)
kept_copied held part e used n h l c =
    let m : length (take n part) ≡ n = length-take-le n part (omega arith) in
    kept_put held part (put_mid used (used + n - used) held e) used n (used + n) h (subst (λ (k : ℕ). Put (take n part) held used (put_mid used (used + k - used) held e) (used + k)) m (put_part (take n part) held e used (omega arith) c))

-- ---- the bytes before a newline
pub first_short : (s : List ℕ) → length (first_line s) ≤ length s
first_short [] = omega arith
first_short (b ∷ s) = go (eqb b 10) refl (first_short s)
  where
    go : (t : Bool) → eqb b 10 ≡ t → length (first_line s) ≤ length s → length (first_line (b ∷ s)) ≤ length (b ∷ s)
    go true p h = rw p (omega arith)
    go false p h = rw p (omega arith)

pub end_none : (s : List ℕ) (at : ℕ) → at ≤ length s → None ≡ position (λ b. eqb b 10) (drop at s) → length s ≡ end_of s at
end_none s at l e = go (nat_lt (position_or_len (λ b. eqb b 10) (drop at s)) (length (drop at s))) refl
  where
    go : (t : Bool) → nat_lt (position_or_len (λ b. eqb b 10) (drop at s)) (length (drop at s)) ≡ t → length s ≡ end_of s at
    go true p = let k : None ≡ Some (position_or_len (λ b. eqb b 10) (drop at s)) = rw p at e in absurd cc
    go false p =
        let n : length (drop at s) ≡ length s - at = length-drop at s in
        let h : length (drop at s) ≤ position_or_len (λ b. eqb b 10) (drop at s) = ltb-false _ _ p in
        omega (arith, before (drop at s), first_short (drop at s))

pub take-first : (s : List ℕ) → take (length (first_line s)) s ≡ first_line s
take-first [] = refl
take-first (b ∷ s) = go (eqb b 10) refl (take-first s)
  where
    go : (t : Bool) → eqb b 10 ≡ t → take (length (first_line s)) s ≡ first_line s → take (length (first_line (b ∷ s))) (b ∷ s) ≡ first_line (b ∷ s)
    go true p h = rw p
    go false p h = rw p (ap (λ (z : List ℕ). b ∷ z) h)

pub end-in : (s : List ℕ) (at : ℕ) → at ≤ length s → end_of s at ≤ length s
end-in s at l =
    let h : length (first_line (drop at s)) ≤ length (drop at s) = first_short (drop at s) in
    let n : length (drop at s) ≡ length s - at = length-drop at s in
    omega arith

-- the part of the block that belongs to the line
pub part-first : (s : List ℕ) (at r : ℕ) → r ≡ end_of s at → take (r - at) (drop at s) ≡ first_line (drop at s)
part-first s at r e =
    let d : r - at ≡ length (first_line (drop at s)) = omega arith in
    ap (λ (k : ℕ). take k (drop at s)) d ∙ take-first (drop at s)

-- ---- a cut, by the way that it went
pub cuts-past : (held : List ℕ) (used : ℕ) (block : List ℕ) (at : ℕ) → length block ≤ at → Cuts held used block at (Open used) held
unfolding cut_of held_of
cuts-past held used block at l =
    let none : drop at block ≡ [] = drop_of_length-le block l in
    let k = kept-none held [] used (take-nil (length held - used)) in
    record { is = rw (none, le-ltb (at + 0) (length block) (omega arith)) (ap Open k.0); kept = rw (none, le-ltb (at + 0) (length block) (omega arith)) k.1 }

pub cuts-here : (held : List ℕ) (used : ℕ) (block : List ℕ) (at e : ℕ) → e ≡ end_of block at → (ltb e (length block) && eqb used 0) ≡ true → Cuts held used block at (Here e) held
unfolding cut_of held_of
cuts-here held used block at e h t =
    let a : ltb e (length block) ≡ true = and_left (ltb e (length block)) (eqb used 0) t in
    let b : eqb used 0 ≡ true = and_right (ltb e (length block)) (eqb used 0) t in
    record { is = rw (← h, a, b); kept = rw (← h, t) }

pub cuts-joined : (held : List ℕ) (used : ℕ) (block : List ℕ) (at e n : ℕ) (after : List ℕ) → e ≡ end_of block at → (ltb e (length block) && eqb used 0) ≡ false → e < length block
    → n ≡ used_of held used (take (e - at) (drop at block)) → after ≡ held_with held used (take (e - at) (drop at block)) → Cuts held used block at (Joined n e) after
unfolding cut_of held_of
cuts-joined held used block at e n after h t l x y =
    let a : ltb e (length block) ≡ true = lt-ltb e (length block) l in
    let b : eqb used 0 ≡ false = rw a at t in
    let p : take (e - at) (drop at block) ≡ first_line (drop at block) = part-first block at e h in
    record { is = rw (← h, a, b, ← p) (ap (λ (z : ℕ). Joined z e) x); kept = rw (← h, t, ← p) y }

pub cuts-open : (held : List ℕ) (used : ℕ) (block : List ℕ) (at e n : ℕ) (after : List ℕ) → e ≡ end_of block at → length block ≤ e
    → n ≡ used_of held used (take (e - at) (drop at block)) → after ≡ held_with held used (take (e - at) (drop at block)) → Cuts held used block at (Open n) after
unfolding cut_of held_of
cuts-open held used block at e n after h l x y =
    let a : ltb e (length block) ≡ false = le-ltb e (length block) l in
    let p : take (e - at) (drop at block) ≡ first_line (drop at block) = part-first block at e h in
    record { is = rw (← h, a, ← p) (ap Open x); kept = rw (← h, a, ← p) y }

pub one-cuts : OneCuts
one-cuts held used block at r r' after after' p q = (p.is ∙ sym q.is, p.kept ∙ sym q.kept)
