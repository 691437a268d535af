-- Laws of a part of a list and of a list with one part replaced.
use mathlib.Core.Path.{◌≡◌, refl, sym, ap, ◌∙◌}
use mathlib.Core.List.{List, [], ◌∷◌, ◌++◌, append_assoc}
use Prim.Native.Nat.{ℕ, zero, suc, ◌+◌, ◌-◌, ◌≤◌, ◌<◌}
use native.Mathlib.Nat.{add-zero, add_assoc, not-suc-le-zero, le_of_suc-le-suc}
use native.Mathlib.Numerals.{add-one}
use native.Mathlib.Omega.{arith}
use lib.ListN.{length, take, drop, get_or, set, length-append, length-drop, take-append-drop, get_or-append, replicate, length-replicate}
use lib.Seq.{set_split, length-take-le, take_at, drop_at, take-append-le, drop-append-le, take-append-add, drop-append-add, get_or-append-add, get_or-take, get_or-drop, drop-drop}
use borrow.Rule.Slice.PartMut.{put_mid, Post-is, mid_of, mid_len}
use Rattle.parts.specs.Parts.{part, lay}

-- ---- a part
pub length_part : (xs : List ℕ) (at n : ℕ) → at + n ≤ length xs → length (part xs at n) ≡ n
length_part xs at n h = length-take-le n (drop at xs) (simp length-drop (omega arith))

pub part_at : (xs : List ℕ) (at n k : ℕ) → k < n → get_or (part xs at n) k 0 ≡ get_or xs (at + k) 0
part_at xs at n k l = get_or-take n (drop at xs) k 0 l ∙ get_or-drop at xs k 0

-- a list's entry does not depend on what stands in for the entries that it lacks
pub other-default : {A : Type 0} (xs : List A) (k : ℕ) (d e : A) → k < length xs → get_or xs k d ≡ get_or xs k e
other-default [] k d e h = absurd (not-suc-le-zero h)
other-default (x ∷ xs) zero d e h = refl
other-default (x ∷ xs) (suc k) d e h = other-default xs k d e (le_of_suc-le-suc h)

-- ---- one part replaced
-- nothing in place of nothing
pub lay-none : (xs : List ℕ) (at : ℕ) → lay xs at [] ≡ xs
unfolding lay
lay-none xs at = rw add-zero (take-append-drop at xs)

-- one element stored
pub lay-one : (xs : List ℕ) (at v : ℕ) → at < length xs → set xs at v ≡ lay xs at (v ∷ [])
unfolding lay
lay-one xs at v l = set_split xs at v l ∙ ap (λ (n : ℕ). take at xs ++ (v ∷ drop n xs)) (sym (add-one at))

-- the length stays
pub length-lay : (xs : List ℕ) (at : ℕ) (ys : List ℕ) → at + length ys ≤ length xs → length (lay xs at ys) ≡ length xs
unfolding lay
length-lay xs at ys h = simp (length-append, length-drop, length-take-le at xs (omega arith)) (omega arith)

-- before the part, in it and after it
pub lay-before : (xs : List ℕ) (at : ℕ) (ys : List ℕ) (k : ℕ) → at ≤ length xs → k < at → get_or (lay xs at ys) k 0 ≡ get_or xs k 0
unfolding lay
lay-before xs at ys k h l =
    get_or-append (take at xs) (ys ++ drop (at + length ys) xs) 0 k (rw (length-take-le at xs h) l) ∙ get_or-take at xs k 0 l

pub lay-inside : (xs : List ℕ) (at : ℕ) (ys : List ℕ) (k : ℕ) → at ≤ length xs → at ≤ k → k < at + length ys → get_or (lay xs at ys) k 0 ≡ get_or ys (k - at) 0
unfolding lay
lay-inside xs at ys k h l m =
    let e : k ≡ length (take at xs) + (k - at) = rw (length-take-le at xs h) (omega arith) in
    ap (λ (n : ℕ). get_or (lay xs at ys) n 0) e
    ∙ get_or-append-add (take at xs) (ys ++ drop (at + length ys) xs) (k - at) 0
    ∙ get_or-append ys (drop (at + length ys) xs) 0 (k - at) (omega arith)

pub lay-after : (xs : List ℕ) (at : ℕ) (ys : List ℕ) (k : ℕ) → at ≤ length xs → at + length ys ≤ k → get_or (lay xs at ys) k 0 ≡ get_or xs k 0
unfolding lay
lay-after xs at ys k h l =
    let front : length (take at xs ++ ys) ≡ at + length ys = simp (length-append, length-take-le at xs h) in
    let e : k ≡ length (take at xs ++ ys) + (k - (at + length ys)) = omega arith in
    ap (λ (z : List ℕ). get_or z k 0) (sym (append_assoc (take at xs) ys (drop (at + length ys) xs)))
    ∙ ap (λ (n : ℕ). get_or ((take at xs ++ ys) ++ drop (at + length ys) xs) n 0) e
    ∙ get_or-append-add (take at xs ++ ys) (drop (at + length ys) xs) (k - (at + length ys)) 0
    ∙ get_or-drop (at + length ys) xs (k - (at + length ys)) 0
    ∙ ap (λ (n : ℕ). get_or xs n 0) {x = at + length ys + (k - (at + length ys))} {y = k} (omega arith)

-- the part is what was laid there
pub part-lay : (xs : List ℕ) (at : ℕ) (ys : List ℕ) → at ≤ length xs → part (lay xs at ys) at (length ys) ≡ ys
unfolding lay
part-lay xs at ys h =
    rw (drop_at (take at xs) (ys ++ drop (at + length ys) xs) at (length-take-le at xs h)) (take_at ys (drop (at + length ys) xs) (length ys) refl)

-- what stands up to the end of the part
pub take-lay : (xs : List ℕ) (at : ℕ) (ys : List ℕ) → at ≤ length xs → take (at + length ys) (lay xs at ys) ≡ take at xs ++ ys
unfolding lay
take-lay xs at ys h =
    rw (← (append_assoc (take at xs) ys (drop (at + length ys) xs)))
    (take_at (take at xs ++ ys) (drop (at + length ys) xs) (at + length ys) (simp (length-append, length-take-le at xs h)))

-- a part laid where it stood changes nothing
pub lay-part : (xs : List ℕ) (at n : ℕ) → at + n ≤ length xs → lay xs at (part xs at n) ≡ xs
unfolding lay
lay-part xs at n h =
    rw (length_part xs at n h, ← (drop-drop n at xs), take-append-drop n (drop at xs)) (take-append-drop at xs)

-- a part of the part that was laid
pub lay-in-lay : (xs : List ℕ) (at : ℕ) (ys : List ℕ) (k : ℕ) (zs : List ℕ) → at ≤ length xs → k + length zs ≤ length ys → lay (lay xs at ys) (at + k) zs ≡ lay xs at (lay ys k zs)
unfolding lay
lay-in-lay xs at ys k zs h l =
    let p = take at xs in
    let q = drop (at + length ys) xs in
    let n : length p ≡ at = length-take-le at xs h in
    let front : take (at + k) (p ++ (ys ++ q)) ≡ p ++ take k ys =
    ap (λ (m : ℕ). take (m + k) (p ++ (ys ++ q))) (sym n) ∙ take-append-add p (ys ++ q) k ∙ ap (λ (z : List ℕ). p ++ z) (take-append-le k ys q (omega arith)) in
    let back : drop (at + k + length zs) (p ++ (ys ++ q)) ≡ drop (k + length zs) ys ++ q =
    ap (λ (m : ℕ). drop m (p ++ (ys ++ q))) {x = at + k + length zs} {y = length p + (k + length zs)} (omega arith)
    ∙ drop-append-add p (ys ++ q) (k + length zs) ∙ drop-append-le (k + length zs) ys q l in
    rw (front, back, length-lay ys k zs l) (simp append_assoc)

-- what is laid right after it
pub lay-next : (xs : List ℕ) (at : ℕ) (ys zs : List ℕ) → at ≤ length xs → lay (lay xs at ys) (at + length ys) zs ≡ lay xs at (ys ++ zs)
unfolding lay
lay-next xs at ys zs h =
    let p = take at xs in
    let q = drop (at + length ys) xs in
    let n : length (p ++ ys) ≡ at + length ys = simp (length-append, length-take-le at xs h) in
    let front : take (at + length ys) (p ++ (ys ++ q)) ≡ p ++ ys =
    rw (← (append_assoc p ys q)) (take_at (p ++ ys) q (at + length ys) n) in
    let back : drop (at + length ys + length zs) (p ++ (ys ++ q)) ≡ drop (at + length ys + length zs) xs =
    rw (← (append_assoc p ys q), ← (drop-drop (length zs) (at + length ys) ((p ++ ys) ++ q)), drop_at (p ++ ys) q (at + length ys) n) (drop-drop (length zs) (at + length ys) xs) in
    rw (front, back, length-append ys zs) (simp (append_assoc, add_assoc))

-- what a part lent to a call comes back as
pub put_back : (at end : ℕ) (xs ys : List ℕ) → at ≤ end → length ys ≡ end - at → put_mid at (end - at) xs ys ≡ lay xs at ys
unfolding lay
put_back at end xs ys h e = rw (Post-is at end xs h, e) (ap (λ (n : ℕ). take at xs ++ (ys ++ drop n xs)) {x = end} {y = at + (end - at)} (omega arith))

-- the same where its start is called by another name, and it is known what comes back
pub part-back : (start end at : ℕ) (xs ys zs : List ℕ) → start ≡ at → start ≤ end → ys ≡ zs → length zs ≡ end - start → put_mid start (end - start) xs ys ≡ lay xs at zs
part-back start end at xs ys zs e h f l =
    put_back start end xs ys h (ap length f ∙ l) ∙ ap (lay xs start) f ∙ ap (λ (m : ℕ). lay xs m zs) e

-- ---- a part that was lent, and came back
-- from the fill
pub fill-back : (start end at n v : ℕ) (xs ys : List ℕ) → start ≡ at → start + n ≡ end → end ≤ length xs → ys ≡ replicate (length (mid_of start (end - start) xs)) v
    → put_mid start (end - start) xs ys ≡ lay xs at (replicate n v)
fill-back start end at n v xs ys e m h f =
    let long : length (mid_of start (end - start) xs) ≡ n = mid_len start end xs h ∙ omega arith in
    part-back start end at xs ys (replicate n v) e (omega arith) (f ∙ ap (λ (k : ℕ). replicate k v) long) (length-replicate n v ∙ omega arith)
