-- What a cut says of the lines of the input, whatever line is held and whatever comes after the block.
use mathlib.Core.Path.{◌≡◌, refl, sym, ap, ◌∙◌, subst, subst₂}
use mathlib.Core.Bool.{Bool, true, false, ◌&&◌}
use mathlib.Core.List.{List, [], ◌∷◌, ◌++◌, append-nil}
use Prim.Native.Nat.{ℕ, zero, suc, ◌+◌, ◌-◌, ◌≤◌, ◌<◌, min}
use native.Mathlib.Nat.{sub-zero, suc-sub-suc, not-suc-le-zero}
use native.Mathlib.Omega.{arith}
use lib.Dec.{eqb, ltb}
use lib.ListN.{length, drop, take, length-append, length-drop, length-take}
use lib.Seq.{length-take-le, take-nil, drop-drop, take_all, append_snoc}
use borrow.Author.Tests.{ltb-true, ltb-false, eqb-true}
use Rattle.parts.proofs.Lay.{length-lay, take-lay}
use Rattle.lines.specs.declared.Cut.{Cut}
use Rattle.lines.specs.declared.Cut.TheVariants.{Here, Joined, Open}
use Rattle.lines.specs.Lines.{lines_from}
use Rattle.lines.specs.Cutting.{first_line, end_of, fitting, held_with, used_of, cut_of, held_of, Holds}
use Rattle.lines.proofs.Laws.{first_short, take-first, part-first}

-- ---- lines
-- a line ended at the first newline
ended : (line s later : List ℕ) → length (first_line s) < length s → lines_from line (s ++ later) ≡ (line ++ first_line s) ∷ lines_from [] (drop (suc (length (first_line s))) s ++ later)
ended line [] later l = absurd (not-suc-le-zero l)
ended line (b ∷ s) later l = go (eqb b 10) refl (λ h. ended (line ++ (b ∷ [])) s later h)
  where
    go : (t : Bool) → eqb b 10 ≡ t
        → (length (first_line s) < length s → lines_from (line ++ (b ∷ [])) (s ++ later) ≡ (line ++ (b ∷ []) ++ first_line s) ∷ lines_from [] (drop (suc (length (first_line s))) s ++ later))
        → lines_from line ((b ∷ s) ++ later) ≡ (line ++ first_line (b ∷ s)) ∷ lines_from [] (drop (suc (length (first_line (b ∷ s)))) (b ∷ s) ++ later)
    go true p h = rw p (ap (λ (z : List ℕ). z ∷ lines_from [] (s ++ later)) (sym (append-nil line)))
    go false p h =
        let m : suc (length (first_line s)) < suc (length s) = rw p at l in
        rw p (h (omega arith) ∙ ap (λ (z : List ℕ). z ∷ lines_from [] (drop (suc (length (first_line s))) s ++ later)) (append_snoc line b (first_line s)))

-- none did
still : (line s later : List ℕ) → length s ≤ length (first_line s) → lines_from line (s ++ later) ≡ lines_from (line ++ s) later
still line [] later l = ap (λ (z : List ℕ). lines_from z later) (sym (append-nil line))
still line (b ∷ s) later l = go (eqb b 10) refl (λ h. still (line ++ (b ∷ [])) s later h)
  where
    go : (t : Bool) → eqb b 10 ≡ t
        → (length s ≤ length (first_line s) → lines_from (line ++ (b ∷ [])) (s ++ later) ≡ lines_from (line ++ (b ∷ []) ++ s) later)
        → lines_from line ((b ∷ s) ++ later) ≡ lines_from (line ++ (b ∷ s)) later
    go true p h = let m : suc (length s) ≤ 0 = rw p at l in absurd (not-suc-le-zero m)
    go false p h =
        let m : suc (length s) ≤ suc (length (first_line s)) = rw p at l in
        rw p (h (omega arith) ∙ ap (λ (z : List ℕ). lines_from z later) (append_snoc line b s))

-- ---- the held line
pub holds-none : (held : List ℕ) → Holds [] held 0
holds-none held = record { is = sym (take-nil (length held)); count = rw (take-nil (length held)) }

take-append : (m : ℕ) (xs ys : List ℕ) → take m (xs ++ ys) ≡ take m xs ++ take (m - length xs) ys
take-append m [] ys = rw (take-nil m, sub-zero m)
take-append zero (x ∷ xs) ys = let z : 0 - suc (length xs) ≡ 0 = omega arith in rw z
take-append (suc m) (x ∷ xs) ys = rw (suc-sub-suc) (ap (λ (z : List ℕ). x ∷ z) (take-append m xs ys))

-- more of the line
pub holds_more : (line part held : List ℕ) (used : ℕ) → Holds line held used → Holds (line ++ part) (held_with held used part) (used_of held used part)
holds_more line part held used h =
    let m : ℕ = length held in
    let n : length (take m line) ≡ min m (length line) = length-take m line in
    let u : used ≡ length (take m line) = h.count in
    let fit : fitting held used part ≡ take (m - length line) part = ap (λ (k : ℕ). take k part) {x = m - used} {y = m - length line} (omega arith) in
    let k : length (fitting held used part) ≡ min (m - used) (length part) = length-take (m - used) part in
    let same : length (held_with held used part) ≡ m = length-lay held used (fitting held used part) (omega arith) in
    let front : length (take used held ++ fitting held used part) ≡ used_of held used part = length-append (take used held) (fitting held used part) ∙ ap (λ (z : ℕ). z + length (fitting held used part)) (length-take-le used held (omega arith)) in
    let got : take (used_of held used part) (held_with held used part) ≡ take used held ++ fitting held used part = take-lay held used (fitting held used part) (omega arith) in
    let want : take m (line ++ part) ≡ take used held ++ fitting held used part =
    take-append m line part ∙ ap (λ (z : List ℕ). z ++ take (m - length line) part) (sym h.is) ∙ ap (λ (z : List ℕ). take used held ++ z) (sym fit) in
    record {
      is = got ∙ sym want ∙ ap (λ (z : ℕ). take z (line ++ part)) (sym same);
      count = sym front ∙ ap length (sym want) ∙ ap (λ (z : ℕ). length (take z (line ++ part))) (sym same);
    }

length-kept : (line part held : List ℕ) (used : ℕ) → Holds line held used → length (held_with held used part) ≡ length held
length-kept line part held used h =
    let n : length (take (length held) line) ≡ min (length held) (length line) = length-take (length held) line in
    let u : used ≡ length (take (length held) line) = h.count in
    let k : length (fitting held used part) ≡ min (length held - used) (length part) = length-take (length held - used) part in
    length-lay held used (fitting held used part) (omega arith)

-- the buffer keeps its length
pub length-held : (line held : List ℕ) (used : ℕ) (block : List ℕ) (at : ℕ) → Holds line held used → length (held_of held used block at) ≡ length held
unfolding held_of
length-held line held used block at h = go (ltb (end_of block at) (length block) && eqb used 0) refl
  where
    go : (t : Bool) → (ltb (end_of block at) (length block) && eqb used 0) ≡ t → length (held_of held used block at) ≡ length held
    go true p = rw p
    go false p = rw p (length-kept line (first_line (drop at block)) held used h)

-- ---- the three ways of a cut
-- the line was `whole`, and the next starts at `next`
abbrev pub Ended : List ℕ → List ℕ → ℕ → List ℕ → ℕ → Type 0
Ended line block at whole next = (later : List ℕ) → lines_from line (drop at block ++ later) ≡ whole ∷ lines_from [] (drop next block ++ later)

ended_at : (line block : List ℕ) (at : ℕ) → end_of block at < length block → Ended line block at (line ++ first_line (drop at block)) (end_of block at + 1)
ended_at line block at l later =
    let n : length (drop at block) ≡ length block - at = length-drop at block in
    let f : ℕ = length (first_line (drop at block)) in
    let rest : drop (suc f) (drop at block) ≡ drop (end_of block at + 1) block =
    drop-drop (suc f) at block ∙ ap (λ (k : ℕ). drop k block) {x = at + suc f} {y = at + f + 1} (omega arith) in
    ended line (drop at block) later (omega arith) ∙ ap (λ (z : List ℕ). (line ++ first_line (drop at block)) ∷ lines_from [] (z ++ later)) rest

-- which way a cut went
data Way (held : List ℕ) (used : ℕ) (block : List ℕ) (at : ℕ) : Cut → Type 0 where
  way-here : end_of block at < length block → used ≡ 0 → held_of held used block at ≡ held → Way held used block at (Here (end_of block at))
  way-joined : end_of block at < length block → held_of held used block at ≡ held_with held used (first_line (drop at block)) → Way held used block at (Joined (used_of held used (first_line (drop at block))) (end_of block at))
  way-open : length block ≤ end_of block at → held_of held used block at ≡ held_with held used (first_line (drop at block)) → Way held used block at (Open (used_of held used (first_line (drop at block))))

way : (held : List ℕ) (used : ℕ) (block : List ℕ) (at : ℕ) → Way held used block at (cut_of held used block at)
unfolding cut_of held_of
way held used block at = go (ltb (end_of block at) (length block)) refl (eqb used 0) refl
  where
    go : (t : Bool) → ltb (end_of block at) (length block) ≡ t → (u : Bool) → eqb used 0 ≡ u → Way held used block at (cut_of held used block at)
    go true p true q = rw (p, q) (way-here (ltb-true _ _ p) (eqb-true used 0 q) (rw (p, q)))
    go true p false q = rw (p, q) (way-joined (ltb-true _ _ p) (rw (p, q)))
    go false p u q = rw p (way-open (ltb-false _ _ p) (rw p))

never : ◌≡◌ {A = ℕ} 0 1 → ⊥
never e = omega arith

-- where a cut ends, and how much is held, whatever is held
pub here_in : (held : List ℕ) (used : ℕ) (block : List ℕ) (at e : ℕ) → cut_of held used block at ≡ Here e → (at ≤ e) × (e < length block)
here_in held used block at e c = go (cut_of held used block at) (way held used block at) c
  where
    go : (r : Cut) → Way held used block at r → r ≡ Here e → (at ≤ e) × (e < length block)
    go r (way-here l z k) c = let x : end_of block at ≡ e = cc in (omega arith, omega arith)
    go r (way-joined l k) c = absurd (never cc)
    go r (way-open l k) c = absurd (never cc)

used-in : (held part : List ℕ) (used : ℕ) → used ≤ length held → used_of held used part ≤ length held
used-in held part used l = let k : length (fitting held used part) ≡ min (length held - used) (length part) = length-take (length held - used) part in omega arith

pub joined_in : (held : List ℕ) (used : ℕ) (block : List ℕ) (at n e : ℕ) → cut_of held used block at ≡ Joined n e → (at ≤ e) × (e < length block) × (used ≤ length held → n ≤ length held)
joined_in held used block at n e c = go (cut_of held used block at) (way held used block at) c
  where
    go : (r : Cut) → Way held used block at r → r ≡ Joined n e → (at ≤ e) × (e < length block) × (used ≤ length held → n ≤ length held)
    go r (way-joined l k) c =
        let x : end_of block at ≡ e = cc in
        let y : used_of held used (first_line (drop at block)) ≡ n = cc in
        (omega arith, omega arith, λ u. omega (arith, used-in held (first_line (drop at block)) used u))
    go r (way-here l z k) c = absurd (never cc)
    go r (way-open l k) c = absurd (never cc)

pub open_in : (held : List ℕ) (used : ℕ) (block : List ℕ) (at n : ℕ) → cut_of held used block at ≡ Open n → used ≤ length held → n ≤ length held
open_in held used block at n c u = go (cut_of held used block at) (way held used block at) c
  where
    go : (r : Cut) → Way held used block at r → r ≡ Open n → n ≤ length held
    go r (way-open l k) c =
        let y : used_of held used (first_line (drop at block)) ≡ n = cc in
        omega (arith, used-in held (first_line (drop at block)) used u)
    go r (way-here l z k) c = absurd (never cc)
    go r (way-joined l k) c = absurd (never cc)

-- the line lies in the block
pub record SaysHere (line held : List ℕ) (used : ℕ) (block : List ℕ) (at e : ℕ) : Type 0 where
  pub from : at ≤ e
  pub within : e < length block
  pub kept : held_of held used block at ≡ held
  pub ended : Ended line block at (take (e - at) (drop at block)) (e + 1)

here_of : (line held : List ℕ) (used : ℕ) (block : List ℕ) (at e : ℕ) → 0 < length held → Holds line held used → (r : Cut) → Way held used block at r → r ≡ Here e → SaysHere line held used block at e
here_of line held used block at e m h r (way-here l z k) c =
    let x : end_of block at ≡ e = cc in
    let n : length (take (length held) line) ≡ min (length held) (length line) = length-take (length held) line in
    let u : used ≡ length (take (length held) line) = h.count in
    let empty : line ≡ [] = none line (omega arith) in
    record {
      from = omega arith;
      within = omega arith;
      kept = k;
      ended = λ later.
          ended_at line block at l later
          ∙ ap (λ (z : List ℕ). (z ++ first_line (drop at block)) ∷ lines_from [] (drop (end_of block at + 1) block ++ later)) empty
          ∙ ap (λ (z : List ℕ). z ∷ lines_from [] (drop (end_of block at + 1) block ++ later)) (sym (part-first block at e (sym x)))
          ∙ ap (λ (z : ℕ). take (e - at) (drop at block) ∷ lines_from [] (drop (z + 1) block ++ later)) x;
    }
  where
    none : (s : List ℕ) → length s ≡ 0 → s ≡ []
    none [] p = refl
    none (b ∷ s) p = absurd (omega arith)
here_of line held used block at e m h r (way-joined l k) c = absurd (never cc)
here_of line held used block at e m h r (way-open l k) c = absurd (never cc)

pub says_here : (line held : List ℕ) (used : ℕ) (block : List ℕ) (at e : ℕ) → 0 < length held → Holds line held used → cut_of held used block at ≡ Here e → SaysHere line held used block at e
says_here line held used block at e m h c = here_of line held used block at e m h (cut_of held used block at) (way held used block at) c

-- the line began in an earlier block: `whole` is held
pub record SaysJoined (line held : List ℕ) (used : ℕ) (block : List ℕ) (at n e : ℕ) : Type 0 where
  pub from : at ≤ e
  pub within : e < length block
  pub holds : Holds (line ++ first_line (drop at block)) (held_of held used block at) n
  pub ended : Ended line block at (line ++ first_line (drop at block)) (e + 1)

joined_of : (line held : List ℕ) (used : ℕ) (block : List ℕ) (at n e : ℕ) → Holds line held used → (r : Cut) → Way held used block at r → r ≡ Joined n e → SaysJoined line held used block at n e
joined_of line held used block at n e h r (way-joined l k) c =
    let x : end_of block at ≡ e = cc in
    let y : used_of held used (first_line (drop at block)) ≡ n = cc in
    record {
      from = omega arith;
      within = omega arith;
      holds = subst₂ (λ (a : List ℕ) (b : ℕ). Holds (line ++ first_line (drop at block)) a b) (sym k) y (holds_more line (first_line (drop at block)) held used h);
      ended = λ later.
          ended_at line block at l later ∙ ap (λ (z : ℕ). (line ++ first_line (drop at block)) ∷ lines_from [] (drop (z + 1) block ++ later)) x;
    }
joined_of line held used block at n e h r (way-here l z k) c = absurd (never cc)
joined_of line held used block at n e h r (way-open l k) c = absurd (never cc)

pub says-joined : (line held : List ℕ) (used : ℕ) (block : List ℕ) (at n e : ℕ) → Holds line held used → cut_of held used block at ≡ Joined n e → SaysJoined line held used block at n e
says-joined line held used block at n e h c = joined_of line held used block at n e h (cut_of held used block at) (way held used block at) c

-- no line ended: what is there of it is held
pub record SaysOpen (line held : List ℕ) (used : ℕ) (block : List ℕ) (at n : ℕ) : Type 0 where
  pub holds : Holds (line ++ drop at block) (held_of held used block at) n
  pub goes_on : (later : List ℕ) → lines_from line (drop at block ++ later) ≡ lines_from (line ++ drop at block) later

open_of : (line held : List ℕ) (used : ℕ) (block : List ℕ) (at n : ℕ) → Holds line held used → (r : Cut) → Way held used block at r → r ≡ Open n → SaysOpen line held used block at n
open_of line held used block at n h r (way-open l k) c =
    let y : used_of held used (first_line (drop at block)) ≡ n = cc in
    let d : length (drop at block) ≡ length block - at = length-drop at block in
    let f : length (first_line (drop at block)) ≤ length (drop at block) = first_short (drop at block) in
    let all : first_line (drop at block) ≡ drop at block = sym (take-first (drop at block)) ∙ take_all (length (first_line (drop at block))) (drop at block) (omega arith) in
    record {
      holds = subst₂ (λ (a : List ℕ) (b : ℕ). Holds (line ++ drop at block) a b) (sym k) y
          (subst (λ (z : List ℕ). Holds (line ++ z) (held_with held used (first_line (drop at block))) (used_of held used (first_line (drop at block)))) all (holds_more line (first_line (drop at block)) held used h));
      goes_on = λ later. still line (drop at block) later (omega arith);
    }
open_of line held used block at n h r (way-here l z k) c = absurd (never cc)
open_of line held used block at n h r (way-joined l k) c = absurd (never cc)

pub says-open : (line held : List ℕ) (used : ℕ) (block : List ℕ) (at n : ℕ) → Holds line held used → cut_of held used block at ≡ Open n → SaysOpen line held used block at n
says-open line held used block at n h c = open_of line held used block at n h (cut_of held used block at) (way held used block at) c
