-- The page view: an array of a model's length holds whole pages.
use mathlib.Core.Path.{◌≡◌, refl}
use mathlib.Core.Bool.{Bool, true, false, ◌&&◌, ◌||◌, false≢true}
use mathlib.Core.List.{List, [], ◌∷◌}
use Prim.Native.Nat.{ℕ, suc, ◌+◌, ◌-◌, ◌*◌, ◌/◌, ◌%◌, ◌≤◌, ◌<◌}
use native.Mathlib.Nat.{mod-lt}
use native.Mathlib.Omega.{arith}
use lib.Dec.{eqb, ltb}
use lib.ListN.{length, take, drop}
use borrow.Author.Tests.{eqb-true, ltb-true}
use Rattle.units.specs.declared.Address.{Address}
use Rattle.models.specs.Models.{Part, models, some, is_length}
use Rattle.units.proofs.Bools.{both}
use Rattle.models.proofs.Table.{every}
use Rattle.flash.specs.Arrays.{page_of}
use Rattle.parts.proofs.Lay.{length_part}

-- whole pages, at least one, and few enough that the length fits 32 bits
pub record Pages (n : ℕ) : Type 0 where
  pub whole : n % 256 ≡ 0
  pub some : 0 < n
  pub fits : n < 4294967296

pages_test : ℕ → Bool
pages_test n = eqb (n % 256) 0 && (ltb 0 n && ltb n 4294967296)

pages : (n : ℕ) → pages_test n ≡ true → Pages n
unfolding pages_test
pages n t =
    let a = both (eqb (n % 256) 0) _ t in
    let b = both (ltb 0 n) _ a.1 in
    record { whole = eqb-true _ _ a.0; some = ltb-true _ _ b.0; fits = ltb-true _ _ b.1 }

-- a test that every row's length passes is passed by each number that is some row's length
at_length : (test : ℕ → Bool) (n : ℕ) (ps : List Part) (i : ℕ) → every (λ (i : ℕ) (p : Part). test p.row.length) i ps ≡ true → some (λ (p : Part). eqb n p.row.length) ps ≡ true → test n ≡ true
at_length test n [] i t s = absurd (false≢true s)
at_length test n (p ∷ ps) i t s = go (at_length test n ps (suc i) rows.1) (eqb n p.row.length) refl s
  where
    rows : (test p.row.length ≡ true) × (every (λ (i : ℕ) (p : Part). test p.row.length) (suc i) ps ≡ true)
    rows = both (test p.row.length) _ t

    go : (some (λ (p : Part). eqb n p.row.length) ps ≡ true → test n ≡ true) → (b : Bool) → eqb n p.row.length ≡ b → (b || some (λ (p : Part). eqb n p.row.length) ps) ≡ true → test n ≡ true
    go later true e s = rw (eqb-true n p.row.length e) rows.0
    go later false e s = later s

pub length-pages : (n : ℕ) → is_length n ≡ true → Pages n
unfolding is_length pages_test
length-pages n t = pages n (at_length pages_test n models 0 refl t)

-- the page of an address modulo the length lies in the array
pub page-inside : (n at : ℕ) → Pages n → at < n → at / 256 * 256 + 256 ≤ n
page-inside n at h l =
    let w = h.whole in
    omega arith

-- the part that is handed out is the page
pub page-is : (xs : List ℕ) (a : Address) (start : ℕ) → is_length (length xs) ≡ true → start ≡ a.0 % length xs / 256 * 256 → take (start + 256 - start) (drop start xs) ≡ page_of xs a
unfolding page_of
page-is xs a start t e =
    let n : start + 256 - start ≡ 256 = omega arith in
    rw (n, e, t)

pub no-page : (xs : List ℕ) (a : Address) → is_length (length xs) ≡ false → [] ≡ page_of xs a
unfolding page_of
no-page xs a t = rw t

pub length-page_of : (xs : List ℕ) (a : Address) → is_length (length xs) ≡ true → length (page_of xs a) ≡ 256
unfolding page_of
length-page_of xs a t =
    let w = length-pages (length xs) t in
    rw t (length_part xs (a.0 % length xs / 256 * 256) 256 (page-inside (length xs) (a.0 % length xs) w (mod-lt a.0 w.some)))
