-- What 5A drives, in two runs: what is left of the image, and FF; from the start on, the image itself.
use mathlib.Core.Path.{◌≡◌, refl, sym, ap, ap₂, ◌∙◌}
use mathlib.Core.Bool.{Bool, true, false}
use mathlib.Core.List.{List, ◌++◌}
use Prim.Native.Nat.{ℕ, zero, suc, ◌+◌, ◌-◌, ◌≤◌, ◌<◌, min}
use native.Mathlib.Nat.{add-zero, add-suc, suc-add, not-suc-le-zero, le_of_suc-le-suc}
use native.Mathlib.Omega.{arith}
use lib.Dec.{ltb}
use lib.ListN.{length, get_or, replicate, length-append, length-replicate, get_or-replicate, get_or-append, get_or-eq_default}
use lib.Seq.{ext_get_or, get_or-append-add, take_all}
use borrow.Author.Tests.{ltb-true, ltb-false}
use Rattle.parts.specs.Parts.{part}
use Rattle.parts.proofs.Lay.{length_part, part_at, other-default}
use Rattle.sfdp_image.specs.Image.{image, sfdp_from}

pub length_from : (a n : ℕ) → length (sfdp_from a n) ≡ n
length_from a zero = refl
length_from a (suc n) = ap suc (length_from (suc a) n)

-- byte i is the image's at a + i, and FF past its end
pub from_at : (a n i : ℕ) → i < n → get_or (sfdp_from a n) i 0 ≡ get_or image (a + i) 255
from_at a zero i l = absurd (not-suc-le-zero l)
from_at a (suc n) zero l = ap (λ (k : ℕ). get_or image k 255) (sym (add-zero a))
from_at a (suc n) (suc i) l = from_at (suc a) n i (le_of_suc-le-suc l) ∙ ap (λ (k : ℕ). get_or image k 255) (suc-add a i ∙ sym (add-suc a i))

pub length-image : length image ≡ 112
unfolding image
length-image = refl

past : (p q : List ℕ) (k i : ℕ) → length p ≡ k → k ≤ i → get_or (p ++ q) i 0 ≡ get_or q (i - k) 0
past p q k i l h =
    let j : i ≡ length p + (i - k) = omega arith in
    ap (λ (z : ℕ). get_or (p ++ q) z 0) j ∙ get_or-append-add p q (i - k) 0

-- start is where the image is entered, and k how many of its bytes are driven
module _ (a n start k : ℕ) (s : start ≡ min a 112) (m : k ≡ min (112 - start) n) where
  in_image : start + k ≤ length image
  in_image = rw length-image (omega arith)

  pub from-runs : sfdp_from a n ≡ part image start k ++ replicate (n - k) 255
  from-runs =
      ext_get_or 0 (sfdp_from a n) (part image start k ++ replicate (n - k) 255)
      (length_from a n ∙ simp (length-append, length_part image start k in_image, length-replicate) (omega arith))
      (λ i l. let h : i < n = omega (arith, length_from a n) in from_at a n i h ∙ sym (at i h (ltb i k) refl))
    where
      at : (i : ℕ) → i < n → (b : Bool) → ltb i k ≡ b → get_or (part image start k ++ replicate (n - k) 255) i 0 ≡ get_or image (a + i) 255
      at i h true e =
          let l : i < k = ltb-true i k e in
          get_or-append (part image start k) (replicate (n - k) 255) 0 i (rw (length_part image start k in_image) l)
          ∙ part_at image start k i l
          ∙ other-default image (start + i) 0 255 (rw length-image (omega arith))
          ∙ ap (λ (j : ℕ). get_or image j 255) {x = start + i} {y = a + i} (omega arith)
      at i h false e =
          let l : k ≤ i = ltb-false i k e in
          past (part image start k) (replicate (n - k) 255) k i (length_part image start k in_image) l
          ∙ get_or-replicate (n - k) (i - k) 255 0 (omega arith)
          ∙ sym (get_or-eq_default image 255 (rw length-image (omega arith)))

-- the two runs of n bytes
pub driven : (a n start k : ℕ) (ys zs : List ℕ) → start ≡ min a 112 → k ≡ min (112 - start) n → ys ≡ part image start k → zs ≡ replicate (n - k) 255
    → ys ++ zs ≡ sfdp_from a n
driven a n start k ys zs s m e f = ap₂ (λ (y z : List ℕ). y ++ z) e f ∙ sym (from-runs a n start k s m)

-- from the start on it is the whole image, and FF after it
pub whole-image : (n : ℕ) → 112 ≤ n → sfdp_from 0 n ≡ image ++ replicate (n - 112) 0xFF
whole-image n l =
    from-runs 0 n 0 112 refl (omega arith) ∙ ap (λ (z : List ℕ). z ++ replicate (n - 112) 0xFF) (take_all 112 image (omega (arith, length-image)))
