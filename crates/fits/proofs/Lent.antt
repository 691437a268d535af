-- The 272 bytes of a packed state: what they spell fits them, and the page data are lent as a part of them.
use mathlib.Core.Path.{◌≡◌, ap, subst, sym, ◌∙◌}
use mathlib.Core.Bool.{true}
use mathlib.Core.List.{List, [], ◌++◌, append-nil}
use Prim.Native.Nat.{ℕ}
use native.Mathlib.Omega.{arith}
use lib.ListN.{length, take, drop, length-append, length-drop, drop_of_length-le}
use lib.Seq.{length-take-le, take_all, drop_at}
use borrow.Rule.Slice.PartMut.{mid_of, put_mid}
use Rattle.states.specs.declared.State.{State}
use Rattle.packing.specs.Packing.{pack_of, packed, page_in, read_of, is_packing, unpack_of}
use Rattle.packing.proofs.Packing.{Small, unpack-read, pack-unpack}

-- ---- what packed bytes spell fits them
read_small : (s : State) (page : List ℕ) → Small (read_of (packed s page))
unfolding read_of pack_of
read_small s page = record { level = omega arith; short = omega arith; brief = omega arith; near = omega arith }

pub packing-small : (xs : List ℕ) → is_packing xs ≡ true → Small (unpack_of xs)
packing-small xs e = subst Small (sym (unpack-read xs e)) (subst (λ (ys : List ℕ). Small (read_of ys)) (pack-unpack xs e) (read_small (unpack_of xs) (page_in xs)))

-- ---- the page data are lent, and what comes back stands in their place
module _ (xs : List ℕ) (n : length xs ≡ 272) where
  pub page-long : length (page_in xs) ≡ 256
  page-long = length-drop 16 xs ∙ omega arith

  pub page-lent : mid_of 16 256 xs ≡ page_in xs
  page-lent = take_all 256 (page_in xs) (omega (arith, page-long))

  pub page-back : (page : List ℕ) → put_mid 16 256 xs page ≡ take 16 xs ++ page
  page-back page =
      let e : drop 256 (page_in xs) ≡ [] = drop_of_length-le (page_in xs) {i = 256} (omega (arith, page-long)) in
      rw e (ap (λ (ys : List ℕ). take 16 xs ++ ys) (append-nil page))

  head-length : length (take 16 xs) ≡ 16
  head-length = length-take-le 16 xs (omega arith)

  pub back-page : (page : List ℕ) → page_in (put_mid 16 256 xs page) ≡ page
  back-page page = ap page_in (page-back page) ∙ drop_at (take 16 xs) page 16 head-length

  pub back-length : (page : List ℕ) → length page ≡ 256 → length (put_mid 16 256 xs page) ≡ 272
  back-length page k = ap length (page-back page) ∙ length-append (take 16 xs) page ∙ omega (arith, head-length, k)
