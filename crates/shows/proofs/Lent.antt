-- A part of the output that was lent, and came back filled.
use mathlib.Core.Path.{◌≡◌, ap, ◌∙◌}
use mathlib.Core.List.{List}
use Prim.Native.Nat.{ℕ, ◌-◌, ◌≤◌}
use lib.ListN.{length, replicate, length-replicate}
use borrow.Rule.Slice.PartMut.{put_mid, mid_of, mid_len}
use Rattle.parts.specs.Parts.{lay}
use Rattle.rings.specs.Ring.{ring}
use Rattle.sfdp_image.specs.Image.{sfdp_from}
use Rattle.parts.proofs.Lay.{put_back}
use Rattle.rings.proofs.Ring.{length-ring}
use Rattle.sfdp_image.proofs.Driven.{length_from}

module _ (start end : ℕ) (out ys : List ℕ) (h : start ≤ end) (m : end ≤ length out) where
  lent : (f : ℕ → List ℕ) → ((n : ℕ) → length (f n) ≡ n) → ys ≡ f (length (mid_of start (end - start) out)) → put_mid start (end - start) out ys ≡ lay out start (f (end - start))
  lent f l e =
      let size : ys ≡ f (end - start) = e ∙ ap f (mid_len start end out m) in
      put_back start end out ys h (ap length size ∙ l (end - start)) ∙ ap (lay out start) size

  -- with one byte, with bytes over and over, and with the table
  pub lent-filled : (v : ℕ) → ys ≡ replicate (length (mid_of start (end - start) out)) v → put_mid start (end - start) out ys ≡ lay out start (replicate (end - start) v)
  lent-filled v = lent (λ (n : ℕ). replicate n v) (λ n. length-replicate n v)

  pub lent-ring : (p : List ℕ) → ys ≡ ring p 0 (length (mid_of start (end - start) out)) → put_mid start (end - start) out ys ≡ lay out start (ring p 0 (end - start))
  lent-ring p = lent (ring p 0) (length-ring p 0)

  pub lent-table : (a : ℕ) → ys ≡ sfdp_from a (length (mid_of start (end - start) out)) → put_mid start (end - start) out ys ≡ lay out start (sfdp_from a (end - start))
  lent-table a = lent (sfdp_from a) (length_from a)
