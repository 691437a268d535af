-- The laws of `Put`: texts that are put one after the other. No contract cites this file.
use mathlib.Core.Path.{◌≡◌, refl, sym, ap, ◌∙◌, subst}
use mathlib.Core.List.{List, [], ◌∷◌, ◌++◌}
use Prim.Native.Nat.{ℕ, ◌+◌, ◌-◌, ◌≤◌, ◌<◌}
use native.Mathlib.Nat.{add-zero}
use native.Mathlib.Omega.{arith}
use lib.ListN.{length, set, replicate, length-append, length-replicate}
use borrow.Rule.Slice.PartMut.{put_mid}
use Rattle.parts.specs.Parts.{lay}
use Rattle.parts.proofs.Lay.{lay-none, lay-one, lay-next, length-lay, put_back}
use Rattle.text.specs.Put.{Put, OnePut}

pub put-none : (d : List ℕ) (at : ℕ) → at ≤ length d → Put [] d at d at
put-none d at l = record { room = omega arith; is = sym (lay-none d at); next = sym (add-zero at) }

pub put_one : (b : ℕ) (d : List ℕ) (at : ℕ) → at < length d → Put (b ∷ []) d at (set d at b) (at + 1)
put_one b d at l = record { room = omega arith; is = lay-one d at b l; next = refl }

-- a part of the buffer that was lent, and came back as the text
pub put_part : (text d e : List ℕ) (at : ℕ) → at + length text ≤ length d → e ≡ text → Put text d at (put_mid at (at + length text - at) d e) (at + length text)
put_part text d e at l h =
    let n : length e ≡ at + length text - at = ap length h ∙ omega arith in
    record { room = l; is = put_back at (at + length text) d e (omega arith) n ∙ ap (lay d at) h; next = refl }

-- or was filled with one byte
pub put_run : (b n : ℕ) (d e : List ℕ) (at : ℕ) → at + n ≤ length d → e ≡ replicate n b → Put (replicate n b) d at (put_mid at (at + n - at) d e) (at + n)
put_run b n d e at l h =
    let z : length (replicate n b) ≡ n = length-replicate n b in
    subst (λ (k : ℕ). Put (replicate n b) d at (put_mid at (at + k - at) d e) (at + k)) z (put_part (replicate n b) d e at (omega arith) h)

-- the buffer keeps its length
pub put_same : {ys d : List ℕ} {at : ℕ} {e : List ℕ} {r : ℕ} → Put ys d at e r → length e ≡ length d
put_same {ys} {d} {at} {e} {r} p = ap length p.is ∙ length-lay d at ys p.room

-- one text, and another from where it ended
pub put_then : {ys zs d : List ℕ} {at : ℕ} {e : List ℕ} {m : ℕ} {f : List ℕ} {r : ℕ} → Put ys d at e m → Put zs e m f r → Put (ys ++ zs) d at f r
put_then {ys} {zs} {d} {at} {e} {m} {f} {r} p q =
    let same : length e ≡ length d = put_same p in
    let room : m + length zs ≤ length e = q.room in
    let place : m ≡ at + length ys = p.next in
    record {
      room = simp length-append (omega arith);
      is =
          q.is ∙ ap (λ (z : List ℕ). lay z m zs) p.is ∙ ap (λ (n : ℕ). lay (lay d at ys) n zs) place ∙ lay-next d at ys zs (omega (arith, p.room));
      next = q.next ∙ simp length-append (omega arith);
    }

-- the same text in other words
pub put_as : {ys zs d : List ℕ} {at : ℕ} {e : List ℕ} {r : ℕ} → Put ys d at e r → ys ≡ zs → Put zs d at e r
put_as {ys} {zs} {d} {at} {e} {r} p h = subst (λ (z : List ℕ). Put z d at e r) h p

pub one-put : OnePut
one-put text d at e e' r r' p q = (p.is ∙ sym q.is, p.next ∙ sym q.next)
