-- What the writer lays is read back.
use mathlib.Core.Path.{◌≡◌, refl, ap, ◌∙◌}
use mathlib.Core.Bool.{true, ◌&&◌, false≢true}
use mathlib.Core.List.{List, [], ◌∷◌, ◌++◌}
use Prim.Native.Nat.{ℕ, zero, suc, ◌+◌, ◌*◌, ◌%◌, ◌^◌, ◌≤◌, ◌<◌}
use native.Mathlib.Omega.{arith}
use lib.Dec.{leb}
use lib.ListN.{length, get_or}
use borrow.Author.Tests.{leb-true, ne_eqb}
use Rattle.parts.specs.Parts.{spelt, bytes_of}
use Rattle.parts.proofs.Bytes.{spelt-bytes}
use Rattle.answers.specs.Answers.{Done}
use Rattle.sfdp.specs.Sfdp.{EraseType, erase_type, entry, pairs, fits_slot, all_fit, is_list, image_of, words_of, pointer_of, table_refusal, existing, entry_of}
use Rattle.sfdp.specs.Promises.{flat}
use Rattle.units.proofs.Bools.{both}
use Rattle.sfdp.proofs.Inside.{inside-taken}
use Rattle.sfdp.proofs.Writer.{list-fits_slot, laid_of, page}

-- ---- the types that fit exist
kept : (es : List EraseType) → all_fit es ≡ true → existing es ≡ es
kept [] h = refl
kept (e ∷ es) h =
    let k = both (fits_slot e) (all_fit es) h in
    let some = leb-true 1 e.exponent (both (leb 1 e.exponent) (leb e.exponent 255 && leb e.opcode 255) k.0).0 in
    rw (ne_eqb e.exponent 0 (λ z. omega arith), kept es k.1)

keeps : (ns : List ℕ) → is_list ns ≡ true → existing (pairs ns) ≡ pairs ns
keeps ns t = kept (pairs ns) (list-fits_slot ns t).1

-- the four slots that the writer fills
abbrev slots_of : List ℕ → List EraseType
slots_of ns =
    erase_type (get_or ns 0 0) (get_or ns 1 0xFF) ∷ erase_type (get_or ns 2 0) (get_or ns 3 0xFF) ∷ erase_type (get_or ns 4 0) (get_or ns 5 0xFF) ∷ erase_type (get_or ns 6 0) (get_or ns 7 0xFF) ∷ []

slots-back : (ns : List ℕ) → is_list ns ≡ true → existing (slots_of ns) ≡ pairs ns
slots-back [] t = refl
slots-back (a ∷ []) t = absurd (false≢true t)
slots-back (a ∷ b ∷ []) t = keeps (a ∷ b ∷ []) t
slots-back (a ∷ b ∷ c ∷ []) t = absurd (false≢true t)
slots-back (a ∷ b ∷ c ∷ d ∷ []) t = keeps (a ∷ b ∷ c ∷ d ∷ []) t
slots-back (a ∷ b ∷ c ∷ d ∷ e ∷ []) t = absurd (false≢true t)
slots-back (a ∷ b ∷ c ∷ d ∷ e ∷ f ∷ []) t = keeps (a ∷ b ∷ c ∷ d ∷ e ∷ f ∷ []) t
slots-back (a ∷ b ∷ c ∷ d ∷ e ∷ f ∷ g ∷ []) t = absurd (false≢true t)
slots-back (a ∷ b ∷ c ∷ d ∷ e ∷ f ∷ g ∷ h ∷ []) t = keeps (a ∷ b ∷ c ∷ d ∷ e ∷ f ∷ g ∷ h ∷ []) t
slots-back (a ∷ b ∷ c ∷ d ∷ e ∷ f ∷ g ∷ h ∷ i ∷ more) t =
    let ns = a ∷ b ∷ c ∷ d ∷ e ∷ f ∷ g ∷ h ∷ i ∷ more in
    let k : length ns ≤ 8 = (list-fits_slot ns t).0 in
    absurd (omega arith)

-- ---- the page, with any bytes after it
module _ (n a ao b bo c co d do' : ℕ) (rest : List ℕ) where
  abbrev whole : List ℕ
  whole = laid_of n a ao b bo c co d do' ++ rest

  long : 112 ≤ length whole
  long = omega arith

  laid-taken : table_refusal whole ≡ Done
  laid-taken = let l = long in inside-taken whole (record { signed = refl; headers = omega arith; first = omega arith; tables = at })
    where
      at : (i : ℕ) → i < 2 → pointer_of whole i + 4 * words_of whole i ≤ length whole
      at zero m = let l = long in omega arith
      at (suc zero) m = let l = long in omega arith
      at (suc (suc i)) m = absurd (omega arith)

  laid-entry : entry_of whole ≡ entry (spelt (bytes_of 4 n)) (existing (erase_type a ao ∷ erase_type b bo ∷ erase_type c co ∷ erase_type d do' ∷ []))
  unfolding entry_of
  laid-entry = refl

pub page-back : (n : ℕ) (ns rest : List ℕ) → n < 2 ^ 32 → is_list ns ≡ true
    → (table_refusal (image_of (entry n (pairs ns)) ++ rest) ≡ Done) × (entry_of (image_of (entry n (pairs ns)) ++ rest) ≡ entry n (pairs ns))
page-back n ns rest l t =
    rw (← (page n ns t)) (
      laid-taken n (get_or ns 0 0) (get_or ns 1 0xFF) (get_or ns 2 0) (get_or ns 3 0xFF) (get_or ns 4 0) (get_or ns 5 0xFF) (get_or ns 6 0) (get_or ns 7 0xFF) rest,
      laid-entry n (get_or ns 0 0) (get_or ns 1 0xFF) (get_or ns 2 0) (get_or ns 3 0xFF) (get_or ns 4 0) (get_or ns 5 0xFF) (get_or ns 6 0) (get_or ns 7 0xFF) rest
          ∙ rw (spelt-bytes n l, slots-back ns t),
    )

-- ---- pairs lose nothing
pub flat-pairs : (ns : List ℕ) → length ns % 2 ≡ 0 → flat (pairs ns) ≡ ns
flat-pairs [] e = refl
flat-pairs (a ∷ []) e = absurd (let z : ◌≡◌ {A = ℕ} 1 0 = e in omega arith)
flat-pairs (a ∷ b ∷ more) e = ap (λ (z : List ℕ). a ∷ b ∷ z) (flat-pairs more (omega arith))
