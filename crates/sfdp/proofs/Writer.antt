-- Which lists the writer takes, and the page that it lays.
use mathlib.Core.Path.{◌≡◌, refl, sym, ap, ◌∙◌}
use mathlib.Core.Bool.{Bool, true, false, ◌&&◌, cond, false≢true}
use mathlib.Core.List.{List, [], ◌∷◌, ◌++◌, append-nil}
use Prim.Native.Nat.{ℕ, zero, suc, ◌+◌, ◌*◌, ◌/◌, ◌%◌, ◌^◌, ◌≤◌, ◌<◌}
use native.Mathlib.Omega.{arith}
use lib.Dec.{eqb, leb, ltb}
use lib.ListN.{length, get_or, set, take, drop, drop_of_length-le}
use borrow.Author.Tests.{eq-eqb, leb-true, le-leb, ltb-true, lt-ltb}
use borrow.Rule.Slice.PartMut.{put_mid}
use Rattle.parts.specs.Parts.{lay, bytes_of}
use Rattle.sfdp.specs.Sfdp.{EraseType, erase_type, entry, pairs, all_fit, is_list, TakenList, small_bits, small_opcode, slots, image_of, takes, table_for, Writes}
use Rattle.units.proofs.Bools.{both}
use Rattle.sfdp_image.specs.Image.{eight, image, sfdp_from}
use Rattle.sfdp_image.proofs.Driven.{whole-image}
use Rattle.std.specs.Prelude.{Err, Option, Some, unwrap_or, find}
use Rattle.std.specs.Option.{option_map}
use Rattle.std.specs.List.{list_all}
use Rattle.std.specs.Int.{w32, to_le_bytes}
use Rattle.std.specs.Simd.{first_chunks}
use Rattle.std.proofs.Math.Bool.{and_assoc}
use Rattle.answers.specs.Answers.{Done}
use Rattle.answers.specs.declared.Refusal.TheVariants.{BadEntry}

-- ---- the code's test of the numbers, taken in pairs
abbrev pub fits_pair : List ℕ → Bool
fits_pair t = leb 1 (get_or t 0 0) && leb (get_or t 0 0) 255 && leb (get_or t 1 0) 255

pairs_fit : (k : ℕ) (ns : List ℕ) → length ns ≡ 2 * k → list_all fits_pair (first_chunks 2 k ns) ≡ all_fit (pairs ns)
pairs_fit zero [] e = refl
pairs_fit zero (a ∷ ns) e = absurd (omega (arith, e))
pairs_fit (suc k) [] e = absurd (omega (arith, e))
pairs_fit (suc k) (a ∷ []) e = absurd (omega (arith, e))
pairs_fit (suc k) (a ∷ b ∷ ns) e = rw (pairs_fit k ns (omega (arith, e))) (ap (λ (z : Bool). z && all_fit (pairs ns)) (and_assoc (leb 1 a) (leb a 255) (leb b 255)))

pub list_test : (ns : List ℕ) → length ns % 2 ≡ 0 → length ns / 2 ≤ 4 → list_all fits_pair (first_chunks 2 (length ns / 2) ns) ≡ is_list ns
list_test ns e l = rw (eq-eqb (length ns % 2) 0 e, le-leb (length ns) 8 (omega (arith, e, l))) (pairs_fit (length ns / 2) ns (omega (arith, e)))

-- ---- a list that is taken
pub list-fits_slot : (ns : List ℕ) → is_list ns ≡ true → (length ns ≤ 8) × (all_fit (pairs ns) ≡ true)
list-fits_slot ns t =
    let k = both (leb (length ns) 8) (all_fit (pairs ns)) (both (eqb (length ns % 2) 0) (leb (length ns) 8 && all_fit (pairs ns)) t).1 in
    (leb-true (length ns) 8 k.0, k.1)

-- ---- the slots
abbrev pub unused_slots : List ℕ
unused_slots = 0x00 ∷ 0xFF ∷ 0x00 ∷ 0xFF ∷ 0x00 ∷ 0xFF ∷ 0x00 ∷ 0xFF ∷ []

-- one number more over those that are not needed
slot_over : (ns us : List ℕ) (i : ℕ) → i < length ns → i < length us → set (take i ns ++ drop i us) i (get_or ns i 0) ≡ take (i + 1) ns ++ drop (i + 1) us
slot_over [] us i l m = absurd (omega arith)
slot_over (n ∷ ns) [] i l m = absurd (omega arith)
slot_over (n ∷ ns) (u ∷ us) zero l m = refl
slot_over (n ∷ ns) (u ∷ us) (suc i) l m =
    let k : suc i + 1 ≡ suc (i + 1) = omega arith in
    rw k (ap (λ (z : List ℕ). n ∷ z) (slot_over ns us i (omega arith) (omega arith)))

pub slot_more : (ns : List ℕ) (i : ℕ) → TakenList ns → i < length ns → set (take i ns ++ drop i unused_slots) i (get_or ns i 0) ≡ take (i + 1) ns ++ drop (i + 1) unused_slots
slot_more ns i t l = slot_over ns unused_slots i l (omega (arith, (list-fits_slot ns t.is).0))

-- what the code finds among them
abbrev pub is_small : List ℕ → Bool
is_small t = eqb (get_or t 0 0) 0x0C

one_found : (t : List ℕ) (o : Option (List ℕ)) (v : ℕ) → unwrap_or (option_map (λ (z : List ℕ). get_or z 1 0) o) 0xFF ≡ v
    → unwrap_or (option_map (λ (z : List ℕ). get_or z 1 0) (cond (is_small t) (Some t) o)) 0xFF ≡ cond (is_small t) (get_or t 1 0) v
one_found t o v e = go (is_small t)
  where
    go : (b : Bool) → unwrap_or (option_map (λ (z : List ℕ). get_or z 1 0) (cond b (Some t) o)) 0xFF ≡ cond b (get_or t 1 0) v
    go true = refl
    go false = e

pairs_found : (k : ℕ) (ns : List ℕ) → k ≡ length ns / 2 → unwrap_or (option_map (λ (z : List ℕ). get_or z 1 0) (find is_small (first_chunks 2 k ns))) 0xFF ≡ small_opcode (pairs ns)
pairs_found zero [] e = refl
pairs_found zero (a ∷ []) e = refl
pairs_found zero (a ∷ b ∷ ns) e = absurd (omega (arith, e))
pairs_found (suc k) [] e = absurd (omega (arith, e))
pairs_found (suc k) (a ∷ []) e = absurd (omega (arith, e))
pairs_found (suc k) (a ∷ b ∷ ns) e = one_found (a ∷ b ∷ []) (find is_small (first_chunks 2 k ns)) (small_opcode (pairs ns)) (pairs_found k ns (omega (arith, e)))

pub small_found : (ns : List ℕ) → unwrap_or (option_map (λ (z : List ℕ). get_or z 1 0) (find is_small (first_chunks 2 (length ns / 2) ns))) 0xFF ≡ small_opcode (pairs ns)
small_found ns = pairs_found (length ns / 2) ns refl

-- slots that are not needed have none
small_slots : (es : List EraseType) → length es ≤ 4 → (small_bits (pairs (slots 4 es)) ≡ small_bits es) × (small_opcode (pairs (slots 4 es)) ≡ small_opcode es)
small_slots [] l = (refl, refl)
small_slots (a ∷ []) l = (refl, refl)
small_slots (a ∷ b ∷ []) l = (refl, refl)
small_slots (a ∷ b ∷ c ∷ []) l = (refl, refl)
small_slots (a ∷ b ∷ c ∷ d ∷ []) l = (refl, refl)
small_slots (a ∷ b ∷ c ∷ d ∷ e ∷ more) l = absurd (omega arith)

length-pairs : (ns : List ℕ) → 2 * length (pairs ns) ≤ length ns
length-pairs [] = omega arith
length-pairs (a ∷ []) = omega arith
length-pairs (a ∷ b ∷ ns) = omega (arith, length-pairs ns)

-- ---- the page
-- with bits 1:0 of 30h, 31h, the density's four bytes and the four slots put in
abbrev pub laid : ℕ → ℕ → ℕ → ℕ → ℕ → ℕ → ℕ → ℕ → ℕ → ℕ → ℕ → ℕ → ℕ → ℕ → List ℕ
laid bits by p q r s a ao b bo c co d do' =
    eight 0x53 0x46 0x44 0x50 0x00 0x01 0x01 0xFF
    (eight 0x00 0x00 0x01 0x09 0x30 0x00 0x00 0xFF
    (eight 0xC2 0x00 0x01 0x04 0x60 0x00 0x00 0xFF
    (eight 0xFF 0xFF 0xFF 0xFF 0xFF 0xFF 0xFF 0xFF
    (eight 0xFF 0xFF 0xFF 0xFF 0xFF 0xFF 0xFF 0xFF
    (eight 0xFF 0xFF 0xFF 0xFF 0xFF 0xFF 0xFF 0xFF
    (eight (0xE4 + bits) by 0x81 0xFF p q r s
    (eight 0x00 0xFF 0x00 0xFF 0x08 0x3B 0x00 0xFF
    (eight 0xEE 0xFF 0xFF 0xFF 0xFF 0xFF 0x00 0xFF
    (eight 0xFF 0xFF 0x00 0xFF a ao b bo
    (eight c co d do' 0xFF 0xFF 0xFF 0xFF
    (eight 0xFF 0xFF 0xFF 0xFF 0xFF 0xFF 0xFF 0xFF
    (eight 0x00 0x36 0x00 0x27 0xF6 0x4F 0xFF 0xFF
    (eight 0xFE 0xC7 0xFF 0xFF 0xFF 0xFF 0xFF 0xFF [])))))))))))))

-- four slots' types
abbrev four : ℕ → ℕ → ℕ → ℕ → ℕ → ℕ → ℕ → ℕ → List EraseType
four a ao b bo c co d do' = erase_type a ao ∷ erase_type b bo ∷ erase_type c co ∷ erase_type d do' ∷ []

abbrev pub laid_of : ℕ → ℕ → ℕ → ℕ → ℕ → ℕ → ℕ → ℕ → ℕ → List ℕ
laid_of n a ao b bo c co d do' =
    laid (small_bits (four a ao b bo c co d do')) (small_opcode (four a ao b bo c co d do')) (n % 256) (n / 256 % 256) (n / 256 / 256 % 256) (n / 256 / 256 / 256 % 256) a ao b bo c co d do'

pub page : (n : ℕ) (ns : List ℕ) → is_list ns ≡ true
    → laid_of n (get_or ns 0 0) (get_or ns 1 0xFF) (get_or ns 2 0) (get_or ns 3 0xFF) (get_or ns 4 0) (get_or ns 5 0xFF) (get_or ns 6 0) (get_or ns 7 0xFF) ≡ image_of (entry n (pairs ns))
unfolding image_of
page n [] t = refl
page n (a ∷ []) t = absurd (false≢true t)
page n (a ∷ b ∷ []) t = refl
page n (a ∷ b ∷ c ∷ []) t = absurd (false≢true t)
page n (a ∷ b ∷ c ∷ d ∷ []) t = refl
page n (a ∷ b ∷ c ∷ d ∷ e ∷ []) t = absurd (false≢true t)
page n (a ∷ b ∷ c ∷ d ∷ e ∷ f ∷ []) t = refl
page n (a ∷ b ∷ c ∷ d ∷ e ∷ f ∷ g ∷ []) t = absurd (false≢true t)
page n (a ∷ b ∷ c ∷ d ∷ e ∷ f ∷ g ∷ h ∷ []) t = refl
page n (a ∷ b ∷ c ∷ d ∷ e ∷ f ∷ g ∷ h ∷ i ∷ more) t =
    let ns = a ∷ b ∷ c ∷ d ∷ e ∷ f ∷ g ∷ h ∷ i ∷ more in
    let k : length ns ≤ 8 = (list-fits_slot ns t).0 in
    absurd (omega arith)

-- what the chip's own bytes leave of 112 bytes
pub own-bytes : (xs : List ℕ) → length xs ≡ 112 → sfdp_from 0 (length xs) ≡ image
unfolding image
own-bytes xs l = rw (l, whole-image 112 (omega arith)) (append-nil image)

-- the code's stores into the chip's own bytes
pub density_bytes : (n : ℕ) → to_le_bytes w32 n ≡ bytes_of 4 n
density_bytes n =
    let two : n / 65536 % 256 ≡ n / 256 / 256 % 256 = omega arith in
    let three : n / 16777216 % 256 ≡ n / 256 / 256 / 256 % 256 = omega arith in
    rw (two, three)

stored : (n : ℕ) (es : List EraseType) → put_mid 76 8 (put_mid 52 4 (set (set image 48 (0xE4 + small_bits es)) 49 (small_opcode es)) (bytes_of 4 n)) (slots 4 es) ≡ image_of (entry n es)
unfolding image image_of
stored n es = refl

pub page_is : (n : ℕ) (ns xs : List ℕ) (first by : ℕ) (ys zs ss : List ℕ) → TakenList ns → xs ≡ image → ss ≡ slots 4 (pairs ns) → first ≡ 0xE4 + small_bits (pairs ss) → by ≡ small_opcode (pairs ss) → ys ≡ bytes_of 4 n → zs ≡ ss
    → put_mid 76 8 (put_mid 52 4 (set (set xs 48 first) 49 by) ys) zs ≡ image_of (entry n (pairs ns))
page_is n ns xs first by ys zs ss t x s f b y z =
    let l = (list-fits_slot ns t.is).0 in
    let k = small_slots (pairs ns) (omega (arith, l, length-pairs ns)) in
    rw (f, b, z, s, x, y, k.0, k.1) (stored n (pairs ns))

-- it has 112 bytes
pub length-page : (n : ℕ) (ns : List ℕ) → TakenList ns → length (image_of (entry n (pairs ns))) ≡ 112
length-page n ns t = sym (ap length (page n ns t.is))

-- ---- what is written
pub record Fit (n : ℕ) (ns : List ℕ) (room : ℕ) : Type 0 where
  pub density : n < 2 ^ 32
  pub list : TakenList ns
  pub roomy : 112 ≤ room

pub fit : (n : ℕ) (ns : List ℕ) (room : ℕ) → takes n ns room ≡ true → Fit n ns room
fit n ns room e =
    let a = both (ltb n (2 ^ 32)) (is_list ns && leb 112 room) e in
    let b = both (is_list ns) (leb 112 room) a.1 in
    record { density = ltb-true n (2 ^ 32) a.0; list = record { is = b.0 }; roomy = leb-true 112 room b.1 }

never : (n : ℕ) (ns : List ℕ) (room : ℕ) → (Fit n ns room → ⊥) → takes n ns room ≡ false
never n ns room h = go (takes n ns room) refl
  where
    go : (b : Bool) → takes n ns room ≡ b → b ≡ false
    go true e = absurd (h (fit n ns room e))
    go false e = refl

pub write-refused : (n : ℕ) (ns out : List ℕ) → (Fit n ns (length out) → ⊥) → Writes (table_for n ns out) (Err BadEntry) out
unfolding table_for
write-refused n ns out h = rw (never n ns (length out) h) (record { answer-is = refl; out-is = refl })

pub written_is : (n : ℕ) (ns out : List ℕ) → takes n ns (length out) ≡ true → (table_for n ns out).out ≡ image_of (entry n (pairs ns)) ++ drop 112 out
unfolding table_for lay
written_is n ns out e = rw (e, length-page n ns (fit n ns (length out) e).list)

answer_is : (n : ℕ) (ns out : List ℕ) → takes n ns (length out) ≡ true → Done ≡ (table_for n ns out).answer
unfolding table_for
answer_is n ns out e = rw e

pub write_done : (n : ℕ) (ns out ys : List ℕ) → n < 2 ^ 32 → is_list ns ≡ true → 112 ≤ length out → ys ≡ image_of (entry n (pairs ns)) → Writes (table_for n ns out) Done (ys ++ drop 112 out)
write_done n ns out ys l t r y =
    let e : takes n ns (length out) ≡ true = rw (lt-ltb n (2 ^ 32) l, t, le-leb 112 (length out) r) in
    record { answer-is = answer_is n ns out e; out-is = ap (λ (z : List ℕ). z ++ drop 112 out) y ∙ sym (written_is n ns out e) }
