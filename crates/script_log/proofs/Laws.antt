-- The laws of `specs/Row.antt` that the proofs cite. No contract cites this file.
use mathlib.Core.Path.{◌≡◌, refl, sym, ◌∙◌}
use mathlib.Core.Bool.{Bool, true, false}
use mathlib.Core.List.{List, [], ◌∷◌, ◌++◌, append_assoc}
use Prim.Native.Nat.{ℕ, ◌+◌, ◌-◌, ◌*◌, ◌/◌, ◌≤◌, ◌<◌}
use native.Mathlib.Omega.{arith}
use lib.Dec.{eqb, leb}
use lib.ListN.{length, length-append}
use borrow.Author.Tests.{le-leb, lt-leb, leb-true, leb-false}
use Rattle.text.specs.Put.{Put}
use Rattle.text.specs.Text.{tab, hex_text, decimal_text}
use Rattle.text.proofs.TextLaws.{length-hex_text, decimal-few}
use Rattle.script_log.specs.Row.{from_text, bytes_text, log_text, room_of, Rowed, OneRowed, note_text, last_text, row_of}

pub fits_in : (at fixed n len : ℕ) → at ≤ len → fixed ≤ len - at → leb n ((len - at - fixed) / 2) ≡ leb (at + (2 * n + fixed)) len
fits_in at fixed n len l m = go (leb (at + (2 * n + fixed)) len) refl
  where
    go : (t : Bool) → leb (at + (2 * n + fixed)) len ≡ t → leb n ((len - at - fixed) / 2) ≡ leb (at + (2 * n + fixed)) len
    go true p = let h : at + (2 * n + fixed) ≤ len = leb-true (at + (2 * n + fixed)) len p in rw p (le-leb n ((len - at - fixed) / 2) (omega arith))
    go false p = let h : len < at + (2 * n + fixed) = leb-false (at + (2 * n + fixed)) len p in rw p (lt-leb n ((len - at - fixed) / 2) (omega arith))

pub fits_not : (at fixed n len : ℕ) → len < at + fixed → false ≡ leb (at + (2 * n + fixed)) len
fits_not at fixed n len l = sym (lt-leb (at + (2 * n + fixed)) len (omega arith))

pub rowed-no : (most : ℕ) (row d : List ℕ) (at : ℕ) → leb (at + most) (length d) ≡ false → Rowed most row d at d at
rowed-no most row d at p = record { is = rw p; next = rw p }

pub rowed-yes : (most : ℕ) (row d : List ℕ) (at : ℕ) (e : List ℕ) (r : ℕ) → leb (at + most) (length d) ≡ true → Put row d at e r → Rowed most row d at e r
rowed-yes most row d at e r p q = record { is = rw p q.is; next = rw p q.next }

-- the fields one after the other
pub fields-joined : (number answer from bytes : List ℕ) (fold : Bool) → ((((((number ++ (tab ∷ [])) ++ answer) ++ (tab ∷ [])) ++ from) ++ (tab ∷ [])) ++ bytes) ++ last_text fold ≡ row_of (number ∷ answer ∷ from ∷ bytes ∷ note_text fold ∷ [])
fields-joined number answer from bytes fold = simp append_assoc

-- ---- how long a row can be
from-most : (from count : ℕ) → length (from_text from count) ≤ 20
from-most from count = go (eqb count 0) refl
  where
    go : (t : Bool) → eqb count 0 ≡ t → length (from_text from count) ≤ 20
    go true p = rw p (omega arith)
    go false p = rw p (decimal-few from)

bytes_most : (driven : List ℕ) → length (bytes_text driven) ≤ 2 * length driven + 1
bytes_most driven = go (eqb (length driven) 0) refl
  where
    go : (t : Bool) → eqb (length driven) 0 ≡ t → length (bytes_text driven) ≤ 2 * length driven + 1
    go true p = rw p (omega arith)
    go false p = let n : length (hex_text driven) ≡ 2 * length driven = length-hex_text driven in rw p (omega arith)

note-most : (fold : Bool) → length (note_text fold) ≤ 4
note-most true = omega arith
note-most false = omega arith

-- a row fits where `room_of` says that it does
pub row-most : (number answer from : ℕ) (driven : List ℕ) (fold : Bool) → length (log_text number answer from driven fold) ≤ room_of (length driven)
unfolding log_text
row-most number answer from driven fold =
    let a : length (decimal_text number) ≤ 20 = decimal-few number in
    let b : length (decimal_text answer) ≤ 20 = decimal-few answer in
    let c : length (from_text from (length driven)) ≤ 20 = from-most from (length driven) in
    let d : length (bytes_text driven) ≤ 2 * length driven + 1 = bytes_most driven in
    let n : length (note_text fold) ≤ 4 = note-most fold in
    simp length-append (omega arith)

pub one-rowed : OneRowed
one-rowed most row d at e e' r r' p q = (p.is ∙ sym q.is, p.next ∙ sym q.next)
