-- Which lines change, in the words of the grammar, and what they say then.
use mathlib.Core.Path.{◌≡◌, refl, sym, ap, ◌∙◌}
use mathlib.Core.Bool.{Bool, true, false, false≢true, ◌&&◌}
use mathlib.Core.List.{List, [], ◌∷◌}
use Prim.Native.Nat.{ℕ, zero, suc, ◌≤◌, ◌<◌}
use native.Mathlib.Omega.{arith}
use lib.Dec.{eqb}
use lib.ListN.{length, get_or, drop}
use borrow.Author.Tests.{eqb-true}
use Rattle.parts.specs.Parts.{Bytes, lay}
use Rattle.text.specs.Text.{ascii}
use Rattle.std.specs.Prelude.{Option, Some, None}
use Rattle.script.specs.declared.Line.{Line}
use Rattle.script.specs.declared.Line.TheVariants.{Frame}
use Rattle.script.specs.Grammar.{frame_text, Says}
use Rattle.script.specs.Grammar.Says.{frame, wait, power}
use Rattle.script.specs.Hex.{hex_bytes}
use Rattle.script.specs.Reading.{line_of}
use Rattle.script.proofs.HexLaws.{and_left, and_right}
use Rattle.script.proofs.Agree.{written_read, read-written, frame-spells}
use Rattle.rewrite.specs.Rewriting.{says_frame, begins52, rewritten_line}
use Rattle.rewrite.specs.Promises.{FrameOf52, OnlyThese, BecomesD8, BadStays, SaysTheSame, first_replaced, FrameReplaced}

-- ---- bytes
one_more : {b : ℕ} {bytes : List ℕ} → b < 256 → Bytes bytes → Bytes (b ∷ bytes)
one_more {b} {bytes} l p = record { below = go }
  where
    go : (k : ℕ) → get_or (b ∷ bytes) k 0 < 256
    go zero = l
    go (suc k) = p.below k

-- ---- the lines that change
of-52 : (wp : Bool) (tail : ℕ) (bytes : List ℕ) → tail ≤ 7 → length bytes ≤ 300 → Bytes bytes → get_or bytes 0 0 ≡ 0x52 → FrameOf52 (frame_text wp tail bytes)
of-52 wp tail [] lt ln b e = absurd (omega arith)
of-52 wp tail (x ∷ bytes) lt ln b e =
    record { wp = wp; tail = tail; bytes = bytes; few = lt; most = ln; are = record { below = λ k. b.below (suc k) }; is = ap (λ (z : ℕ). frame_text wp tail (z ∷ bytes)) e }

said-52 : {line : List ℕ} {l : Line} → Says line l → says_frame (Some l) ≡ true → get_or (hex_bytes (drop 6 line)) 0 0 ≡ 0x52 → FrameOf52 line
said-52 (frame wp tail bytes lt ln b) e f = of-52 wp tail bytes lt ln b (sym (ap (λ (z : List ℕ). get_or z 0 0) (frame-spells wp tail bytes b)) ∙ f)
said-52 (wait us l) e f = absurd (false≢true e)
said-52 power e f = absurd (false≢true e)

pub only-these : OnlyThese
unfolding begins52
only-these line e =
    go (line_of line) refl (and_left (says_frame (line_of line)) (eqb (get_or (hex_bytes (drop 6 line)) 0 0) 0x52) e)
  where
    go : (o : Option Line) → line_of line ≡ o → says_frame o ≡ true → FrameOf52 line
    go (Some l) r h = said-52 (read-written line l r) h (eqb-true _ _ (and_right (says_frame (line_of line)) (eqb (get_or (hex_bytes (drop 6 line)) 0 0) 0x52) e))
    go None r h = absurd (false≢true h)

-- ---- what they become
module _ (wp : Bool) (tail b : ℕ) (bytes : List ℕ) (few : tail ≤ 7) (most : length (b ∷ bytes) ≤ 300) (small : b < 256) (are : Bytes bytes) where
  reads_as : line_of (frame_text wp tail (b ∷ bytes)) ≡ Some (Frame wp tail (length (b ∷ bytes)))
  reads_as = written_read (frame wp tail (b ∷ bytes) few most (one_more small are))

  spells : hex_bytes (drop 6 (frame_text wp tail (b ∷ bytes))) ≡ b ∷ bytes
  spells = frame-spells wp tail (b ∷ bytes) (one_more small are)

  begins-as : begins52 (frame_text wp tail (b ∷ bytes)) ≡ eqb b 0x52
  unfolding begins52
  begins-as =
      ap (λ (z : Option Line). says_frame z && eqb (get_or (hex_bytes (drop 6 (frame_text wp tail (b ∷ bytes)))) 0 0) 0x52) reads_as ∙ ap (λ (z : List ℕ). eqb (get_or z 0 0) 0x52) spells

module _ {line : List ℕ} (f : FrameOf52 line) where
  abbrev old : List ℕ
  old = frame_text f.wp f.tail (0x52 ∷ f.bytes)

  abbrev new : List ℕ
  new = frame_text f.wp f.tail (0xD8 ∷ f.bytes)

  old-begins : begins52 old ≡ true
  old-begins = begins-as f.wp f.tail 0x52 f.bytes f.few f.most (omega arith) f.are

  pub new-begins : begins52 new ≡ false
  new-begins = begins-as f.wp f.tail 0xD8 f.bytes f.few f.most (omega arith) f.are

  new-laid : lay old 6 (ascii "D8") ≡ new
  unfolding lay
  new-laid = refl

  old-becomes : rewritten_line old ≡ new
  unfolding rewritten_line
  old-becomes = rw old-begins new-laid

  pub becomes : rewritten_line line ≡ new
  becomes = ap rewritten_line f.is ∙ old-becomes

  differs : rewritten_line line ≡ line → ⊥
  differs e =
      let x : ◌≡◌ {A = ℕ} 68 53 = ap (λ (z : List ℕ). get_or z 6 0) (sym becomes ∙ e ∙ f.is) in
      omega arith

  same-said : line_of new ≡ line_of old
  same-said =
      reads_as f.wp f.tail 0xD8 f.bytes f.few f.most (omega arith) f.are
      ∙ sym (reads_as f.wp f.tail 0x52 f.bytes f.few f.most (omega arith) f.are)

  same_bytes : hex_bytes (drop 6 new) ≡ first_replaced (hex_bytes (drop 6 old))
  same_bytes =
      spells f.wp f.tail 0xD8 f.bytes f.few f.most (omega arith) f.are
      ∙ ap first_replaced (sym (spells f.wp f.tail 0x52 f.bytes f.few f.most (omega arith) f.are))

pub becomes-d8 : BecomesD8
becomes-d8 line f = (ap begins52 f.is ∙ old-begins f, becomes f, differs f)

-- ---- the others
pub stays : (line : List ℕ) → begins52 line ≡ false → rewritten_line line ≡ line
unfolding rewritten_line
stays line e = rw e

pub bad-stays : BadStays
unfolding begins52
bad-stays line e = stays line (ap (λ (z : Option Line). says_frame z && eqb (get_or (hex_bytes (drop 6 line)) 0 0) 0x52) e)

-- ---- what any line says then
pub says-the-same : SaysTheSame
says-the-same line = go (begins52 line) refl
  where
    go : (t : Bool) → begins52 line ≡ t → line_of (rewritten_line line) ≡ line_of line
    go true p = let f = only-these line p in ap line_of (becomes f) ∙ same-said f ∙ ap line_of (sym f.is)
    go false p = ap line_of (stays line p)

other-first : (bytes : List ℕ) → eqb (get_or bytes 0 0) 0x52 ≡ false → bytes ≡ first_replaced bytes
other-first [] e = refl
other-first (b ∷ bytes) e = rw e

pub frame-replaced : FrameReplaced
unfolding begins52
frame-replaced line wp tail count e = go (begins52 line) refl
  where
    go : (t : Bool) → begins52 line ≡ t → hex_bytes (drop 6 (rewritten_line line)) ≡ first_replaced (hex_bytes (drop 6 line))
    go true p =
        let f = only-these line p in
        ap (λ (z : List ℕ). hex_bytes (drop 6 z)) (becomes f) ∙ same_bytes f ∙ ap (λ (z : List ℕ). first_replaced (hex_bytes (drop 6 z))) (sym f.is)
    go false p =
        let q : eqb (get_or (hex_bytes (drop 6 line)) 0 0) 0x52 ≡ false = sym (ap (λ (z : Option Line). says_frame z && eqb (get_or (hex_bytes (drop 6 line)) 0 0) 0x52) e) ∙ p in
        ap (λ (z : List ℕ). hex_bytes (drop 6 z)) (stays line p) ∙ other-first (hex_bytes (drop 6 line)) q

-- ---- rewritten once
pub rewritten-begins : (line : List ℕ) → begins52 (rewritten_line line) ≡ false
rewritten-begins line = go (begins52 line) refl
  where
    go : (t : Bool) → begins52 line ≡ t → begins52 (rewritten_line line) ≡ false
    go true p = let f = only-these line p in ap begins52 (becomes f) ∙ new-begins f
    go false p = ap begins52 (stays line p) ∙ p

pub line-twice : (line : List ℕ) → rewritten_line (rewritten_line line) ≡ rewritten_line line
line-twice line = stays (rewritten_line line) (rewritten-begins line)
