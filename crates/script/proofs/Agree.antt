-- The reader accepts the lines of the grammar with what they say, and no others.
use mathlib.Core.Path.{◌≡◌, refl, sym, ap, ◌∙◌, subst, subst₂}
use mathlib.Core.Bool.{Bool, true, false, ◌&&◌, ◌||◌}
use mathlib.Core.List.{List, [], ◌∷◌}
use Prim.Native.Nat.{ℕ, zero, suc, ◌+◌, ◌-◌, ◌*◌, ◌/◌, ◌%◌, ◌≤◌, ◌<◌}
use native.Mathlib.Omega.{arith}
use lib.Dec.{eqb, leb, ltb}
use lib.ListN.{length, get_or, drop, take, length-drop}
use lib.Seq.{take_all, length-take-le}
use borrow.Author.Tests.{leb-true, leb-false, le-leb, lt-leb, le-ltb, lt-ltb, ltb-true, ltb-false, eq-eqb, eqb-true, eqb-false}
use Rattle.parts.specs.Parts.{Bytes}
use Rattle.text.specs.Text.{tab, digit_of, hex_text, decimal_text}
use Rattle.text.proofs.TextLaws.{length-hex_text, decimal-few}
use Rattle.std.specs.Prelude.{Option, Some, None}
use Rattle.script.specs.declared.Line.{Line}
use Rattle.script.specs.declared.Line.TheVariants.{Frame, Wait, Power}
use Rattle.script.specs.Grammar.{F, W, P, level_of, frame_text, wait_text, power_text, Says}
use Rattle.script.specs.Grammar.Says.{frame, wait, power}
use Rattle.script.specs.Hex.{is_hex, is_digit, is_capital, nibble_of, hex_bytes}
use Rattle.script.specs.Reading.{all_hex, all_digits, value_from, plain_number, frame_head, is_frame, wait_head, is_wait, is_power, other_line, line_of, Reads, OneReads, GrammarDecides}
use Rattle.script.proofs.HexLaws.{and_left, and_right, digit-range, capital-range, nibble-digit, nibble-capital, length-hex_bytes}
use Rattle.script.proofs.ReadLaws.{FrameParts, frame-parts, within-line, too_long}
use Rattle.script.proofs.Decimal.{decimal-plain, decimal-digits, decimal-value, digits-back}

-- ---- hex, there and back
digit-hex : (d : ℕ) → d < 16 → is_hex (digit_of d) ≡ true
unfolding is_hex is_digit is_capital
digit-hex d l = go (ltb d 10) refl
  where
    go : (t : Bool) → ltb d 10 ≡ t → ((leb 48 (digit_of d) && leb (digit_of d) 57) || (leb 65 (digit_of d) && leb (digit_of d) 70)) ≡ true
    go true p = let h : d < 10 = ltb-true d 10 p in rw (p, le-leb 48 (48 + d) (omega arith), le-leb (48 + d) 57 (omega arith))
    go false p =
        let h : 10 ≤ d = ltb-false d 10 p in
        rw (p, le-leb 48 (55 + d) (omega arith), lt-leb (55 + d) 57 (omega arith), le-leb 65 (55 + d) (omega arith), le-leb (55 + d) 70 (omega arith))

digit_value : (d : ℕ) → d < 16 → nibble_of (digit_of d) ≡ d
unfolding nibble_of is_digit is_capital
digit_value d l = go (ltb d 10) refl
  where
    go : (t : Bool) → ltb d 10 ≡ t → nibble_of (digit_of d) ≡ d
    go true p = let h : d < 10 = ltb-true d 10 p in rw (p, le-leb 48 (48 + d) (omega arith), le-leb (48 + d) 57 (omega arith)) (omega arith)
    go false p =
        let h : 10 ≤ d = ltb-false d 10 p in
        rw (p, le-leb 48 (55 + d) (omega arith), lt-leb (55 + d) 57 (omega arith), le-leb 65 (55 + d) (omega arith), le-leb (55 + d) 70 (omega arith)) (omega arith)

-- a list of bytes, and its first
rest-bytes : {x : ℕ} {s : List ℕ} → Bytes (x ∷ s) → Bytes s
rest-bytes b = record { below = λ k. b.below (suc k) }

more_bytes : {x : ℕ} {s : List ℕ} → x < 256 → Bytes s → Bytes (x ∷ s)
more_bytes {x} {s} l b = record { below = go }
  where
    go : (k : ℕ) → get_or (x ∷ s) k 0 < 256
    go zero = l
    go (suc k) = b.below k

hex-all : (s : List ℕ) → Bytes s → all_hex (hex_text s) ≡ true
hex-all [] b = refl
hex-all (x ∷ s) b = let h : x < 256 = b.below 0 in rw (digit-hex (x / 16) (omega arith), digit-hex (x % 16) (omega arith)) (hex-all s (rest-bytes b))

-- the hex of bytes spells them
pub hex-bytes : (s : List ℕ) → Bytes s → hex_bytes (hex_text s) ≡ s
hex-bytes [] b = refl
hex-bytes (x ∷ s) b =
    let h : x < 256 = b.below 0 in
    let v : nibble_of (digit_of (x / 16)) * 16 + nibble_of (digit_of (x % 16)) ≡ x = rw (digit_value (x / 16) (omega arith), digit_value (x % 16) (omega arith)) (omega arith) in
    ap (λ (z : ℕ). z ∷ hex_bytes (hex_text s)) v ∙ ap (λ (z : List ℕ). x ∷ z) (hex-bytes s (rest-bytes b))

nibble-back : (b : ℕ) → is_hex b ≡ true → (nibble_of b < 16) × (digit_of (nibble_of b) ≡ b)
unfolding is_hex
nibble-back b e = go (is_digit b) refl (is_capital b) refl
  where
    go : (t : Bool) → is_digit b ≡ t → (u : Bool) → is_capital b ≡ u → (nibble_of b < 16) × (digit_of (nibble_of b) ≡ b)
    go true p u q =
        let r = digit-range b p in
        let v : nibble_of b ≡ b - 48 = sym (nibble-digit b p) in
        (omega arith, rw (v, lt-ltb (b - 48) 10 (omega arith)) (omega arith))
    go false p true q =
        let r = capital-range b q in
        let v : nibble_of b ≡ b - 55 = sym (nibble-capital b p q) in
        (omega arith, rw (v, le-ltb (b - 55) 10 (omega arith)) (omega arith))
    go false p false q =
        let x : false ≡ true = rw (p, q) at e in
        absurd (let z : ◌≡◌ {A = ℕ} 0 1 = cc in omega arith)

-- and an even number of hex digits is the hex of its bytes
hex-back : (s : List ℕ) → all_hex s ≡ true → length s % 2 ≡ 0 → (hex_text (hex_bytes s) ≡ s) × Bytes (hex_bytes s)
hex-back [] e n = (refl, record { below = λ k. omega arith })
hex-back (a ∷ []) e n = absurd (omega arith)
hex-back (a ∷ b ∷ s) e n =
    let r : (is_hex b && all_hex s) ≡ true = and_right (is_hex a) (is_hex b && all_hex s) e in
    let x = nibble-back a (and_left (is_hex a) (is_hex b && all_hex s) e) in
    let y = nibble-back b (and_left (is_hex b) (all_hex s) r) in
    let z = hex-back s (and_right (is_hex b) (all_hex s) r) (omega arith) in
    let lx : nibble_of a < 16 = x.0 in
    let ly : nibble_of b < 16 = y.0 in
    let d : (nibble_of a * 16 + nibble_of b) / 16 ≡ nibble_of a = omega arith in
    let m : (nibble_of a * 16 + nibble_of b) % 16 ≡ nibble_of b = omega arith in
    let da : digit_of ((nibble_of a * 16 + nibble_of b) / 16) ≡ a = ap digit_of d ∙ x.1 in
    let db : digit_of ((nibble_of a * 16 + nibble_of b) % 16) ≡ b = ap digit_of m ∙ y.1 in
    (rw (da, db) (ap (λ (z : List ℕ). a ∷ b ∷ z) z.0), more_bytes (omega arith) z.1)

-- ---- what is written is read
level-digit : (wp : Bool) → (leb 48 (level_of wp) && leb (level_of wp) 49) ≡ true
level-digit true = refl
level-digit false = refl

level-high : (wp : Bool) → eqb (level_of wp) 49 ≡ wp
level-high true = refl
level-high false = refl

frame-size : (wp : Bool) (t : ℕ) (bytes : List ℕ) → length (frame_text wp t bytes) ≡ 6 + 2 * length bytes
frame-size wp t bytes = let n : length (hex_text bytes) ≡ 2 * length bytes = length-hex_text bytes in omega arith

is-frame : (wp : Bool) (t : ℕ) (bytes : List ℕ) → t ≤ 7 → length bytes ≤ 300 → Bytes bytes → is_frame (frame_text wp t bytes) ≡ true
unfolding is_frame frame_head
is-frame wp t bytes lt ln b =
    rw (level-digit wp, le-leb 48 (48 + t) (omega arith), le-leb (48 + t) 55 (omega arith), frame-size wp t bytes, eq-eqb ((6 + 2 * length bytes) % 2) 0 (omega arith), le-leb (6 + 2 * length bytes) 606 (omega arith), hex-all bytes b)

read-frame : (wp : Bool) (t : ℕ) (bytes : List ℕ) → t ≤ 7 → length bytes ≤ 300 → Bytes bytes → line_of (frame_text wp t bytes) ≡ Some (Frame wp t (length bytes))
unfolding line_of
read-frame wp t bytes lt ln b =
    let x : (6 + 2 * length bytes - 6) / 2 ≡ length bytes = omega arith in
    let y : 48 + t - 48 ≡ t = omega arith in
    rw (is-frame wp t bytes lt ln b, frame-size wp t bytes, le-ltb 640 (6 + 2 * length bytes) (omega arith), x, y, level-high wp)

read-wait : (us : ℕ) → us ≤ 4294967295 → line_of (wait_text us) ≡ Some (Wait us)
unfolding line_of is_frame frame_head other_line is_wait wait_head
read-wait us l =
    let f : length (decimal_text us) ≤ 20 = decimal-few us in
    rw (le-ltb 640 (suc (suc (length (decimal_text us)))) (omega arith), decimal-plain us (omega arith), decimal-digits us (omega arith), decimal-value us (omega arith), le-leb us 4294967295 l)

read-power : line_of power_text ≡ Some Power
unfolding line_of is_frame frame_head other_line is_wait wait_head is_power
read-power = refl

-- a line of the grammar is read as what it says
pub written_read : {s : List ℕ} {l : Line} → Says s l → line_of s ≡ Some l
written_read (frame wp t bytes lt ln b) = read-frame wp t bytes lt ln b
written_read (wait us l) = read-wait us l
written_read power = read-power

-- ---- what is read was written
six : (s : List ℕ) → 6 ≤ length s → s ≡ get_or s 0 0 ∷ get_or s 1 0 ∷ get_or s 2 0 ∷ get_or s 3 0 ∷ get_or s 4 0 ∷ get_or s 5 0 ∷ drop 6 s
six [] l = absurd (omega arith)
six (a ∷ []) l = absurd (omega arith)
six (a ∷ b ∷ []) l = absurd (omega arith)
six (a ∷ b ∷ c ∷ []) l = absurd (omega arith)
six (a ∷ b ∷ c ∷ d ∷ []) l = absurd (omega arith)
six (a ∷ b ∷ c ∷ d ∷ e ∷ []) l = absurd (omega arith)
six (a ∷ b ∷ c ∷ d ∷ e ∷ f ∷ s) l = refl

level-back : (b : ℕ) → 48 ≤ b → b ≤ 49 → b ≡ level_of (eqb b 49)
level-back b l m = go (eqb b 49) refl
  where
    go : (t : Bool) → eqb b 49 ≡ t → b ≡ level_of (eqb b 49)
    go true p = rw p (eqb-true b 49 p)
    go false p = let h : b ≡ 49 → ⊥ = eqb-false b 49 p in rw p (omega arith)

head-is : (a b c d e f w t : ℕ) (x y : List ℕ) → a ≡ F → b ≡ tab → c ≡ w → d ≡ tab → e ≡ t → f ≡ tab → x ≡ y → ◌≡◌ {A = List ℕ} (a ∷ b ∷ c ∷ d ∷ e ∷ f ∷ x) (F ∷ tab ∷ w ∷ tab ∷ t ∷ tab ∷ y)
head-is a b c d e f w t x y ha hb hc hd he hf hx = cc

says-as : {s t : List ℕ} {l m : Line} → s ≡ t → m ≡ l → Says t m → Says s l
says-as {s} {t} {l} {m} e f p = subst₂ Says (sym e) f p

frame-says : (s : List ℕ) → FrameParts s → Says s (Frame (eqb (get_or s 2 0) 49) (get_or s 4 0 - 48) ((length s - 6) / 2))
frame-says s p =
    let n : length (drop 6 s) ≡ length s - 6 = length-drop 6 s in
    let k : length (hex_bytes (drop 6 s)) ≡ length (drop 6 s) / 2 = length-hex_bytes (drop 6 s) in
    let h = hex-back (drop 6 s) p.hex (omega (arith, p.even, p.least)) in
    let w : get_or s 2 0 ≡ level_of (eqb (get_or s 2 0) 49) = level-back (get_or s 2 0) p.wp-low p.wp-high in
    let t : get_or s 4 0 ≡ 48 + (get_or s 4 0 - 48) = omega (arith, p.tail-low) in
    says-as (six s p.least ∙ head-is _ _ _ _ _ _ _ _ _ _ p.kind p.tab-1 w p.tab-3 t p.tab-5 (sym h.0))
    (ap (Frame (eqb (get_or s 2 0) 49) (get_or s 4 0 - 48)) (k ∙ ap (λ (z : ℕ). z / 2) n))
    (frame (eqb (get_or s 2 0) 49) (get_or s 4 0 - 48) (hex_bytes (drop 6 s)) (omega (arith, p.tail-high)) (omega (arith, p.most)) h.1)

two : (s : List ℕ) → 2 ≤ length s → s ≡ get_or s 0 0 ∷ get_or s 1 0 ∷ drop 2 s
two [] l = absurd (omega arith)
two (a ∷ []) l = absurd (omega arith)
two (a ∷ b ∷ s) l = refl

wait-is : (a b : ℕ) (x y : List ℕ) → a ≡ W → b ≡ tab → x ≡ y → ◌≡◌ {A = List ℕ} (a ∷ b ∷ x) (W ∷ tab ∷ y)
wait-is a b x y ha hb hx = cc

wait-says : (s : List ℕ) → is_wait s ≡ true → Says s (Wait (value_from 0 (drop 2 s)))
unfolding is_wait wait_head
wait-says s e =
    let kind : Bool = eqb (get_or s 0 0) W && eqb (get_or s 1 0) tab in
    let us : ℕ = value_from 0 (drop 2 s) in
    let fits : Bool = all_digits (drop 2 s) && leb us 4294967295 in
    let head : (kind && plain_number (drop 2 s)) ≡ true = and_left (kind && plain_number (drop 2 s)) fits e in
    let k : kind ≡ true = and_left kind (plain_number (drop 2 s)) head in
    let f : fits ≡ true = and_right (kind && plain_number (drop 2 s)) fits e in
    let t : get_or s 1 0 ≡ tab = eqb-true (get_or s 1 0) tab (and_right (eqb (get_or s 0 0) W) (eqb (get_or s 1 0) tab) k) in
    let l : us ≤ 4294967295 = leb-true us 4294967295 (and_right (all_digits (drop 2 s)) (leb us 4294967295) f) in
    let d : drop 2 s ≡ decimal_text us = digits-back (drop 2 s) (and_right kind (plain_number (drop 2 s)) head) (and_left (all_digits (drop 2 s)) (leb us 4294967295) f) (omega arith) in
    says-as (two s (within-line s 1 8 t) ∙ wait-is _ _ _ _ (eqb-true (get_or s 0 0) W (and_left (eqb (get_or s 0 0) W) (eqb (get_or s 1 0) tab) k)) t d) refl (wait us l)

power-says : (s : List ℕ) → is_power s ≡ true → Says s Power
unfolding is_power
power-says [] e = absurd (let z : ◌≡◌ {A = ℕ} 0 1 = cc in omega arith)
power-says (a ∷ []) e = says-as (ap (λ (z : ℕ). z ∷ []) (eqb-true a P e)) refl power
power-says (a ∷ b ∷ s) e = absurd (let n : suc (suc (length s)) ≡ 1 = eqb-true (suc (suc (length s))) 1 (and_left (eqb (suc (suc (length s))) 1) (eqb a P) e) in omega arith)

-- what is read of a line is what the grammar has it say
says-some : {s : List ℕ} {l m : Line} → Some l ≡ Some m → Says s l → Says s m
says-some {s} {l} {m} e p = let h : l ≡ m = cc in subst (Says s) h p

pub read-written : (s : List ℕ) (l : Line) → line_of s ≡ Some l → Says s l
unfolding line_of other_line
read-written s l r = go (ltb 640 (length s)) refl (is_frame s) refl (is_wait s) refl (is_power s) refl
  where
    go : (t : Bool) → ltb 640 (length s) ≡ t → (f : Bool) → is_frame s ≡ f → (w : Bool) → is_wait s ≡ w → (p : Bool) → is_power s ≡ p → Says s l
    go true e f ef w ew p ep = let z : None ≡ Some l = rw e at r in absurd cc
    go false e true ef w ew p ep = says-some (rw (e, ef) at r) (frame-says s (frame-parts s ef))
    go false e false ef true ew p ep = says-some (rw (e, ef, ew) at r) (wait-says s ew)
    go false e false ef false ew true ep = says-some (rw (e, ef, ew, ep) at r) (power-says s ep)
    go false e false ef false ew false ep = let z : None ≡ Some l = rw (e, ef, ew, ep) at r in absurd cc

-- and a bad line says nothing
pub bad-unwritten : (s : List ℕ) → line_of s ≡ None → (l : Line) → Says s l → ⊥
bad-unwritten s b l p = let z : Some l ≡ None = sym (written_read p) ∙ b in cc

-- both in one, for the reader's contract
pub reads : (s : List ℕ) (r : Option Line) → r ≡ line_of s → Reads s r
reads s r e = record { is = e; written = λ l p. e ∙ written_read p; nothing-else = λ l b. read-written s l (sym e ∙ b) }

pub one-reads : OneReads
one-reads s r r' p q = p.is ∙ sym q.is

-- the grammar alone decides
pub grammar-decides : GrammarDecides
grammar-decides s r w n = go r refl (line_of s) refl
  where
    go : (k : Option Line) → r ≡ k → (f : Option Line) → line_of s ≡ f → r ≡ line_of s
    go (Some l) e f g = e ∙ sym (written_read (n l e))
    go None e (Some m) g = w m (read-written s m g) ∙ sym g
    go None e None g = e ∙ sym g

-- ---- what follows for whoever runs a script
-- the bytes of a frame's line are those that it was written from
pub frame-spells : (wp : Bool) (t : ℕ) (bytes : List ℕ) → Bytes bytes → hex_bytes (drop 6 (frame_text wp t bytes)) ≡ bytes
frame-spells wp t bytes b = hex-bytes bytes b

frame-facts : {s : List ℕ} {l : Line} → Says s l → (wp : Bool) (t n : ℕ) → l ≡ Frame wp t n → (t ≤ 7) × (n ≤ 300) × (length (hex_bytes (drop 6 s)) ≡ n) × (length s ≤ 606)
frame-facts (frame wp t bytes lt ln b) w u n e =
    let x : t ≡ u = cc in
    let y : length bytes ≡ n = cc in
    let z : length (hex_bytes (hex_text bytes)) ≡ length bytes = ap length (hex-bytes bytes b) in
    let k : length (frame_text wp t bytes) ≡ 6 + 2 * length bytes = frame-size wp t bytes in
    (omega arith, omega arith, z ∙ y, omega arith)
frame-facts (wait us l) w u n e = absurd (let z : ◌≡◌ {A = ℕ} 0 1 = cc in omega arith)
frame-facts power w u n e = absurd (let z : ◌≡◌ {A = ℕ} 0 1 = cc in omega arith)

-- a line that is read as a frame has as many bytes as it says, at most 300
pub frame-count : (s : List ℕ) (wp : Bool) (t n : ℕ) → line_of s ≡ Some (Frame wp t n) → (t ≤ 7) × (n ≤ 300) × (length (hex_bytes (drop 6 s)) ≡ n) × (length s ≤ 606)
frame-count s wp t n e = frame-facts (read-written s (Frame wp t n) e) wp t n refl

-- a line over 640 bytes is known by any start of it that is over 640 bytes
pub clipped : (m : ℕ) (s : List ℕ) → 640 < m → line_of (take m s) ≡ line_of s
clipped m s l = go (leb (length s) m) refl
  where
    go : (t : Bool) → leb (length s) m ≡ t → line_of (take m s) ≡ line_of s
    go true e = ap line_of (take_all m s (leb-true (length s) m e))
    go false e =
        let h : m < length s = leb-false (length s) m e in
        let k : length (take m s) ≡ m = length-take-le m s (omega arith) in
        sym (too_long (take m s) (omega arith)) ∙ too_long s (omega arith)
