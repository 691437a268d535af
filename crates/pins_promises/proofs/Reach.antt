-- Every frame is in reach, two samples a bit.
use mathlib.Core.Path.{◌≡◌, refl, ap, ◌∙◌}
use mathlib.Core.Bool.{Bool, true, false, not, ◌&&◌, cond}
use mathlib.Core.List.{List, [], ◌∷◌, ◌++◌}
use Prim.Native.Nat.{ℕ, suc, ◌+◌, ◌*◌, ◌/◌, ◌%◌, ◌<◌}
use native.Mathlib.Nat.{div-div-eq-div-mul}
use native.Mathlib.Omega.{arith}
use lib.ListN.{length, get_or, length-append}
use borrow.Author.Tests.{lt-ltb, eq-eqb, ne_eqb}
use Rattle.parts.specs.Parts.{lay}
use Rattle.pins.specs.Pins.{select_of, clock_of, si_of, wp_of, hold_of, is_held, handed, idle}
use Rattle.pins_run.specs.Runs.{ran_to}
use Rattle.pins_promises.specs.Samples.{all_low, none_held, bits_at, bytes_from, whole_of, byte_bits, clocking, samples_for}
use Rattle.pins_promises.specs.Promises.{SpellsBytes, InReach}
use Rattle.pins_promises.proofs.Handed.{hands-over}

-- ---- every frame is in reach
tail_none : (n v : ℕ) (tail : List ℕ) → n + length tail < 8 → bytes_from n v tail ≡ []
tail_none n v [] h = refl
tail_none n v (b ∷ tail) h =
    let l : n < 7 = omega arith in
    rw (lt-ltb n 7 l) (tail_none (n + 1) (2 * v + b) tail (omega arith))

pairs : (n : ℕ) → 2 * (n / 2) + n % 2 ≡ n
pairs n = omega arith

pair : (k b : ℕ) → 2 * (b / (k * 2)) + b / k % 2 ≡ b / k
pair k b = rw (← (div-div-eq-div-mul b k 2)) (pairs (b / k))

eight : (b : ℕ) → b < 256
    → 2 * (2 * (2 * (2 * (2 * (2 * (2 * (2 * 0 + b / 128 % 2) + b / 64 % 2) + b / 32 % 2) + b / 16 % 2) + b / 8 % 2) + b / 4 % 2) + b / 2 % 2) + b % 2 ≡ b
eight b h =
    let top : 2 * 0 + b / 128 % 2 ≡ b / 128 = omega arith in
    rw (top, pair 64 b, pair 32 b, pair 16 b, pair 8 b, pair 4 b, pair 2 b) (pairs b)

whole-bytes : (bytes tail : List ℕ) → ((k : ℕ) → get_or bytes k 0 < 256) → length tail < 8 → whole_of (byte_bits bytes ++ tail) ≡ bytes
whole-bytes [] tail w h = tail_none 0 0 tail (omega arith)
whole-bytes (b ∷ bytes) tail w h = rw (eight b (w 0), whole-bytes bytes tail (λ (k : ℕ). w (suc k)) h)

bits-length : (bytes : List ℕ) → length (byte_bits bytes) ≡ 8 * length bytes
bits-length [] = refl
bits-length (b ∷ bytes) = let e : length (byte_bits bytes) ≡ 8 * length bytes = bits-length bytes in omega arith

pub spells-bytes : SpellsBytes
spells-bytes bytes tail w h =
    let e : length (byte_bits bytes ++ tail) ≡ 8 * length bytes + length tail = length-append (byte_bits bytes) tail ∙ ap (λ (n : ℕ). n + length tail) (bits-length bytes) in
    (whole-bytes bytes tail w.below h, rw e (omega arith))

data Bitwise : List ℕ → Type 0 where
  none : Bitwise []
  one : {b : ℕ} {bits : List ℕ} → b < 2 → Bitwise bits → Bitwise (b ∷ bits)

low-sent : (b : ℕ) → b < 2 → (select_of (16 + 4 * b) ≡ false) × (clock_of (16 + 4 * b) ≡ false) × (hold_of (16 + 4 * b) ≡ true)
low-sent b h = (ne_eqb _ 1 (λ (e : (16 + 4 * b) % 2 ≡ 1). omega arith), ne_eqb _ 1 (λ (e : (16 + 4 * b) / 2 % 2 ≡ 1). omega arith), eq-eqb ((16 + 4 * b) / 16 % 2) 1 (omega arith))

high-sent : (b : ℕ) → b < 2 → (select_of (18 + 4 * b) ≡ false) × (clock_of (18 + 4 * b) ≡ true) × (si_of (18 + 4 * b) ≡ b)
high-sent b h = (ne_eqb _ 1 (λ (e : (18 + 4 * b) % 2 ≡ 1). omega arith), eq-eqb ((18 + 4 * b) / 2 % 2) 1 (omega arith), omega arith)

clocked-bits : {bits : List ℕ} (clock : Bool) → Bitwise bits → (all_low (clocking bits) ≡ true) × (none_held false (clocking bits) ≡ true) × (bits_at clock (clocking bits) ≡ bits)
clocked-bits clock none = (refl, refl, refl)
clocked-bits clock (one {b} {bits} h s) =
    let a = low-sent b h in
    let c = high-sent b h in
    let r = clocked-bits true s in
    (rw (a.0, c.0) r.0, rw (a.1, a.2, c.1) r.1, rw (a.1, and-false (not clock), c.1, c.2, r.2))
  where
    and-false : (x : Bool) → (x && false) ≡ false
    and-false true = refl
    and-false false = refl

half : (n : ℕ) → n % 2 < 2
half n = omega arith

sent-tail : (tail : List ℕ) → ((k : ℕ) → get_or tail k 0 < 2) → Bitwise tail
sent-tail [] h = none
sent-tail (b ∷ tail) h = one (h 0) (sent-tail tail (λ (k : ℕ). h (suc k)))

sent-all : (bytes tail : List ℕ) → Bitwise tail → Bitwise (byte_bits bytes ++ tail)
sent-all [] tail s = s
sent-all (b ∷ bytes) tail s =
    one (half (b / 128)) (one (half (b / 64)) (one (half (b / 32)) (one (half (b / 16)) (one (half (b / 8)) (one (half (b / 4)) (one (half (b / 2)) (one (half b) (sent-all bytes tail s))))))))

first : (wp : Bool) → (select_of (cond wp 24 16) ≡ false) × (clock_of (cond wp 24 16) ≡ false) × (hold_of (cond wp 24 16) ≡ true) × (wp_of (cond wp 24 16) ≡ wp)
first true = (refl, refl, refl, refl)
first false = (refl, refl, refl, refl)

pub in_reach : InReach
in_reach f bytes tail wp buffer p w t h m r =
    let fall : ℕ = cond wp 24 16 in
    let bits : List ℕ = byte_bits bytes ++ tail in
    let a = first wp in
    let c = clocked-bits (clock_of fall) (sent-all bytes tail (sent-tail tail t.below)) in
    let k = spells-bytes bytes tail w h in
    let whole : whole_of (bits_at (clock_of fall) (clocking bits)) ≡ bytes = ap whole_of c.2 ∙ k.0 in
    let long : length (bits_at (clock_of fall) (clocking bits)) % 8 ≡ length tail = ap (λ (x : List ℕ). length x % 8) c.2 ∙ k.1 in
    let n : length (whole_of (bits_at (clock_of fall) (clocking bits))) ≡ length bytes = ap length whole in
    let nh : is_held f.held fall ≡ false = rw (a.1, a.2) in
    let used : length (clocking bits) + 2 ≡ length (samples_for bytes tail wp) = rw (length-append (clocking bits) (17 ∷ [])) (omega arith) in
    hands-over f fall (clocking bits) 17 [] buffer (record { high = p; falls = a.0; low = c.0; rises = refl }) (rw nh c.1) (omega arith) (omega arith)
    ∙ ap (λ (x : ℕ). ran_to x (idle 17 false) (handed (length (whole_of (bits_at (clock_of fall) (clocking bits)))) (length (bits_at (clock_of fall) (clocking bits)) % 8) (wp_of fall)) (lay buffer 0 (whole_of (bits_at (clock_of fall) (clocking bits))))) used
    ∙ ap (λ (x : List ℕ). ran_to (length (samples_for bytes tail wp)) (idle 17 false) (handed (length x) (length (bits_at (clock_of fall) (clocking bits)) % 8) (wp_of fall)) (lay buffer 0 x)) whole
    ∙ ap (λ (x : ℕ). ran_to (length (samples_for bytes tail wp)) (idle 17 false) (handed (length bytes) x (wp_of fall)) (lay buffer 0 bytes)) long
    ∙ ap (λ (x : Bool). ran_to (length (samples_for bytes tail wp)) (idle 17 false) (handed (length bytes) (length tail) x) (lay buffer 0 bytes)) a.3
