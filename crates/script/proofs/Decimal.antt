-- Numbers in decimal, there and back: the digits of a number spell it, and digits without a leading zero are those of the number that
-- they spell.
use mathlib.Core.Path.{◌≡◌, refl, sym, ap, ◌∙◌}
use mathlib.Core.Bool.{Bool, true, false, not, ◌&&◌, ◌||◌}
use mathlib.Core.List.{List, [], ◌∷◌, ◌++◌}
use Prim.Native.Nat.{ℕ, zero, suc, ◌+◌, ◌-◌, ◌*◌, ◌/◌, ◌%◌, ◌^◌, ◌≤◌, ◌<◌}
use native.Mathlib.Nat.{pow-suc}
use native.Mathlib.Omega.{arith}
use lib.Dec.{eqb, ltb}
use lib.ListN.{length, get_or, take, length-append, get_or-append}
use lib.Seq.{take-suc, take-length, take-take}
use borrow.Author.Tests.{le-leb, lt-ltb, ltb-true, ltb-false, eq-eqb, ne_eqb, eqb-false, not-true}
use Rattle.text.specs.Text.{decimal_in, decimal_text}
use Rattle.text.proofs.TextLaws.{decimal-one, decimal-more}
use Rattle.script.specs.Hex.{is_digit}
use Rattle.script.specs.Reading.{all_digits, value_from, plain_number}
use Rattle.script.proofs.HexLaws.{and_left, and_right, digit-range}

-- ---- lists of digits
-- more digits make no number smaller
pub grows : (n : ℕ) (s : List ℕ) → n ≤ value_from n s
grows n [] = omega arith
grows n (b ∷ s) = let h : n * 10 + (b - 48) ≤ value_from (n * 10 + (b - 48)) s = grows (n * 10 + (b - 48)) s in omega arith

value-more : (n : ℕ) (s : List ℕ) (d : ℕ) → value_from n (s ++ (d ∷ [])) ≡ value_from n s * 10 + (d - 48)
value-more n [] d = refl
value-more n (b ∷ s) d = value-more (n * 10 + (b - 48)) s d

digits_more : (s : List ℕ) (d : ℕ) → all_digits s ≡ true → is_digit d ≡ true → all_digits (s ++ (d ∷ [])) ≡ true
digits_more [] d e f = rw f
digits_more (b ∷ s) d e f =
    let r : all_digits s ≡ true = and_right (is_digit b) (all_digits s) e in
    rw (and_left (is_digit b) (all_digits s) e) (digits_more s d r f)

digit_at : (s : List ℕ) (i : ℕ) → all_digits s ≡ true → i < length s → is_digit (get_or s i 0) ≡ true
digit_at [] i e l = absurd (omega arith)
digit_at (b ∷ s) zero e l = and_left (is_digit b) (all_digits s) e
digit_at (b ∷ s) (suc i) e l = digit_at s i (and_right (is_digit b) (all_digits s) e) (omega arith)

a-digit : (d : ℕ) → d < 10 → is_digit (48 + d) ≡ true
unfolding is_digit
a-digit d l = rw (le-leb 48 (48 + d) (omega arith), le-leb (48 + d) 57 (omega arith))

-- ---- the digits of a number
some : (m n : ℕ) → n < 10 ^ suc m → 10 ≤ n → 0 < m
some zero n h b = absurd (omega arith)
some (suc m) n h b = omega arith

-- what the digits of n are: digits, which spell n, at least one, and the first is no zero unless n is
record Spells (n : ℕ) (s : List ℕ) : Type 0 where
  digits : all_digits s ≡ true
  value : value_from 0 s ≡ n
  filled : 1 ≤ length s
  first : 1 ≤ n → 49 ≤ get_or s 0 0
  one : n < 10 → length s ≡ 1
  more : 10 ≤ n → 2 ≤ length s

spells_one : (n : ℕ) → n < 10 → Spells n ((48 + n) ∷ [])
spells_one n l = record {
  digits = rw (a-digit n l);
  value = omega arith;
  filled = omega arith;
  first = λ h. omega arith;
  one = λ h. refl;
  more = λ h. omega arith;
}

spells-more : (n : ℕ) (s : List ℕ) → 10 ≤ n → Spells (n / 10) s → Spells n (s ++ ((48 + n % 10) ∷ []))
spells-more n s l p =
    let k : length (s ++ ((48 + n % 10) ∷ [])) ≡ length s + 1 = length-append s ((48 + n % 10) ∷ []) in
    let f : 1 ≤ length s = p.filled in
    let v : value_from 0 s ≡ n / 10 = p.value in
    let h : 49 ≤ get_or s 0 0 = p.first (omega arith) in
    record {
      digits = digits_more s (48 + n % 10) p.digits (a-digit (n % 10) (omega arith));
      value = value-more 0 s (48 + n % 10) ∙ omega arith;
      filled = omega arith;
      first = λ i. rw (get_or-append s ((48 + n % 10) ∷ []) 0 0 (omega arith)) h;
      one = λ i. absurd (omega arith);
      more = λ i. omega arith;
    }

spells : (m n : ℕ) → 0 < m → n < 10 ^ m → Spells n (decimal_in m n)
spells zero n l h = absurd (omega arith)
spells (suc m) n l h = go (ltb n 10) refl (λ b. let p : 10 ^ suc m ≡ 10 ^ m * 10 = pow-suc 10 m in spells m (n / 10) (some m n h b) (omega arith))
  where
    go : (t : Bool) → ltb n 10 ≡ t → (10 ≤ n → Spells (n / 10) (decimal_in m (n / 10))) → Spells n (decimal_in (suc m) n)
    go true p e = rw p (spells_one n (ltb-true n 10 p))
    go false p e = let b : 10 ≤ n = ltb-false n 10 p in rw p (spells-more n (decimal_in m (n / 10)) b (e b))

plain_of : (n : ℕ) (s : List ℕ) → Spells n s → plain_number s ≡ true
unfolding plain_number
plain_of n s p = go (ltb n 10) refl
  where
    go : (t : Bool) → ltb n 10 ≡ t → (eqb (length s) 1 || (ltb 1 (length s) && not (eqb (get_or s 0 0) 48))) ≡ true
    go true e = rw (eq-eqb (length s) 1 (p.one (ltb-true n 10 e)))
    go false e =
        let b : 10 ≤ n = ltb-false n 10 e in
        let k : 2 ≤ length s = p.more b in
        let h : 49 ≤ get_or s 0 0 = p.first (omega arith) in
        rw (ne_eqb (length s) 1 (omega arith), lt-ltb 1 (length s) (omega arith), ne_eqb (get_or s 0 0) 48 (omega arith))

-- the digits of a number are plain_number, and spell it
pub decimal-plain : (n : ℕ) → n < 10 ^ 20 → plain_number (decimal_text n) ≡ true
unfolding decimal_text
decimal-plain n l = plain_of n (decimal_in 20 n) (spells 20 n (omega arith) l)

pub decimal-digits : (n : ℕ) → n < 10 ^ 20 → all_digits (decimal_text n) ≡ true
unfolding decimal_text
decimal-digits n l = (spells 20 n (omega arith) l).digits

pub decimal-value : (n : ℕ) → n < 10 ^ 20 → value_from 0 (decimal_text n) ≡ n
unfolding decimal_text
decimal-value n l = (spells 20 n (omega arith) l).value

-- ---- back: digits without a leading zero are those of the number that they spell
take-grows : (n : ℕ) (s : List ℕ) (k : ℕ) → value_from n (take k s) ≤ value_from n s
take-grows n s zero = grows n s
take-grows n [] (suc k) = omega arith
take-grows n (b ∷ s) (suc k) = take-grows (n * 10 + (b - 48)) s k

-- the first k + 1 digits
prefix : (s : List ℕ) (k : ℕ) → all_digits s ≡ true → value_from 0 s < 10 ^ 20 → k < length s → (1 < length s → 1 ≤ value_from 0 (take 1 s)) → decimal_text (value_from 0 (take (suc k) s)) ≡ take (suc k) s
prefix [] zero e v l f = absurd (omega arith)
prefix (b ∷ s) zero e v l f =
    let r = digit-range b (and_left (is_digit b) (all_digits s) e) in
    decimal-one (0 * 10 + (b - 48)) (omega arith) ∙ ap (λ (z : ℕ). z ∷ []) {x = 48 + (0 * 10 + (b - 48))} {y = b} (omega arith)
prefix s (suc k) e v l f =
    let d : ℕ = get_or s (suc k) 0 in
    let n : ℕ = value_from 0 (take (suc k) s) in
    let r = digit-range d (digit_at s (suc k) e l) in
    let whole : value_from 0 (take (suc (suc k)) s) ≡ n * 10 + (d - 48) = ap (value_from 0) (take-suc s (suc k) 0 l) ∙ value-more 0 (take (suc k) s) d in
    let most : value_from 0 (take (suc (suc k)) s) ≤ value_from 0 s = take-grows 0 s (suc (suc k)) in
    let some_of : value_from 0 (take 1 (take (suc k) s)) ≤ n = take-grows 0 (take (suc k) s) 1 in
    let one : 1 ≤ value_from 0 (take 1 s) = f (omega arith) in
    let same : value_from 0 (take 1 (take (suc k) s)) ≡ value_from 0 (take 1 s) = ap (value_from 0) (take-take 1 (suc k) s (omega arith)) in
    let tenth : (n * 10 + (d - 48)) / 10 ≡ n = omega arith in
    let last : 48 + (n * 10 + (d - 48)) % 10 ≡ d = omega arith in
    ap decimal_text whole ∙ decimal-more (n * 10 + (d - 48)) (omega arith) (omega arith)
    ∙ ap (λ (z : ℕ). decimal_text z ++ ((48 + (n * 10 + (d - 48)) % 10) ∷ [])) tenth
    ∙ ap (λ (z : ℕ). decimal_text n ++ (z ∷ [])) last
    ∙ ap (λ (z : List ℕ). z ++ (d ∷ [])) (prefix s k e v (omega arith) f)
    ∙ sym (take-suc s (suc k) 0 l)

plain-first : (s : List ℕ) → plain_number s ≡ true → all_digits s ≡ true → (1 ≤ length s) × (1 < length s → 1 ≤ value_from 0 (take 1 s))
unfolding plain_number
plain-first [] p e = absurd (let z : ◌≡◌ {A = ℕ} 0 1 = cc in omega arith)
plain-first (b ∷ []) p e = (omega arith, λ l. absurd (omega arith))
plain-first (b ∷ c ∷ s) p e =
    let r = digit-range b (and_left (is_digit b) (is_digit c && all_digits s) e) in
    let n : ℕ = suc (suc (length s)) in
    let k : not (eqb b 48) ≡ true = rw (ne_eqb n 1 (omega arith), lt-ltb 1 n (omega arith)) at p in
    let ne : b ≡ 48 → ⊥ = eqb-false b 48 (not-true (eqb b 48) k) in
    (omega arith, λ l. omega arith)

pub digits-back : (s : List ℕ) → plain_number s ≡ true → all_digits s ≡ true → value_from 0 s < 10 ^ 20 → s ≡ decimal_text (value_from 0 s)
digits-back [] p e v = absurd (omega (arith, (plain-first [] p e).0))
digits-back (b ∷ s) p e v =
    let whole : take (suc (length s)) (b ∷ s) ≡ b ∷ s = take-length (b ∷ s) in
    sym whole ∙ sym (prefix (b ∷ s) (length s) e v (omega arith) (plain-first (b ∷ s) p e).1) ∙ ap (λ (z : List ℕ). decimal_text (value_from 0 z)) whole
