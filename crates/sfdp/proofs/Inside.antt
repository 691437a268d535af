-- Bytes that are taken hold every header and every table.
use mathlib.Core.Path.{◌≡◌, refl, sym, ap, ◌∙◌, subst}
use mathlib.Core.Bool.{Bool, true, false, not, ◌||◌}
use mathlib.Core.List.{List}
use Prim.Native.Nat.{ℕ, zero, suc, ◌+◌, ◌*◌, ◌≤◌, ◌<◌}
use native.Mathlib.Omega.{arith}
use lib.Dec.{ltb}
use lib.ListN.{length}
use borrow.Author.Tests.{ltb-true, ltb-false, le-ltb, not-false}
use Rattle.std.proofs.Common.{add-zero}
use Rattle.std.specs.List.{list_any, range_with_len}
use Rattle.std.proofs.Math.Bool.{or_comm, or_assoc}
use Rattle.answers.specs.Answers.{Done, is_done}
use Rattle.answers.specs.declared.Refusal.TheVariants.{NoSignature, BadHeader, BadPointer}
use Rattle.answers.proofs.Tables.{row-clear}
use Rattle.sfdp.specs.Sfdp.{is_signed, headers_of, header_at, words_of, pointer_of, is_long, is_out, some_below, table_rows, table_refusal}
use Rattle.sfdp.specs.Promises.{TablesInside}
use Rattle.units.proofs.Bools.{neither}

-- ---- some header
pub some-none : (f : ℕ → Bool) (n : ℕ) → ((i : ℕ) → i < n → f i ≡ false) → some_below f n ≡ false
some-none f zero h = refl
some-none f (suc n) h = rw (some-none f n (λ i l. h i (omega arith)), h n (omega arith))

pub none-some : (f : ℕ → Bool) (n : ℕ) → some_below f n ≡ false → (i : ℕ) → i < n → f i ≡ false
none-some f zero e i l = absurd (omega arith)
none-some f (suc n) e i l = let k = neither (some_below f n) (f n) e in go k.1 (none-some f n k.0 i) (ltb i n) refl
  where
    go : f n ≡ false → (i < n → f i ≡ false) → (b : Bool) → ltb i n ≡ b → f i ≡ false
    go last before true m = before (ltb-true i n m)
    go last before false m = let same : i ≡ n = omega (arith, ltb-false i n m) in ap f same ∙ last

-- a chain over their numbers asks the lowest first
last-of_range : (f : ℕ → Bool) (a n : ℕ) → list_any f (range_with_len a (suc n)) ≡ (list_any f (range_with_len a n) || f (a + n))
last-of_range f a zero = rw (add-zero a) (or_comm (f a) false)
last-of_range f a (suc n) =
    let k : a + suc n ≡ a + 1 + n = omega arith in
    rw (k) (ap (λ (b : Bool). f a || b) (last-of_range f (a + 1) n) ∙ sym (or_assoc (f a) (list_any f (range_with_len (a + 1) n)) (f (a + 1 + n))))

pub some-of_range : (f : ℕ → Bool) (n : ℕ) → list_any f (range_with_len 0 n) ≡ some_below f n
some-of_range f zero = refl
some-of_range f (suc n) =
    let k : 0 + n ≡ n = omega arith in
    last-of_range f 0 n ∙ rw (k, some-of_range f n)

-- ---- bytes that are taken
pub inside-taken : (xs : List ℕ) → TablesInside xs → table_refusal xs ≡ Done
unfolding table_refusal
inside-taken xs h =
    let n = length xs in
    let tables = h.tables in
    let l : 8 ≤ n = omega (arith, h.headers) in
    let begins : (ltb n 8 || not (is_signed xs)) ≡ false = rw (le-ltb n 8 l, h.signed) in
    let long : (some_below (is_long xs) (headers_of xs) || ltb (words_of xs 0) 9) ≡ false =
    rw (some-none (is_long xs) (headers_of xs) (λ i m. le-ltb n (4 * words_of xs i) (omega (arith, tables i m))), le-ltb (words_of xs 0) 9 h.first) in
    rw (begins, le-ltb n (header_at (headers_of xs)) h.headers, long, some-none (is_out xs) (headers_of xs) (λ i m. le-ltb n (pointer_of xs i + 4 * words_of xs i) (tables i m)))

-- each row's test fails
pub taken-inside : (xs : List ℕ) → is_done (table_refusal xs) ≡ true → TablesInside xs
unfolding table_refusal
taken-inside xs e =
    let n = length xs in
    let long = some_below (is_long xs) (headers_of xs) || ltb (words_of xs 0) 9 in
    let signed : (ltb n 8 || not (is_signed xs)) ≡ false = row-clear (table_rows xs) e NoSignature in
    let header : (ltb n (header_at (headers_of xs)) || long) ≡ false = row-clear (table_rows xs) e BadHeader in
    let pointer : some_below (is_out xs) (headers_of xs) ≡ false = row-clear (table_rows xs) e BadPointer in
    let k = neither (ltb n (header_at (headers_of xs))) long header in
    record {
      signed = not-false (is_signed xs) (neither (ltb n 8) (not (is_signed xs)) signed).1;
      headers = ltb-false n (header_at (headers_of xs)) k.0;
      first = ltb-false (words_of xs 0) 9 (neither (some_below (is_long xs) (headers_of xs)) (ltb (words_of xs 0) 9) k.1).1;
      tables = λ i m. ltb-false n (pointer_of xs i + 4 * words_of xs i) (none-some (is_out xs) (headers_of xs) pointer i m);
    }

-- a table that is longer than the bytes leaves them: where none of n leaves them, none is refused
pub none-refused : (xs : List ℕ) (n : ℕ) → n ≡ headers_of xs → is_signed xs ≡ true → header_at n ≤ length xs → 9 ≤ words_of xs 0 → some_below (is_out xs) n ≡ false → table_refusal xs ≡ Done
none-refused xs n e signed headers first out =
    inside-taken xs
    (record {
      signed = signed;
      headers = subst (λ (m : ℕ). header_at m ≤ length xs) e headers;
      first = first;
      tables = λ i m. ltb-false (length xs) (pointer_of xs i + 4 * words_of xs i) (none-some (is_out xs) n out i (omega (arith, e, m)));
    })

-- so the first table, of nine double words at least, lies in them
pub first_inside : (xs : List ℕ) (n : ℕ) → some_below (is_out xs) n ≡ false → 0 < n → 9 ≤ words_of xs 0 → pointer_of xs 0 + 36 ≤ length xs
first_inside xs n e l w = omega (arith, ltb-false (length xs) (pointer_of xs 0 + 4 * words_of xs 0) (none-some (is_out xs) n e 0 l), w)
