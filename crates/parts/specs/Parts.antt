-- A part of a list, a list with one part replaced, and numbers in bytes. Every change of a lent slice is said by `lay`.
use Rattle.std.specs.Prelude.{Bool, true, false, ◌&&◌, ◌||◌, List, [], ◌∷◌, ◌++◌, ℕ, zero, suc, ◌+◌, ◌*◌, ◌/◌, ◌%◌, ◌<◌, eqb, length, get_or, take, drop}

-- the n elements of xs from index at on
abbrev pub part : List ℕ → ℕ → ℕ → List ℕ
part xs at n = take n (drop at xs)

-- xs with ys in place of what stood from index at on, and the rest as it was
unfoldable pub lay : List ℕ → ℕ → List ℕ → List ℕ
lay xs at ys = take at xs ++ (ys ++ drop (at + length ys) xs)

-- each element x becomes f k x, k being its index, counted from 0
abbrev pub map_from : (ℕ → ℕ → ℕ) → ℕ → List ℕ → List ℕ
map_from f k [] = []
map_from f k (x ∷ xs) = f k x ∷ map_from f (suc k) xs

abbrev pub by_index : (ℕ → ℕ → ℕ) → List ℕ → List ℕ
by_index f xs = map_from f 0 xs

-- whether f k x of some element x, k being its index, counted from 0
abbrev pub some_from : (ℕ → ℕ → Bool) → ℕ → List ℕ → Bool
some_from f k [] = false
some_from f k (x ∷ xs) = f k x || some_from f (suc k) xs

abbrev pub some_by_index : (ℕ → ℕ → Bool) → List ℕ → Bool
some_by_index f xs = some_from f 0 xs

-- whether each element is that number
abbrev pub all_are : ℕ → List ℕ → Bool
all_are v [] = true
all_are v (x ∷ xs) = eqb x v && all_are v xs

-- a number in n bytes, the low byte first, and the number that bytes spell
abbrev pub bytes_of : ℕ → ℕ → List ℕ
bytes_of zero x = []
bytes_of (suc n) x = x % 256 ∷ bytes_of n (x / 256)

abbrev pub spelt : List ℕ → ℕ
spelt [] = 0
spelt (b ∷ bs) = b + 256 * spelt bs

-- every element is a byte
pub record Bytes (xs : List ℕ) : Type 0 where
  pub below : (k : ℕ) → get_or xs k 0 < 256
