-- Digits, and the bytes of hex digits.
use Rattle.std.specs.Prelude.{◌≡◌, Bool, ◌&&◌, ◌||◌, cond, List, [], ◌∷◌, ◌++◌, ℕ, ◌+◌, ◌-◌, ◌*◌, ◌≤◌, leb, length, take, drop}
use Prim.Native.Char.{code}

-- `0` to `9`
unfoldable pub is_digit : ℕ → Bool
is_digit b = leb (code "0") b && leb b (code "9")

-- `A` to `F`
unfoldable pub is_capital : ℕ → Bool
is_capital b = leb (code "A") b && leb b (code "F")

unfoldable pub is_hex : ℕ → Bool
is_hex b = is_digit b || is_capital b

-- the value of a hex digit; 0 of any other byte
unfoldable pub nibble_of : ℕ → ℕ
nibble_of b = cond (is_digit b) (b - code "0") (cond (is_capital b) (b - (code "A" - 10)) 0)

-- the bytes that hex digits spell, two digits a byte
abbrev pub hex_bytes : List ℕ → List ℕ
hex_bytes [] = []
hex_bytes (a ∷ []) = []
hex_bytes (a ∷ b ∷ s) = (nibble_of a * 16 + nibble_of b) ∷ hex_bytes s

-- the bytes of the digits stand at the start of d, as many as d has room for, and the rest is as it was, which makes it e; r is how many
pub record Unhexed (digits d e : List ℕ) (r : ℕ) : Type 0 where
  pub count : r ≡ length (take (length d) (hex_bytes digits))
  pub is : e ≡ take r (hex_bytes digits) ++ drop r d
  pub within : r ≤ length e

-- no second answer
abbrev pub OneUnhexed : Type 0
OneUnhexed = (digits d e e' : List ℕ) (r r' : ℕ) → Unhexed digits d e r → Unhexed digits d e' r' → (e ≡ e') × (r ≡ r')
