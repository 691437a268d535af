-- A read that goes on at address 0 after the last one (01, "Commands", 03; 000 L301).
use Rattle.std.specs.Prelude.{◌≡◌, List, [], ◌∷◌, ℕ, zero, suc, ◌-◌, ◌%◌, ◌<◌, length, get_or}

-- the n bytes of xs from address at on: byte i is the one at (at + i) mod the length of xs
unfoldable pub ring : List ℕ → ℕ → ℕ → List ℕ
ring xs at zero = []
ring xs at (suc n) = get_or xs (at % length xs) 0 ∷ ring xs (suc at) n

-- "The address counter rolls over to 0 when the highest address has been reached" (000 L301): from the last address on, the last cell and then the first
abbrev pub RollsOver : Type 0
RollsOver = (xs : List ℕ) → 0 < length xs → ring xs (length xs - 1) 2 ≡ get_or xs (length xs - 1) 0 ∷ get_or xs 0 0 ∷ []
