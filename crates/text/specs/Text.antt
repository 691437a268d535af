-- Numbers and bytes as text, in ASCII.
use Rattle.std.specs.Prelude.{cond, List, [], ◌∷◌, ◌++◌, ℕ, zero, suc, ◌+◌, ◌-◌, ◌/◌, ◌%◌, ltb}
use Prim.Native.Char.{code}
use Prim.Native.String.{String}

-- a text as its bytes
abbrev pub ascii : String → List ℕ
ascii String.[] = []
ascii (String.◌∷◌ c s) = code c ∷ ascii s

-- what parts the fields of a line, and what ends it
abbrev pub tab : ℕ
tab = code "\t"

abbrev pub newline : ℕ
newline = code "\n"

-- the digit of a number below 16: `0` to `9`, then the capitals `A` to `F`
abbrev pub digit_of : ℕ → ℕ
digit_of d = cond (ltb d 10) (code "0" + d) (code "A" - 10 + d)

-- bytes in hex, two digits a byte, the higher first
abbrev pub hex_text : List ℕ → List ℕ
hex_text [] = []
hex_text (b ∷ s) = digit_of (b / 16) ∷ digit_of (b % 16) ∷ hex_text s

-- a number in decimal without leading zeros, in at most so many digits
abbrev pub decimal_in : ℕ → ℕ → List ℕ
decimal_in zero n = []
decimal_in (suc more) n = cond (ltb n 10) ((code "0" + n) ∷ []) (decimal_in more (n / 10) ++ ((code "0" + n % 10) ∷ []))

-- twenty digits hold every 64-bit number
unfoldable pub decimal_text : ℕ → List ℕ
decimal_text n = decimal_in 20 n
