-- How a line is told: the grammar as a test of its bytes. `byte_at s i` is byte i of the line, 0 past its end.
use Rattle.std.specs.Prelude.{◌≡◌, Bool, true, not, ◌&&◌, ◌||◌, cond, List, [], ◌∷◌, ℕ, ◌+◌, ◌-◌, ◌*◌, ◌/◌, ◌%◌, eqb, ltb, leb, length, get_or, drop, Option, Some, None}
use Prim.Native.Char.{code}
use Rattle.std.specs.List.{list_all}
use Rattle.text.specs.Text.{tab}
use Rattle.script.specs.declared.Line.{Line}
use Rattle.script.specs.declared.Line.TheVariants.{Frame, Wait, Power}
use Rattle.script.specs.Grammar.{F, W, P, longest_line, Says}
use Rattle.script.specs.Hex.{is_digit, is_hex}

abbrev pub byte_at : List ℕ → ℕ → ℕ
byte_at s i = get_or s i 0

abbrev pub all_hex : List ℕ → Bool
all_hex s = list_all is_hex s

abbrev pub all_digits : List ℕ → Bool
all_digits [] = true
all_digits (b ∷ s) = is_digit b && all_digits s

-- the number that digits spell, after others that spell n
abbrev pub value_from : ℕ → List ℕ → ℕ
value_from n [] = n
value_from n (b ∷ s) = value_from (n * 10 + (b - code "0")) s

-- at least one digit, and no leading zero
unfoldable pub plain_number : List ℕ → Bool
plain_number s = eqb (length s) 1 || (ltb 1 (length s) && not (eqb (byte_at s 0) (code "0")))

-- `F`, tab, `0` or `1`, tab, `0` to `7`, tab, and the digits of at most 300 bytes
unfoldable pub frame_head : List ℕ → Bool
frame_head s =
    ((eqb (byte_at s 0) F && eqb (byte_at s 1) tab) && ((leb (code "0") (byte_at s 2) && leb (byte_at s 2) (code "1")) && eqb (byte_at s 3) tab))
    && (((leb (code "0") (byte_at s 4) && leb (byte_at s 4) (code "7")) && eqb (byte_at s 5) tab) && (eqb (length s % 2) 0 && leb (length s) 606))

unfoldable pub is_frame : List ℕ → Bool
is_frame s = frame_head s && all_hex (drop 6 s)

-- `W`, tab, and a number of at most 4,294,967,295
unfoldable pub wait_head : List ℕ → Bool
wait_head s = (eqb (byte_at s 0) W && eqb (byte_at s 1) tab) && plain_number (drop 2 s)

unfoldable pub is_wait : List ℕ → Bool
is_wait s = wait_head s && (all_digits (drop 2 s) && leb (value_from 0 (drop 2 s)) 4294967295)

-- `P`
unfoldable pub is_power : List ℕ → Bool
is_power s = eqb (length s) 1 && eqb (byte_at s 0) P

-- What a line that is no frame says: `None`, which is answer 20, where it is nothing of these.
unfoldable pub other_line : List ℕ → Option Line
other_line s = cond (is_wait s) (Some (Wait (value_from 0 (drop 2 s)))) (cond (is_power s) (Some Power) None)

-- What a line says.
unfoldable pub line_of : List ℕ → Option Line
line_of s = cond (ltb longest_line (length s)) None (cond (is_frame s) (Some (Frame (eqb (byte_at s 2) (code "1")) (byte_at s 4 - code "0") ((length s - 6) / 2))) (other_line s))

-- the value of digits after others that spell n; `None` where a byte is no digit or the value is larger than a wait can be
unfoldable pub numbered : ℕ → List ℕ → Option ℕ
numbered n s = cond (all_digits s && leb (value_from n s) 4294967295) (Some (value_from n s)) None

-- What is read of a line: what it says where the grammar has it, `None` where it has not; and `line_of` tells which.
pub record Reads (s : List ℕ) (r : Option Line) : Type 0 where
  pub is : r ≡ line_of s
  pub written : (l : Line) → Says s l → r ≡ Some l
  pub nothing-else : (l : Line) → r ≡ Some l → Says s l

-- no second answer; and the grammar alone decides, without `line_of`
abbrev pub OneReads : Type 0
OneReads = (s : List ℕ) (r r' : Option Line) → Reads s r → Reads s r' → r ≡ r'

abbrev pub GrammarDecides : Type 0
GrammarDecides = (s : List ℕ) (r : Option Line) → ((l : Line) → Says s l → r ≡ Some l) → ((l : Line) → r ≡ Some l → Says s l) → r ≡ line_of s
