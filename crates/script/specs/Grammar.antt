-- The well-formed lines of a script (01, "Script and log").
use Rattle.std.specs.Prelude.{Bool, true, false, List, [], ◌∷◌, ℕ, ◌+◌, ◌≤◌, length}
use Prim.Native.Char.{code}
use Rattle.parts.specs.Parts.{Bytes}
use Rattle.text.specs.Text.{tab, hex_text, decimal_text}
use Rattle.script.specs.declared.Line.{Line}
use Rattle.script.specs.declared.Line.TheVariants.{Frame, Wait, Power}

-- the letters that lines begin with
abbrev pub F : ℕ
F = code "F"

abbrev pub W : ℕ
W = code "W"

abbrev pub P : ℕ
P = code "P"

-- the most bytes of a frame, and of a line without its newline
abbrev pub longest_frame : ℕ
longest_frame = 300

abbrev pub longest_line : ℕ
longest_line = 640

-- WP# low and high, as a digit
abbrev pub level_of : Bool → ℕ
level_of false = code "0"
level_of true = code "1"

-- `F`, WP#, the tail, the bytes in hex capitals: always four fields, so the line of an empty frame ends in a tab
abbrev pub frame_text : Bool → ℕ → List ℕ → List ℕ
frame_text wp tail bytes = F ∷ tab ∷ level_of wp ∷ tab ∷ (code "0" + tail) ∷ tab ∷ hex_text bytes

-- `W`, the microseconds in decimal without leading zeros
abbrev pub wait_text : ℕ → List ℕ
wait_text us = W ∷ tab ∷ decimal_text us

-- `P` alone
abbrev pub power_text : List ℕ
power_text = P ∷ []

-- The lines, and what each says. No other line is well formed. The longest has 606 bytes, so that `longest_line` shuts none of them out.
pub data Says : List ℕ → Line → Type 0 where
  frame : (wp : Bool) (tail : ℕ) (bytes : List ℕ) → tail ≤ 7 → length bytes ≤ longest_frame → Bytes bytes → Says (frame_text wp tail bytes) (Frame wp tail (length bytes))
  wait : (us : ℕ) → us ≤ 4294967295 → Says (wait_text us) (Wait us)
  power : Says power_text Power
