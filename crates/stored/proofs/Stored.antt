-- A rewritten line is played as the line was before, so the logs are the same.
use mathlib.Core.Path.{◌≡◌, refl, ap, ◌∙◌}
use mathlib.Core.Bool.{Bool}
use mathlib.Core.List.{List, [], ◌∷◌, ◌++◌, map}
use Prim.Native.Nat.{ℕ, suc}
use lib.ListN.{take, drop, replicate}
use Rattle.std.specs.Prelude.{Option, Some, None}
use Rattle.states.specs.States.{Chip}
use Rattle.states.specs.declared.Record.{Record}
use Rattle.script.specs.Hex.{hex_bytes}
use Rattle.script.specs.Reading.{line_of}
use Rattle.script.specs.declared.Line.{Line}
use Rattle.script.specs.declared.Line.TheVariants.{Frame, Wait, Power}
use Rattle.lines.specs.Lines.{lines_from}
use Rattle.play.specs.Play.{Turn, frame_turn, turn_of}
use Rattle.stepper.specs.Rows.{line_turn, row_text, chip_after, next, log_from}
use Rattle.rewrite.specs.Rewriting.{rewritten_line}
use Rattle.rewrite.specs.Promises.{first_replaced}
use Rattle.rewrite.proofs.Frames.{says-the-same, frame-replaced}
use Rattle.rewrite.proofs.Scripts.{line-by-line}
use Rattle.stored.specs.Stored.{frame_before, turn_before, line_before, row_before, log_before, SameLog}

take-first : (n : ℕ) (bytes : List ℕ) → take (suc n) (first_replaced bytes) ≡ first_replaced (take (suc n) bytes)
take-first n [] = refl
take-first n (b ∷ bytes) = refl

module _ (rec : Record) (strict : Bool) where
  turn-same : (x : Chip) (wear shown line : List ℕ) (l : Option Line) → line_of line ≡ l → turn_of rec strict x wear shown (rewritten_line line) l ≡ turn_before rec strict x wear shown line l
  unfolding turn_of frame_turn frame_before
  turn-same x wear shown line (Some (Frame wp tail n)) e = rw (frame-replaced line wp tail n e, take-first 299 (hex_bytes (drop 6 line)))
  turn-same x wear shown line (Some (Wait us)) e = refl
  turn-same x wear shown line (Some Power) e = refl
  turn-same x wear shown line None e = refl

  line_same : (x : Chip) (wear line : List ℕ) → line_turn rec strict x wear (rewritten_line line) ≡ line_before rec strict x wear line
  line_same x wear line =
      ap (turn_of rec strict x wear (replicate 300 0) (rewritten_line line)) (says-the-same line) ∙ turn-same x wear (replicate 300 0) line (line_of line) refl

  lines_same : (x : Chip) (wear : List ℕ) (n : ℕ) (lines : List (List ℕ)) → log_from rec strict x wear n (map rewritten_line lines) ≡ log_before rec strict x wear n lines
  unfolding row_text
  lines_same x wear n [] = refl
  lines_same x wear n (line ∷ lines) =
      let t : Turn = line_before rec strict x wear line in
      rw (line_same x wear line) (ap (λ (more : List ℕ). row_before t n ++ more) (lines_same (chip_after t) t.wear (next n) lines))

pub same_log : SameLog
same_log rec strict x wear n s = ap (log_from rec strict x wear n) (line-by-line s) ∙ lines_same rec strict x wear n (lines_from [] s)
