-- A script that comes in blocks. What is there of a line at a block's end is held for the next one, unless it has over 640 bytes: then it is bad however
-- it goes on (01, "Script and log"), and is written as it is.
use Rattle.std.specs.Prelude.{◌≡◌, ℕ, ◌+◌, ◌-◌, ◌*◌, ◌/◌, Bool, false, cond, ◌&&◌, ◌||◌, List, [], ◌∷◌, ◌++◌, length, ◌==◌, nat_le, nat_lt, Option, Some, None}
use Rattle.parts.specs.Parts.{part, lay}
use Rattle.text.specs.Text.{newline}
use Rattle.text.specs.Put.{Put}
use Rattle.script.specs.Grammar.{longest_line}
use Rattle.rewrite_blocks.specs.declared.Progress.{Progress}
use Rattle.rewrite_blocks.specs.declared.Passed.{Passed}
use Rattle.rewrite.specs.Rewriting.{number_after, numbers_text, ended_line, ended_number}

-- ---- the lines of a block
-- what comes of some bytes: the lines that ended in them, rewritten, with their newlines, and the numbers of those that changed; then the number of the
-- line that is open, whether it is a long one, whose first bytes, over 640, went before, and what there is of it
pub record Passage : Type 0 where
  pub text : List ℕ
  pub changed : List ℕ
  pub number : ℕ
  pub long : Bool
  pub line : List ℕ

abbrev pub after_line : Bool → ℕ → List ℕ → Passage → Passage
after_line long number line p =
    record { text = ended_line long line ++ (newline ∷ p.text); changed = ended_number long number line ++ p.changed; number = p.number; long = p.long; line = p.line }

-- the bytes s, where the bytes `line` of their first line were there before
abbrev pub passage : Bool → ℕ → List ℕ → List ℕ → Passage
passage long number line [] = record { text = []; changed = []; number = number; long = long; line = line }
passage long number line (b ∷ s) = cond (b == newline) (after_line long number line (passage false (number_after number) [] s)) (passage long number (line ++ (b ∷ [])) s)

-- ---- one block
-- the first line has the number 1, and nothing is held
abbrev pub first_progress : Progress
first_progress = record { number = 1; long = false; at = 0; end = 0; told = 0 }

-- what is held of the line that is open
abbrev pub held_start : Progress → List ℕ → List ℕ
held_start run out = part out run.at (run.end - run.at)

-- how far it is, where the line that is open starts at `at` and the bytes end at `end`: it is held, unless it is long by now
abbrev pub long_by : Bool → ℕ → ℕ → Bool
long_by long at end = long || nat_lt longest_line (end - at)

abbrev pub progress_at : ℕ → Bool → ℕ → ℕ → ℕ → Progress
progress_at number long at end told = record { number = number; long = long_by long at end; at = cond (long_by long at end) end at; end = end; told = told }

abbrev pub progress_of : Passage → Progress
progress_of p = progress_at p.number p.long (length p.text) (length (p.text ++ p.line)) (length (numbers_text p.changed))

-- whether what is held lies in the output, and it and n bytes more fit into output and report: a line that changes has at least 9 bytes with its newline, and its
-- number takes at most 21, so that seven bytes of report are enough for three of script
unfoldable pub block_fits : Progress → ℕ → ℕ → ℕ → Bool
block_fits run n out report =
    (nat_le run.at run.end && nat_le run.end out) && (nat_le (run.end - run.at + n) out && nat_le (run.end - run.at + n) (report / 7 * 3))

-- the answer, and the output and the report after
pub record Rewrote : Type 0 where
  pub step : Option Progress
  pub out : List ℕ
  pub report : List ℕ

abbrev pub refused_rewrite : List ℕ → List ℕ → Rewrote
refused_rewrite out report = record { step = None; out = out; report = report }

abbrev pub passage_rewrite : Passage → List ℕ → List ℕ → Rewrote
passage_rewrite p out report = record { step = Some (progress_of p); out = lay out 0 (p.text ++ p.line); report = lay report 0 (numbers_text p.changed) }

unfoldable pub block_rewrite : Progress → List ℕ → List ℕ → List ℕ → Rewrote
block_rewrite run block out report =
    cond (block_fits run (length block) (length out) (length report))
    (passage_rewrite (passage run.long run.number (held_start run out) block) out report)
    (refused_rewrite out report)

-- ---- the input's end: what is held is the last line, without its newline
abbrev pub last_progress : Progress → List ℕ → Progress
last_progress run numbers = record { number = run.number; long = run.long; at = run.end - run.at; end = run.end - run.at; told = length (numbers_text numbers) }

abbrev pub last_taken : Progress → List ℕ → List ℕ → Rewrote
last_taken run out report =
    record {
      step = Some (last_progress run (ended_number run.long run.number (held_start run out)));
      out = lay out 0 (ended_line run.long (held_start run out));
      report = lay report 0 (numbers_text (ended_number run.long run.number (held_start run out)));
    }

unfoldable pub last_rewrite : Progress → List ℕ → List ℕ → Rewrote
last_rewrite run out report = cond (block_fits run 0 (length out) (length report)) (last_taken run out report) (refused_rewrite out report)

-- ---- what the functions give, and leave in the lent buffers
-- the lines that ended in some bytes
pub record LinesRewritten (p : Passage) (report : List ℕ) (r : Passed) (bytes report' : List ℕ) : Type 0 where
  pub at' : r.at ≡ length p.text
  pub number' : r.number ≡ p.number
  pub long' : r.long ≡ p.long
  pub is : bytes ≡ p.text ++ p.line
  pub put : Put (numbers_text p.changed) report 0 report' r.told

-- what is held now stands at the output's start
pub record MovedDown (out : List ℕ) (at end r : ℕ) (out' : List ℕ) : Type 0 where
  pub count : r ≡ end - at
  pub is : out' ≡ lay out 0 (part out at (end - at))

pub record Rewrites (w : Rewrote) (r : Option Progress) (out report : List ℕ) : Type 0 where
  pub step' : r ≡ w.step
  pub out' : out ≡ w.out
  pub report' : report ≡ w.report
