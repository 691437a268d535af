-- A whole script, cut into blocks anyhow: what is written is the script rewritten, and what is told are the numbers of the lines that changed.
use Rattle.std.specs.Prelude.{◌≡◌, ℕ, ◌+◌, ◌-◌, ◌*◌, ◌/◌, ◌≤◌, List, [], ◌∷◌, ◌++◌, length, take, Option, Some, None}
use Rattle.script.specs.Grammar.{longest_line}
use Rattle.lines.specs.Lines.{lines_from, joined_up}
use Rattle.rewrite.specs.Rewriting.{rewritten, changed_lines, numbers_text}
use Rattle.rewrite_blocks.specs.declared.Progress.{Progress}
use Rattle.rewrite_blocks.specs.declared.Passed.{Passed}
use Rattle.rewrite_blocks.specs.Blocks.{Passage, first_progress, Rewrote, block_rewrite, last_rewrite, LinesRewritten, MovedDown, Rewrites}

-- ---- what is written
pub record Written : Type 0 where
  pub text : List ℕ
  pub told : List ℕ

abbrev pub nothing_more : Written
nothing_more = record { text = []; told = [] }

-- the output up to `at` and the report up to `told`, and then what follows; where there is no room it ends
abbrev pub written_then : Option Progress → List ℕ → List ℕ → (Progress → Written) → Written
written_then (Some run) out report rest = record { text = take run.at out ++ (rest run).text; told = take run.told report ++ (rest run).told }
written_then None out report rest = nothing_more

-- block after block, and the input's end
abbrev pub written_blocks : Progress → List ℕ → List ℕ → List (List ℕ) → Written
written_blocks run out report [] = written_then (last_rewrite run out report).step (last_rewrite run out report).out (last_rewrite run out report).report (λ r. nothing_more)
written_blocks run out report (block ∷ blocks) =
    written_then (block_rewrite run block out report).step (block_rewrite run block out report).out (block_rewrite run block out report).report
    (λ r. written_blocks r (block_rewrite run block out report).out (block_rewrite run block out report).report blocks)

-- ---- what holds of it
pub data AllWithin (most : ℕ) : List (List ℕ) → Type 0 where
  none : AllWithin most []
  more : {block : List ℕ} {blocks : List (List ℕ)} → length block ≤ most → AllWithin most blocks → AllWithin most (block ∷ blocks)

-- Blocks of at most `most` bytes, an output with 640 bytes more, and a report of seven bytes for three of those: the whole script is rewritten.
abbrev pub WholeScriptRewritten : Type 0
WholeScriptRewritten = (most : ℕ) (out report : List ℕ) (blocks : List (List ℕ)) → AllWithin most blocks → longest_line + most ≤ length out → longest_line + most ≤ length report / 7 * 3
    → ((written_blocks first_progress out report blocks).text ≡ rewritten (joined_up blocks))
    × ((written_blocks first_progress out report blocks).told ≡ numbers_text (changed_lines 1 (lines_from [] (joined_up blocks))))

-- at most 640 bytes are held from block to block
abbrev pub HoldsFew : Type 0
HoldsFew = (run r : Progress) (block out report : List ℕ) → (block_rewrite run block out report).step ≡ Some r → r.end - r.at ≤ longest_line

-- ---- no second answer
abbrev pub OneRewrites : Type 0
OneRewrites = (w : Rewrote) (r r₂ : Option Progress) (out out₂ report report₂ : List ℕ) → Rewrites w r out report → Rewrites w r₂ out₂ report₂ → (r ≡ r₂) × (out ≡ out₂) × (report ≡ report₂)

abbrev pub OneLinesRewritten : Type 0
OneLinesRewritten = (p : Passage) (report : List ℕ) (r r₂ : Passed) (bytes bytes₂ report' report₂ : List ℕ) → LinesRewritten p report r bytes report' → LinesRewritten p report r₂ bytes₂ report₂
    → (r ≡ r₂) × (bytes ≡ bytes₂) × (report' ≡ report₂)

abbrev pub OneMovedDown : Type 0
OneMovedDown = (out : List ℕ) (at end r r₂ : ℕ) (out' out₂ : List ℕ) → MovedDown out at end r out' → MovedDown out at end r₂ out₂ → (r ≡ r₂) × (out' ≡ out₂)
