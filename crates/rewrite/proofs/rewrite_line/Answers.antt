-- `rewrite::rewrite_line` meets its contract.
use mathlib.Core.Path.{◌≡◌, sym, ◌∙◌}
use mathlib.Core.Bool.{true, false}
use Rattle.text.specs.Text.{ascii}
use Rattle.text.proofs.PutLaws.{put_part}
use Rattle.rewrite.specs.Rewriting.{begins52}
use Rattle.rewrite.proofs.Lines.{begins_long, rest-stays, line_stays, line-changes}
use Rattle.rewrite.proofs.rewrite_line.Goals as goal

pub returns-then-long-clause-rewritten : goal.returns-then-long-clause-rewritten
returns-then-long-clause-rewritten c =
    let a = c.args in
    rest-stays a.long a.number a.line.now a.report.now.out.now a.report.now.at c.if-long.true c.requires.0

pub returns-then-not-begins_52-clause-rewritten : goal.returns-then-not-begins_52-clause-rewritten
returns-then-not-begins_52-clause-rewritten c =
    let a = c.args in
    let b : begins52 a.line.now ≡ false = sym c.begins_52.ensures ∙ c.if-not-begins_52.true in
    line_stays a.long a.number a.line.now a.report.now.out.now a.report.now.at c.if-long.false b c.requires.0

pub returns-clause-rewritten : goal.returns-clause-rewritten
returns-clause-rewritten c =
    let a = c.args in
    let b : begins52 a.line.now ≡ true = sym c.begins_52.ensures ∙ c.if-not-begins_52.false in
    line-changes a.long a.number a.line.now a.report.now.out.now a.report.now.at c.if-long.false b (put_part (ascii "D8") a.line.now _ 6 (begins_long a.line.now b) c.copy_from_slice.ensures.after) c.number.ensures.put c.byte.ensures.put
