-- `wear_rows::put_mean` meets its contract.
use mathlib.Core.Path.{ap}
use mathlib.Core.List.{List, ◌++◌}
use Prim.Native.Nat.{ℕ}
use Rattle.text.specs.Text.{ascii, decimal_text}
use Rattle.wear_rows.specs.WearSheet.{mean_text}
use Rattle.wear_rows.proofs.Laws.{said-next, said-as}
use Rattle.text.proofs.PutLaws.{put_then}
use Rattle.wear_rows.proofs.put_mean.Goals as goal

pub returns-clause-put : goal.returns-clause-put
unfolding mean_text
returns-clause-put c =
    let f = c.args.f in
    let mean = said-as (ascii "\nmean ") c.from.ensures c.put_said.ensures.put in
    let rest = said-next (ascii " and ") (decimal_text f.remainder) mean (said-as (ascii " and ") c.from-2.ensures c.put_said-2.ensures.put) in
    put_then (said-next (ascii "/") (decimal_text c.args.n) rest c.put_said-3.ensures.put) c.byte.ensures.put
