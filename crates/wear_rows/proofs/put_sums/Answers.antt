-- `wear_rows::put_sums` meets its contract.
use Rattle.text.specs.Text.{ascii, decimal_text}
use Rattle.wear_rows.specs.WearSheet.{sums_text}
use Rattle.wear_rows.proofs.Laws.{said-next, said-as}
use Rattle.wear_rows.proofs.put_sums.Goals as goal

pub returns-clause-put : goal.returns-clause-put
unfolding sums_text
returns-clause-put c =
    let f = c.args.f in
    let smallest = said-as (ascii "\nsmallest ") c.from.ensures c.put_said-2.ensures.put in
    let largest = said-as (ascii "\nlargest ") c.from-2.ensures c.put_said-3.ensures.put in
    let sector = said-as (ascii ", first in sector ") c.from-3.ensures c.put_said-4.ensures.put in
    let first = said-next (ascii "\nsmallest ") (decimal_text f.smallest) c.put_said.ensures.put smallest in
    said-next (ascii ", first in sector ") (decimal_text f.sector.0) (said-next (ascii "\nlargest ") (decimal_text f.largest) first largest) sector
