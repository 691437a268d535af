-- `flash::tear_page` meets its contract: what was lent to `tear_into` is the page.
use Rattle.flash.proofs.Arrays.{torn-back}
use Rattle.flash.proofs.tear_page.Goals as goal

pub returns : goal.returns
returns c =
    let first = c.page_start-start in
    torn-back c.args.a first.result.0 c.args.bytes.now c.args.pattern.now c.args.array.now _ first.ensures c.requires.0 c.tear_into.ensures
