-- `chip::frame` meets its contract.
use mathlib.Core.Path.{refl, sym, ap, ◌∙◌}
use Rattle.ladder.specs.Stages.{given_of}
use Rattle.states.specs.States.{Chip, chip_of}
use Rattle.chip.specs.Frames.{Sent, sent_of}
use Rattle.chip.proofs.Ready.{read_head, given-unread, found, ready, lookable, countable, not-erased, worn-out, accept, refuse-given, refuse}
use Rattle.chip.proofs.frame.Goals as goal

-- refused for what the call is given
pub returns-in-Err : goal.returns-in-Err
returns-in-Err c =
    let a = c.args in
    let chip : Chip = chip_of a.st a.page.now a.array.now in
    let sent : Sent = sent_of a.bytes.now a.tail a.wp a.strict a.wear.now a.out.now in
    refuse-given a.rec chip sent (read_head a.rec chip sent c.page_ok.ensures refl) (sym c.in-Err.is ∙ c.given.ensures ∙ given-unread a.rec chip sent c.page_ok.result) c.quiet.ensures

-- refused for what the frame says
pub returns-in-Err-said : goal.returns-in-Err-said
returns-in-Err-said c =
    let a = c.args in
    let chip : Chip = chip_of a.st a.page.now a.array.now in
    let sent : Sent = sent_of a.bytes.now a.tail a.wp a.strict a.wear.now a.out.now in
    refuse a.rec chip sent (read_head a.rec chip sent c.page_ok.ensures c.read-h.ensures) (ap (given_of a.rec a.st) c.read-h.ensures ∙ sym (given-unread a.rec chip sent c.page_ok.result) ∙ sym c.given.ensures ∙ c.in_default.is) (sym c.in-Err-said.is ∙ c.said.ensures) c.refuse.ensures

-- a program's page lies in the array
pub is_over-requires : goal.is_over-requires
is_over-requires c =
    let a = c.args in
    let chip : Chip = chip_of a.st a.page.now a.array.now in
    let sent : Sent = sent_of a.bytes.now a.tail a.wp a.strict a.wear.now a.out.now in
    let k = found a.rec chip sent c.page_ok.ensures c.read-h.ensures c.given.ensures c.in_default.is c.said.ensures c.in_default-said.is c.operation_of-op.ensures in
    lookable a.rec chip sent k

-- refused for the cells
pub returns-then-is_over : goal.returns-then-is_over
returns-then-is_over c =
    let a = c.args in
    let chip : Chip = chip_of a.st a.page.now a.array.now in
    let sent : Sent = sent_of a.bytes.now a.tail a.wp a.strict a.wear.now a.out.now in
    let k = found a.rec chip sent c.page_ok.ensures c.read-h.ensures c.given.ensures c.in_default.is c.said.ensures c.in_default-said.is c.operation_of-op.ensures in
    not-erased a.rec chip sent k c.is_over.ensures c.if-is_over.true c.quiet-then-is_over.ensures

-- the sectors that it covers lie in the table
pub count-requires : goal.count-requires
count-requires c =
    let a = c.args in
    let chip : Chip = chip_of a.st a.page.now a.array.now in
    let sent : Sent = sent_of a.bytes.now a.tail a.wp a.strict a.wear.now a.out.now in
    let k = found a.rec chip sent c.page_ok.ensures c.read-h.ensures c.given.ensures c.in_default.is c.said.ensures c.in_default-said.is c.operation_of-op.ensures in
    countable a.rec chip sent k

-- refused for its counts
pub returns-then-not-count : goal.returns-then-not-count
returns-then-not-count c =
    let a = c.args in
    let chip : Chip = chip_of a.st a.page.now a.array.now in
    let sent : Sent = sent_of a.bytes.now a.tail a.wp a.strict a.wear.now a.out.now in
    let k = found a.rec chip sent c.page_ok.ensures c.read-h.ensures c.given.ensures c.in_default.is c.said.ensures c.in_default-said.is c.operation_of-op.ensures in
    worn-out a.rec chip sent k c.is_over.ensures c.if-is_over.false c.count.ensures.done-is c.count.ensures.table_is c.if-not-count.true c.quiet-then-not-count.ensures

pub accepted-requires : goal.accepted-requires
accepted-requires c =
    let a = c.args in
    let chip : Chip = chip_of a.st a.page.now a.array.now in
    let sent : Sent = sent_of a.bytes.now a.tail a.wp a.strict a.wear.now a.out.now in
    let k = found a.rec chip sent c.page_ok.ensures c.read-h.ensures c.given.ensures c.in_default.is c.said.ensures c.in_default-said.is c.operation_of-op.ensures in
    ready a.rec chip sent k

pub returns : goal.returns
returns c =
    let a = c.args in
    let chip : Chip = chip_of a.st a.page.now a.array.now in
    let sent : Sent = sent_of a.bytes.now a.tail a.wp a.strict a.wear.now a.out.now in
    let k = found a.rec chip sent c.page_ok.ensures c.read-h.ensures c.given.ensures c.in_default.is c.said.ensures c.in_default-said.is c.operation_of-op.ensures in
    accept a.rec chip sent k c.is_over.ensures c.if-is_over.false c.count.ensures.done-is c.count.ensures.table_is c.if-not-count.false c.accepted.ensures
