-- `blocks::play` meets its contract.
use Rattle.std.proofs.Common.{rules, sym, ◌∙◌, arith}
use Rattle.blocks.specs.Blocks.{lending}
use Rattle.blocks.proofs.Lent.{refused-block, block-packing, block-whole, block_start, block-used, block-packs, block-leaves}
use Rattle.blocks.proofs.play.Goals as goal

pub returns-then-refused-ne0 : goal.returns-then-refused-ne0
returns-then-refused-ne0 c =
    let a = c.args in
    refused-block a.rec a.strict a.script.now (lending a.state.now a.array.now a.wear.now a.held.now a.used.now a.line.now a.log.now) (c.number_of-refused.ensures ∙ c.refusal.ensures) c.if-refused-ne0.true

pub unpacked-chip-requires : goal.unpacked-chip-requires
unpacked-chip-requires c =
    let a = c.args in
    block-packing a.rec a.strict a.script.now (lending a.state.now a.array.now a.wear.now a.held.now a.used.now a.line.now a.log.now) (c.number_of-refused.ensures ∙ c.refusal.ensures) c.if-refused-ne0.false

pub split_at_mut-page-requires : goal.split_at_mut-page-requires
split_at_mut-page-requires c =
    let a = c.args in
    omega (arith, block-whole a.rec a.strict a.script.now (lending a.state.now a.array.now a.wear.now a.held.now a.used.now a.line.now a.log.now) (c.number_of-refused.ensures ∙ c.refusal.ensures) c.if-refused-ne0.false)

pub feed-run-requires : goal.feed-run-requires
feed-run-requires c =
    let a = c.args in
    block_start a.rec a.strict a.script.now (lending a.state.now a.array.now a.wear.now a.held.now a.used.now a.line.now a.log.now) (c.number_of-refused.ensures ∙ c.refusal.ensures) c.if-refused-ne0.false

pub overflow_cast-used : goal.overflow_cast-used
overflow_cast-used c =
    let a = c.args in
    record {
      fits =
          omega (
            arith,
            block-used a.rec a.strict a.script.now (lending a.state.now a.array.now a.wear.now a.held.now a.used.now a.line.now a.log.now) (c.number_of-refused.ensures ∙ c.refusal.ensures) c.if-refused-ne0.false
                c.unpacked-chip.ensures c.split_at_mut-page.ensures.back c.feed-run.ensures.stands,
          );
    }

pub pack-requires : goal.pack-requires
pack-requires c =
    let a = c.args in
    let same = c.feed-run.ensures.same in
    block-packs a.rec a.strict a.script.now (lending a.state.now a.array.now a.wear.now a.held.now a.used.now a.line.now a.log.now) (c.number_of-refused.ensures ∙ c.refusal.ensures) c.if-refused-ne0.false
    c.unpacked-chip.ensures c.split_at_mut-page.ensures.back c.feed-run.ensures.stands
    _ _ c.split_at_mut-page.ensures.front_len (search (rules, sym same.same_page))

pub returns : goal.returns
returns c =
    let a = c.args in
    let same = c.feed-run.ensures.same in
    block-leaves a.rec a.strict a.script.now (lending a.state.now a.array.now a.wear.now a.held.now a.used.now a.line.now a.log.now) (c.number_of-refused.ensures ∙ c.refusal.ensures) c.if-refused-ne0.false
    c.unpacked-chip.ensures c.split_at_mut-page.ensures.back c.feed-run.ensures.stands
    _ _ c.split_at_mut-page.ensures.front_len (search (rules, sym same.same_page)) c.pack.ensures (search (rules, sym same.same_array)) (search (rules, sym same.same_wear))
