-- `blocks::refusal` meets its contract.
use mathlib.Core.Path.{◌≡◌, sym, ◌∙◌}
use mathlib.Core.Bool.{true, false}
use Rattle.packing.specs.Packing.{is_packing}
use Rattle.blocks.specs.Blocks.{block_refusal}
use Rattle.blocks.proofs.refusal.Goals as goal

pub returns-then-not-is_packed : goal.returns-then-not-is_packed
unfolding block_refusal
returns-then-not-is_packed c =
    let e : is_packing c.args.state.now ≡ false = sym c.is_packed.ensures ∙ c.if-not-is_packed.true in
    rw e

pub returns-then-room-used : goal.returns-then-room-used
unfolding block_refusal
returns-then-room-used c =
    let packing : is_packing c.args.state.now ≡ true = sym c.is_packed.ensures ∙ c.if-not-is_packed.false in
    rw (packing, c.if-room-used.true)

pub returns-else-room-used : goal.returns-else-room-used
unfolding block_refusal
returns-else-room-used c =
    let packing : is_packing c.args.state.now ≡ true = sym c.is_packed.ensures ∙ c.if-not-is_packed.false in
    rw (packing, c.if-room-used.false)
