-- `rewrite_blocks::move_down` meets its contract.
use Rattle.rewrite_blocks.proofs.Moves.{moved-down}
use Rattle.rewrite_blocks.proofs.move_down.Goals as goal

pub returns : goal.returns
returns c = moved-down c.args.out.now c.args.at c.args.end c.requires.0 c.requires.1 c.copy_within.ensures.after
