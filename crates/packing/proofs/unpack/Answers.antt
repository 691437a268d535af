-- `packing::unpack` meets its contract.
use Rattle.packing.proofs.Packing.{spells}
use Rattle.packing.proofs.unpack.Goals as goal

pub returns : goal.returns
returns c =
    spells c.args.state.now c.requires.0 c.requires.1 c.time_of.ensures c.place_of.ensures
