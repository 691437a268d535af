-- `player::gwo_play_last` meets its contract.
use Rattle.player.proofs.gwo_play_last.Goals as goal

pub returns : goal.returns
returns c = rw c.record_of-rec.ensures at c.last.ensures
