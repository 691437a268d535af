-- `player::gwo_play_lines` meets its contract.
use Rattle.player.proofs.gwo_play_lines.Goals as goal

pub returns : goal.returns
returns c = rw c.record_of-rec.ensures at c.play.ensures
