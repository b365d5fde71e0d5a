use Rattle.text.proofs.Pushed.{next_piece}
use Rattle.item_lines.proofs.push_said.Goals as goal

pub returns : goal.returns
returns c = next_piece 128 _ _ _ c.push_player.ensures c.push.ensures
