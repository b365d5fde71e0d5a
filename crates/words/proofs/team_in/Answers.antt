use Rattle.std.proofs.Common.{rules}
use Rattle.lists.proofs.Table.{turn}
use Rattle.words.proofs.team_in.Goals as goal

pub loop-i-preserved : goal.loop-i-preserved
loop-i-preserved c = turn _ _ _ _ _ (search rules) c.loop-i.invariant c.player_of.ensures
