use Rattle.std.proofs.Common.{rules}
use Rattle.lists.proofs.Table.{turn, done}
use Rattle.penalties.specs.Penalties.{inside_players}
use Rattle.penalties.proofs.inside_players.Goals as goal

pub loop-i-preserved : goal.loop-i-preserved
loop-i-preserved c = turn _ _ _ _ _ (search rules) c.loop-i.invariant c.inside_player.ensures

pub returns : goal.returns
unfolding inside_players
returns c = done _ _ _ _ 20 (search rules) c.loop-i.auto.i-end c.loop-i-test.false c.loop-i.invariant
