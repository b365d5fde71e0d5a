use Rattle.std.proofs.Common.{rules, refl}
use Rattle.lists.proofs.Table.{turn, done}
use Rattle.geometry.specs.Geometry.{compute_margins}
use Rattle.geometry.proofs.compute_margins.Goals as goal

pub loop-i-preserved : goal.loop-i-preserved
loop-i-preserved c = turn _ _ _ _ _ (search rules) c.loop-i.invariant c.player_margins.ensures

pub returns : goal.returns
unfolding compute_margins
returns c = done _ _ _ _ 20 refl c.loop-i.auto.i-end c.loop-i-test.false c.loop-i.invariant
