use Rattle.std.proofs.Common.{rules, refl}
use Rattle.lists.proofs.Table.{turn, done}
use Rattle.positioning.specs.Positioning.{team_conditions}
use Rattle.positioning.proofs.team_conditions.Goals as goal

pub loop-i-preserved : goal.loop-i-preserved
loop-i-preserved c = turn _ _ _ _ _ (search rules) c.loop-i.invariant c.condition_of.ensures

pub returns : goal.returns
unfolding team_conditions
returns c = done _ _ _ _ 20 refl c.loop-i.auto.i-end c.loop-i-test.false c.loop-i.invariant
