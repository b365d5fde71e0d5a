use Rattle.std.proofs.Common.{refl}
use Rattle.penalties.specs.Penalties.{is_listed}
use Rattle.penalties.proofs.Some.{some_none, some_turn, some_done}
use Rattle.penalties.proofs.is_listed.Goals as goal

pub loop-i-init : goal.loop-i-init
loop-i-init c = some_none _

pub loop-i-preserved : goal.loop-i-preserved
loop-i-preserved c = some_turn _ _ _ _ c.loop-i.invariant refl

pub returns : goal.returns
unfolding is_listed
returns c = some_done _ _ _ _ c.loop-i.auto.i-end c.loop-i-test.false c.loop-i.invariant
