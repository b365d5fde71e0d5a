use Rattle.std.proofs.Common.{refl}
use Rattle.lists.proofs.Every.{every_none, every_turn}
use Rattle.columns.proofs.all_within.Goals as goal

pub loop-i-init : goal.loop-i-init
loop-i-init c = every_none _

pub loop-i-preserved : goal.loop-i-preserved
loop-i-preserved c = every_turn _ _ _ _ c.loop-i.invariant refl
