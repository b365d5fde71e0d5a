use Rattle.std.proofs.Common.{rules}
use Rattle.lists.proofs.Table.{turn}
use Rattle.motion.proofs.references_after.Goals as goal

pub loop-i-preserved : goal.loop-i-preserved
loop-i-preserved c = turn _ _ _ _ _ (search rules) c.loop-i.invariant c.reference_after.ensures
