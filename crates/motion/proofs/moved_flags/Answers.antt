use Rattle.std.proofs.Common.{rules}
use Rattle.lists.proofs.Table.{turn}
use Rattle.motion.proofs.moved_flags.Goals as goal

pub loop-i-preserved : goal.loop-i-preserved
loop-i-preserved c = turn _ _ _ _ _ (search rules) c.loop-i.invariant c.has_moved.ensures
