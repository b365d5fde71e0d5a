use Rattle.std.proofs.Common.{rules, below_more}
use Rattle.lists.proofs.Table.{turn}
use Rattle.excess.proofs.naming_keys.Goals as goal

pub loop-i-preserved : goal.loop-i-preserved
loop-i-preserved c =
    (turn _ _ _ _ _ (search rules) c.loop-i.invariant.0 c.naming_key.ensures.value, below_more _ _ c.loop-i.invariant.1 c.naming_key.ensures.small)
