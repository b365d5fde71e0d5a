use Rattle.keys.proofs.LeastKey.{least_done, least_once, least_is}
use Rattle.keys.proofs.least_from.Goals as goal

pub returns : goal.returns
returns c = least_once 20 _ _ _ _ (least_done _ _ _ _ 20 c.loop-i.auto.i-end c.loop-i-test.false c.loop-i.invariant) (least_is 20 _ _)
