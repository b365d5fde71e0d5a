use Rattle.std.proofs.Common.{◌-◌, ◌*◌, ◌≤◌}
use Rattle.hypot.proofs.exact.root.Given as goal

abbrev pub invariant-loop-t : goal.invariant-loop-t
invariant-loop-t l = l.t ≤ 67108864

abbrev pub decreases-loop-t : goal.decreases-loop-t
decreases-loop-t l = l.t

abbrev pub invariant-loop-t-2 : goal.invariant-loop-t-2
invariant-loop-t-2 l = l.t * l.t ≤ l.s

abbrev pub decreases-loop-t-2 : goal.decreases-loop-t-2
decreases-loop-t-2 l = 67108864 - l.t
