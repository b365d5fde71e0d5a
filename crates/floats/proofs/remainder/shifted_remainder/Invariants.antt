use Rattle.std.proofs.Common.{◌≡◌, ◌-◌, ◌*◌, ◌%◌, ◌^◌, ◌≤◌}
use Rattle.floats.proofs.remainder.shifted_remainder.Given as goal

abbrev pub invariant-loop-left : goal.invariant-loop-left
invariant-loop-left l = (l.left ≤ l.k) × (l.r ≡ l.a * 2 ^ (l.k - l.left) % l.b)

abbrev pub decreases-loop-left : goal.decreases-loop-left
decreases-loop-left l = l.left
