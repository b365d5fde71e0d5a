use Rattle.std.proofs.Common.{◌≡◌, ◌*◌, ◌^◌, ◌<◌, ◌≤◌}
use Rattle.floats.proofs.remainder.pattern_of.Given as goal

abbrev pub invariant-loop-s : goal.invariant-loop-s
invariant-loop-s l = (l.s < 16777216) × (l.e ≤ 253) × (l.s * 2 ^ l.e ≡ l.r * 2 ^ l.h)

abbrev pub decreases-loop-s : goal.decreases-loop-s
decreases-loop-s l = l.e
