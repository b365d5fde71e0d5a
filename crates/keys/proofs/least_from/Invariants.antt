-- After i turns the best key is the least of the first i.
use Rattle.std.proofs.Common.{get_or}
use Rattle.keys.specs.Keys.{Least}
use Rattle.keys.proofs.least_from.Given as goal

abbrev pub invariant-loop-i : goal.invariant-loop-i
invariant-loop-i l = Least l.i (λ k. get_or l.keys k 0) l.from l.best
