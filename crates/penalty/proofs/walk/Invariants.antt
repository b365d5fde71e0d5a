-- The choice so far is that of the tries passed; once the distance is reached, the others change nothing.
use Rattle.std.proofs.Common.{◌-◌, ◌≡◌}
use Rattle.lists.specs.Fold.{fold_to}
use Rattle.clearance.specs.Clearance.{occupied}
use Rattle.penalty.specs.Walk.{after_try}
use Rattle.penalty.proofs.walk.Given as goal

abbrev pub invariant-loop-j : goal.invariant-loop-j
invariant-loop-j l = l.choice ≡ fold_to l.j (after_try l.search (occupied l.home l.away l.side l.number l.earlier.xs.now l.earlier.ys.now)) l.initial.choice
