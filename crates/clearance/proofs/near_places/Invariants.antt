-- The loop goes as far as both lists do.
use Rattle.std.proofs.Common.{◌≡◌}
use Rattle.lists.specs.Fold.{fold_to}
use Rattle.clearance.specs.Clearance.{near_place}
use Rattle.clearance.proofs.near_places.Given as goal

abbrev pub invariant-loop-k : goal.invariant-loop-k
invariant-loop-k l = l.acc ≡ fold_to l.k (near_place l.xs l.ys l.x l.y) l.least
