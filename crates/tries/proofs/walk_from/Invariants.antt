-- The loop stops at the first k whose places are both out, or after 8192; `n` counts the places so far, and every k so far has one.
use Rattle.std.proofs.Common.{◌≡◌, length, ◌*◌, ◌≤◌}
use Rattle.lists.specs.Gather.{flat_to}
use Rattle.lists.specs.Counting.{count_to}
use Rattle.spacing.specs.Spacing.{places_at}
use Rattle.tries.specs.Tries.{has_place}
use Rattle.tries.proofs.walk_from.Given as goal

abbrev pub invariant-loop-k : goal.invariant-loop-k
invariant-loop-k l =
    (l.n ≤ 2 * l.k) × (l.n ≡ length (flat_to l.k (places_at l.first l.min l.max l.step))) × (count_to l.k (has_place l.first l.min l.max l.step) ≡ l.k)
