-- After k turns the front of the list holds their candidates, and `n` is how many these are. The second put of a turn finds what the first one left.
use Rattle.std.proofs.Common.{◌≡◌, length}
use Rattle.lists.specs.Gather.{flat_to}
use Rattle.lists.specs.Put.{fronted}
use Rattle.spacing.specs.Spacing.{places_at}
use Rattle.candidates.proofs.fill_turns.Given as goal

abbrev pub invariant-loop-k : goal.invariant-loop-k
invariant-loop-k l =
    (length l.list ≡ length l.initial.list)
    × (l.list ≡ fronted (flat_to l.k (places_at l.first l.min l.max l.step)) l.initial.list)
    × (l.n ≡ length (flat_to l.k (places_at l.first l.min l.max l.step)))
