-- After i turns the list holds the numbers of those of the first i players whose flag is set.
use Rattle.std.proofs.Common.{◌≡◌, false, get_or}
use Rattle.lists.specs.Gather.{flat_to, only_if}
use Rattle.game.specs.Players.{listed, number_at}
use Rattle.game.proofs.numbers_where.Given as goal

abbrev pub invariant-loop-i : goal.invariant-loop-i
invariant-loop-i l = l.list ≡ listed (flat_to l.i (λ k. only_if (get_or l.flags k false) (number_at k)))
