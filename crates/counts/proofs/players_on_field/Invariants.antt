-- After i turns the count is that of the places below i.
use Rattle.std.proofs.Common.{◌≡◌, get_or}
use Rattle.lists.specs.Counting.{count_to}
use Rattle.game.specs.Players.{nobody}
use Rattle.counts.specs.Counts.{is_on_field}
use Rattle.counts.proofs.players_on_field.Given as goal

abbrev pub invariant-loop-i : goal.invariant-loop-i
invariant-loop-i l = l.n ≡ count_to l.i (λ k. is_on_field (get_or l.players k nobody))
