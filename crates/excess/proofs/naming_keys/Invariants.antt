-- After i turns the first i places are filled, and the margins of those of their players who are in the area have their places among the numbers of 32 bits.
use Rattle.std.proofs.Common.{◌≡◌, ℕ, ◌<◌, get_or}
use Rattle.lists.specs.Table.{filled}
use Rattle.game.specs.Players.{nobody, margins_at}
use Rattle.excess.specs.ExcessKeys.{Small, player_key}
use Rattle.excess.proofs.naming_keys.Given as goal

abbrev pub invariant-loop-i : goal.invariant-loop-i
invariant-loop-i l =
    (l.out ≡ filled (λ k. player_key l.prefer_newcomers (get_or l.players k nobody) (margins_at l.margins k) k) l.initial.out l.i)
    × ((k : ℕ) → k < l.i → Small (get_or l.players k nobody) (margins_at l.margins k))
