-- After i turns the best key is the least of the first i.
use Rattle.std.proofs.Common.{ℕ, ◌<◌, get_or}
use Rattle.game.specs.Players.{nobody, margins_at}
use Rattle.keys.specs.Keys.{Least}
use Rattle.kicker.specs.Kicker.{player_distance}
use Rattle.kicker.specs.KickerKeys.{Small, distance_key}
use Rattle.kicker.proofs.determine_kicking_player.Given as goal

abbrev pub invariant-loop-i : goal.invariant-loop-i
invariant-loop-i l =
    Least l.i (λ k. distance_key (player_distance l.set_play l.field l.sign (get_or l.players k nobody) (margins_at l.margins k)) k) 0 l.best
    × ((k : ℕ) → k < l.i → Small (player_distance l.set_play l.field l.sign (get_or l.players k nobody) (margins_at l.margins k)))
