-- The loop fills the table from the front.
use Rattle.std.proofs.Common.{◌≡◌, get_or}
use Rattle.lists.specs.Table.{filled}
use Rattle.game.specs.Players.{nobody, margins_at}
use Rattle.remembered.specs.Remembered.{remembered_at}
use Rattle.penalties.specs.Penalties.{inside_player}
use Rattle.penalties.proofs.inside_players.Given as goal

abbrev pub invariant-loop-i : goal.invariant-loop-i
invariant-loop-i l = l.out ≡ filled (λ k. inside_player (get_or l.players k nobody) (margins_at l.margins k) (remembered_at l.remembered k)) l.initial.out l.i
