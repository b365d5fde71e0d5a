-- The loop fills the table from the front.
use Rattle.std.proofs.Common.{◌≡◌, get_or}
use Rattle.lists.specs.Table.{filled}
use Rattle.game.specs.Players.{nobody}
use Rattle.geometry.specs.Geometry.{player_margins}
use Rattle.geometry.proofs.compute_margins.Given as goal

abbrev pub invariant-loop-i : goal.invariant-loop-i
invariant-loop-i l = l.out ≡ filled (λ k. player_margins (get_or l.players k nobody) l.field l.sign) l.initial.out l.i
