use Rattle.std.proofs.Common.{◌≡◌, get_or}
use Rattle.lists.specs.Fold.{fold_to}
use Rattle.game.specs.Players.{nobody}
use Rattle.clearance.specs.Clearance.{near_player}
use Rattle.clearance.proofs.near_team.Given as goal

abbrev pub invariant-loop-i : goal.invariant-loop-i
invariant-loop-i l = l.acc ≡ fold_to l.i (λ k. near_player (get_or l.players k nobody) l.skip l.x l.y k) l.least
