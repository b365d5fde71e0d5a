-- The loop fills the table from the front, in place.
use Rattle.std.proofs.Common.{◌≡◌, get_or}
use Rattle.lists.specs.Table.{filled}
use Rattle.game.specs.Players.{nobody}
use Rattle.game.specs.declared.Player.{Player}
use Rattle.remembered.specs.declared.Remembered.{Remembered}
use Rattle.remembered.specs.Remembered.{remembered_at, Gives}
use Rattle.remembered.proofs.mapped_team.Given as goal

abbrev pub invariant-loop-i : goal.invariant-loop-i
invariant-loop-i g l =
    (by : Player → Remembered → Player) → Gives (goal.F-post g l.change) by → l.players ≡ filled (λ k. by (get_or l.initial.players k nobody) (remembered_at l.remembered k)) l.initial.players l.i
