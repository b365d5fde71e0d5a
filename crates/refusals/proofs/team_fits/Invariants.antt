-- The loop's answer so far is that of the places passed.
use Rattle.std.proofs.Common.{◌≡◌, get_or}
use Rattle.lists.specs.Every.{every_to}
use Rattle.game.specs.Players.{nobody}
use Rattle.refusals.specs.Refusals.{player_fits}
use Rattle.refusals.proofs.team_fits.Given as goal

abbrev pub invariant-loop-i : goal.invariant-loop-i
invariant-loop-i l = l.ok ≡ every_to l.i (λ k. player_fits (get_or l.players k nobody))
