-- The loop fills the table of the flags from the front.
use Rattle.std.proofs.Common.{◌≡◌, ◌-◌, get_or}
use Rattle.lists.specs.Table.{filled}
use Rattle.game.specs.Players.{nobody}
use Rattle.decision.specs.Decision.{is_leaving}
use Rattle.decision.proofs.judges.leaving_players.Given as goal

abbrev pub invariant-loop-i : goal.invariant-loop-i
invariant-loop-i l = l.flags ≡ filled (λ k. is_leaving (get_or l.players k nobody) l.field) l.initial.flags l.i
