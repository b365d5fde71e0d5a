-- The loop fills the table from the front.
use Rattle.std.proofs.Common.{◌≡◌}
use Rattle.lists.specs.Table.{filled}
use Rattle.positioning.specs.Positioning.{condition_at}
use Rattle.positioning.proofs.team_conditions.Given as goal

abbrev pub invariant-loop-i : goal.invariant-loop-i
invariant-loop-i l = l.out ≡ filled (condition_at l.game l.field l.ball l.side (record { players = l.players; goalkeeper = l.goalkeeper }) l.margins) l.initial.out l.i
