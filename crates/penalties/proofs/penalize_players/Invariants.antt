-- The loop fills the table of the calls from the front, and the kicking player is that before the next place.
use Rattle.std.proofs.Common.{◌≡◌}
use Rattle.lists.specs.Table.{filled}
use Rattle.penalties.specs.Penalties.{called_at, kicking_before}
use Rattle.penalties.proofs.penalize_players.Given as goal

abbrev pub invariant-loop-i : goal.invariant-loop-i
invariant-loop-i l =
    (l.calls ≡ filled (called_at l.fn.game l.fn.field l.fn.team l.fn.verdicts l.fn.excess l.fn.remembered l.fn.grace_over l.fn.kicking_player) l.initial.calls l.i)
    × (l.kicker ≡ kicking_before l.fn.game l.fn.field l.fn.team l.fn.verdicts l.fn.excess l.fn.remembered l.fn.grace_over l.fn.kicking_player l.i)
