-- The loop fills the table from the front.
use Rattle.std.proofs.Common.{◌≡◌, ◌+◌, ◌*◌}
use Rattle.lists.specs.Table.{filled}
use Rattle.words.specs.Words.{player_of}
use Rattle.words.proofs.team_in.Given as goal

abbrev pub invariant-loop-i : goal.invariant-loop-i
invariant-loop-i l = l.players ≡ filled (λ k. player_of l.words (20 * l.side + k)) l.initial.players l.i
