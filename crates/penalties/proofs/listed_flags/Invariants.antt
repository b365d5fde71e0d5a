-- The loop fills the table from the front.
use Rattle.std.proofs.Common.{◌≡◌}
use Rattle.lists.specs.Table.{filled}
use Rattle.game.specs.Players.{number_at}
use Rattle.penalties.specs.Penalties.{is_listed}
use Rattle.penalties.proofs.listed_flags.Given as goal

abbrev pub invariant-loop-i : goal.invariant-loop-i
invariant-loop-i l = l.out ≡ filled (λ k. is_listed l.list (number_at k)) l.initial.out l.i
