-- The loop fills the table from the front.
use Rattle.std.proofs.Common.{◌≡◌, get_or}
use Rattle.lists.specs.Table.{filled}
use Rattle.game.specs.Players.{nobody}
use Rattle.motion.specs.Motion.{has_moved}
use Rattle.motion.proofs.moved_flags.Given as goal

abbrev pub invariant-loop-i : goal.invariant-loop-i
invariant-loop-i l = l.out ≡ filled (λ k. has_moved (get_or l.players k nobody)) l.initial.out l.i
