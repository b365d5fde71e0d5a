-- The loop fills the table from the front.
use Rattle.std.proofs.Common.{◌≡◌, false, get_or}
use Rattle.lists.specs.Table.{filled}
use Rattle.game.specs.Players.{nobody}
use Rattle.motion.specs.Motion.{reference_unless}
use Rattle.motion.proofs.references_after.Given as goal

abbrev pub invariant-loop-i : goal.invariant-loop-i
invariant-loop-i l = l.out ≡ filled (λ k. reference_unless (get_or l.moved k false) (get_or l.players k nobody)) l.initial.out l.i
