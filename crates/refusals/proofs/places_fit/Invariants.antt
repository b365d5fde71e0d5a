-- The loop's answer so far is that of the places passed.
use Rattle.std.proofs.Common.{◌≡◌, ◌-◌, ◌≤◌, length, get_or}
use lib.Ieee.{nan}
use Rattle.lists.specs.Every.{every_to}
use Rattle.refusals.specs.Refusals.{is_coordinate}
use Rattle.refusals.proofs.places_fit.Given as goal

abbrev pub invariant-loop-i : goal.invariant-loop-i
invariant-loop-i l = (l.i ≤ length l.places) × (l.ok ≡ every_to l.i (λ k. is_coordinate (get_or l.places k nan)))

abbrev pub decreases-loop-i : goal.decreases-loop-i
decreases-loop-i l = length l.places - l.i
