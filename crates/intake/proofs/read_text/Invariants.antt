-- Of the front of the room so many bytes have been read.
use Rattle.std.proofs.Common.{length, ◌-◌, take, ◌≡◌, ◌≤◌}
use Rattle.std.specs.Io.KnownBytes.{Consumes}
use Rattle.intake.proofs.read_text.Given as goal

abbrev pub invariant-loop-size : goal.invariant-loop-size
invariant-loop-size g l = (length l.room ≡ length l.initial.room) × (l.size ≤ length l.room) × Consumes (g.R.Read.remaining l.initial.input) (g.R.Read.remaining l.input) (take l.size l.room)

abbrev pub decreases-loop-size : goal.decreases-loop-size
decreases-loop-size g l = length l.initial.room - l.size
