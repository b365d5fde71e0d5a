-- The digits that are left go on with the value so far.
use Rattle.std.proofs.Common.{◌≡◌, ◌≤◌}
use Rattle.std.proofs.Math.Seq.{slice}
use Rattle.fields.specs.Fields.{digits_from}
use Rattle.fields.proofs.digits.Given as goal

abbrev pub invariant-loop-i : goal.invariant-loop-i
invariant-loop-i l = (l.v ≤ 4294967295) × (digits_from l.v (slice l.i l.end l.text) ≡ digits_from 0 (slice l.from l.end l.text))
