-- After n turns the first n columns are blanks.
use Rattle.std.proofs.Common.{◌≡◌, ◌+◌, drop}
use Rattle.fields.specs.Fields.{blanks_in, columns_from}
use Rattle.fields.proofs.blanks.Given as goal

abbrev pub invariant-loop-n : goal.invariant-loop-n
invariant-loop-n l = blanks_in (columns_from l.at l.text) ≡ l.n + blanks_in (drop l.n (columns_from l.at l.text))
