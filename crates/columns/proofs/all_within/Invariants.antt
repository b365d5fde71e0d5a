use Rattle.std.proofs.Common.{◌≡◌}
use Rattle.lists.specs.Every.{every_to}
use Rattle.columns.specs.Columns.{in_column}
use Rattle.columns.proofs.all_within.Given as goal

abbrev pub invariant-loop-i : goal.invariant-loop-i
invariant-loop-i l = l.ok ≡ every_to l.i (in_column l.greatest l.words)
