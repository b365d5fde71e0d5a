-- Each word before i is within.
use Rattle.std.proofs.Common.{◌≡◌, true}
use Rattle.lists.specs.Every.{every_to}
use Rattle.columns.specs.Columns.{in_column}
use Rattle.columns.proofs.front_to.Given as goal

abbrev pub invariant-loop-i : goal.invariant-loop-i
invariant-loop-i l = true ≡ every_to l.i (in_column l.greatest l.words)
