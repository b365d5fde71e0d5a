-- What is left of the lines goes on with the walk so far.
use Rattle.std.proofs.Common.{◌≡◌, drop}
use Rattle.reading.specs.Walk.{lines_in, walked}
use Rattle.reading.specs.declared.Walk.TheVariants.{Start}
use Rattle.reading.proofs.walk_lines.Given as goal

abbrev pub invariant-loop-i : goal.invariant-loop-i
invariant-loop-i l = walked l.walk (drop l.i (lines_in l.text)) ≡ walked Start (lines_in l.text)
