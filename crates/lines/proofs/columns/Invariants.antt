-- With the columns from c on written, what is left of the number is that before the column c.
use Rattle.std.proofs.Common.{◌≡◌, ◌-◌, ◌/◌, ◌^◌}
use Rattle.lines.specs.Line.{column_byte}
use Rattle.lines.proofs.Back.{backed}
use Rattle.lines.proofs.columns.Given as goal

abbrev pub invariant-loop-c : goal.invariant-loop-c
invariant-loop-c l = (l.rest ≡ l.v / 10 ^ (11 - l.c)) × (l.part ≡ backed (column_byte l.v) 11 l.initial.part l.c)
