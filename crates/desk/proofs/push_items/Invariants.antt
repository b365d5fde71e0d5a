-- After i turns there are the lines of the first i items.
use Rattle.desk.proofs.Written.{Done}
use Rattle.desk.proofs.push_items.Given as goal

abbrev pub invariant-loop-i : goal.invariant-loop-i
invariant-loop-i l = Done l.text l.i l.lines
