-- After i turns the lines on the first i players are written, and the next place is the one after them.
use Rattle.lines.proofs.Over.{Stage}
use Rattle.coach.proofs.Lines.{lines_to}
use Rattle.coach.proofs.side_sentences.Given as goal

abbrev pub invariant-loop-i : goal.invariant-loop-i
invariant-loop-i l = Stage l.at l.initial.lines (lines_to l.side l.conditions l.i) l.lines l.next
