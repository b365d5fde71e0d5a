-- After i turns the lines of the first i blocks are written, and the next place is the one after them.
use Rattle.lines.specs.Line.{lines_of}
use Rattle.lines.proofs.Over.{Stage}
use Rattle.sheet.specs.Blocks.{rows_to}
use Rattle.sheet.proofs.text.all_lines.Given as goal

abbrev pub invariant-loop-i : goal.invariant-loop-i
invariant-loop-i l = Stage l.at l.initial.sheet (lines_of (rows_to l.blocks l.i)) l.sheet l.next
