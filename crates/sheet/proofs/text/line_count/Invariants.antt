-- After i turns the lines of the first i blocks are counted.
use Rattle.std.proofs.Common.{◌≡◌, ◌*◌, ◌≤◌, length}
use Rattle.sheet.specs.Blocks.{rows_to}
use Rattle.sheet.proofs.text.line_count.Given as goal

abbrev pub invariant-loop-i : goal.invariant-loop-i
invariant-loop-i l = (l.n ≤ 20 * l.i) × (l.n ≡ length (rows_to l.blocks l.i))
