-- After i turns the first i lines stand in their places.
use Rattle.std.proofs.Common.{◌≡◌, length}
use Rattle.lists.specs.Gather.{flat_to}
use Rattle.lines.specs.Line.{line_of}
use Rattle.lines.specs.Over.{over}
use Rattle.sheet.specs.Blocks.{block_row}
use Rattle.sheet.proofs.text.block_lines.Given as goal

abbrev pub invariant-loop-i : goal.invariant-loop-i
invariant-loop-i l = (length l.sheet ≡ length l.initial.sheet) × (l.sheet ≡ over l.at (flat_to l.i (λ k. line_of (block_row l.b k))) l.initial.sheet)
