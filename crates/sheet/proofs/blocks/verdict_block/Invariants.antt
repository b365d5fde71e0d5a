-- After i turns the first n numbers and values are the lines of the first i players.
use Rattle.std.proofs.Common.{◌≡◌, ◌≤◌, length, get_or}
use Rattle.lists.specs.Gather.{flat_to}
use Rattle.lists.specs.Table.{table}
use Rattle.sheet.specs.Rows.{row, verdict_row}
use Rattle.sheet.proofs.blocks.verdict_block.Given as goal

abbrev pub invariant-loop-i : goal.invariant-loop-i
invariant-loop-i l =
    (l.n ≤ l.i) × (length l.numbers ≡ 20) × (length l.values ≡ 20) × (table l.n (λ k. row 1 l.code (get_or l.numbers k 0) (get_or l.values k 0)) ≡ flat_to l.i (verdict_row l.code l.verdicts))
