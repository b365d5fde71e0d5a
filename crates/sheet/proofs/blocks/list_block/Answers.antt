-- The count is that of the list, and 20 at most, as many as the list has places.
use Rattle.std.proofs.Common.{rules, ◌∙◌, ap, ℕ, get_or, arith}
use Rattle.lists.specs.Table.{table}
use Rattle.sheet.specs.Rows.{row}
use Rattle.sheet.specs.Blocks.{block_rows}
use Rattle.sheet.proofs.BlockLaws.{list_held}
use Rattle.sheet.proofs.blocks.list_block.Goals as goal

pub returns : goal.returns
unfolding block_rows
returns c = let a = c.args in
    λ value follow. (
      omega (arith, c.min.ensures),
      ap (λ (w : ℕ). table c.min.result (λ k. row a.kind w (get_or a.list.numbers k 0) (get_or a.values k 0))) c.side_code-code.ensures
          ∙ list_held a.kind c.min.result a.side a.list a.values value (search rules) c.min.ensures follow,
    )
