-- The item's text and a line feed are the line.
use Rattle.std.proofs.Common.{◌∙◌}
use Rattle.text.proofs.Pushed.{first_piece, next_piece}
use Rattle.replies.proofs.Pieces.{line_written}
use Rattle.item_lines.specs.ItemLines.{item_line}
use Rattle.item_lines.proofs.ItemLines.{item_line_fits}
use Rattle.item_lines.proofs.item_line.Goals as goal

pub returns : goal.returns
unfolding item_line
returns c =
    let text = first_piece 128 _ c.new-line.ensures c.push_item.ensures in
    let t = line_written 128 (item_line c.args.item) c.args.out.now _ _ (c.as_bytes.ensures ∙ next_piece 128 _ _ _ text c.push.ensures) (item_line_fits c.args.item) c.told.ensures.value c.told.ensures.out_after in
    record { value = t.0; out_after = t.1 }
