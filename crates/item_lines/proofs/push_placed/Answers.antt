-- Whom the place is for, the words and the number are three pieces.
use Rattle.std.proofs.Common.{ap, ◌∙◌}
use Rattle.text.specs.Pushed.{pushed}
use Rattle.text.proofs.Pushed.{next_piece}
use Rattle.item_lines.proofs.ItemLines.{placed_told}
use Rattle.item_lines.proofs.push_placed.Goals as goal

pub returns : goal.returns
returns c =
    next_piece 128 _ _ _ (next_piece 128 _ _ _ c.push_who.ensures c.push.ensures) c.push_value.ensures ∙ ap (pushed 128 c.args.line.now) (placed_told c.args.who c.args.words.now c.args.value _ c.bits-p.ensures)
