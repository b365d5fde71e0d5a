-- The side, a blank and the number are three pieces.
use Rattle.std.proofs.Common.{[], ◌∷◌, ap, ◌∙◌, append_assoc}
use Rattle.text.specs.Decimal.{decimal_of}
use Rattle.text.specs.Pushed.{pushed}
use Rattle.text.proofs.Pushed.{next_piece}
use Rattle.item_lines.specs.ItemLines.{side_name, player_text}
use Rattle.item_lines.proofs.push_player.Goals as goal

pub returns : goal.returns
unfolding player_text
returns c =
    let side = c.push.ensures ∙ ap (pushed 128 c.args.line.now) c.side_name.ensures in
    next_piece 128 _ _ _ (next_piece 128 _ _ _ side c.push-2.ensures) c.push_number.ensures ∙ ap (pushed 128 c.args.line.now) (append_assoc (side_name c.args.side) (32 ∷ []) (decimal_of c.args.number))
