-- What is said and the rank are two pieces.
use Rattle.std.proofs.Common.{ap, ◌∙◌, append_assoc}
use Rattle.text.specs.Decimal.{decimal_of}
use Rattle.text.specs.Pushed.{pushed}
use Rattle.text.proofs.Pushed.{next_piece}
use Rattle.item_lines.specs.ItemLines.{player_text, excess_words, excess_text}
use Rattle.item_lines.proofs.push_excess.Goals as goal

pub returns : goal.returns
unfolding excess_text
returns c = next_piece 128 _ _ _ c.push_said.ensures c.push_number.ensures ∙ ap (pushed 128 c.args.line.now) (append_assoc (player_text c.args.side c.args.number) excess_words (decimal_of c.args.rank))
