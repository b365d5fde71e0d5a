-- What stands before the pattern, its word and the number are three pieces.
use Rattle.std.proofs.Common.{ap, ◌∙◌, append_assoc}
use Rattle.text.specs.Decimal.{decimal_of}
use Rattle.text.specs.Pushed.{pushed}
use Rattle.text.proofs.Pushed.{next_piece}
use Rattle.item_lines.specs.Values.{amount_text, pattern_word, value_text}
use Rattle.item_lines.proofs.push_value.Goals as goal

pub returns : goal.returns
unfolding value_text
returns c = next_piece 128 _ _ _ (next_piece 128 _ _ _ c.push_amount.ensures c.push.ensures) c.push_number.ensures ∙ ap (pushed 128 c.args.line.now) (append_assoc (amount_text c.args.p) pattern_word (decimal_of c.args.p))
