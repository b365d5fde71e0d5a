-- The words alone, or sign, whole part, point, six digits and comma, one after the other.
use Rattle.std.proofs.Common.{ap, ◌∙◌}
use Rattle.text.specs.Pushed.{pushed}
use Rattle.text.proofs.Pushed.{next_piece}
use Rattle.item_lines.proofs.Values.{amount_pattern, amount_decimal}
use Rattle.item_lines.proofs.push_amount.Goals as goal

pub returns-then-p-gt150 : goal.returns-then-p-gt150
returns-then-p-gt150 c = c.push.ensures ∙ ap (pushed 128 c.args.line.now) (amount_pattern c.args.p c.if-p-gt150.true)

pub returns-else-p-gt150 : goal.returns-else-p-gt150
returns-else-p-gt150 c =
    let sign = c.push-else-p-gt150.ensures ∙ ap (pushed 128 c.args.line.now) c.sign.ensures in
    next_piece 128 _ _ _ (next_piece 128 _ _ _ (next_piece 128 _ _ _ (next_piece 128 _ _ _ sign c.push_number.ensures) c.push-else-p-gt150-2.ensures) c.push_six.ensures) c.push-else-p-gt150-3.ensures
    ∙ ap (pushed 128 c.args.line.now) (amount_decimal c.args.p _ c.if-p-gt150.false c.millionths-n.ensures)
