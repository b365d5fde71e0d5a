use Rattle.std.proofs.Common.{◌∙◌, ap, length, arith}
use Rattle.sheet.proofs.Answers.{lines_few}
use Rattle.sheet.proofs.text.lines_following.Goals as goal

pub overflow_add-result : goal.overflow_add-result
overflow_add-result c = omega (arith, lines_few c.args.d _ _ c.line_count.ensures.1 (c.place_count.ensures ∙ ap length c.lines_of_place-placed.ensures))
