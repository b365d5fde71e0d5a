-- The six digits are one piece.
use Rattle.std.proofs.Common.{ap, ◌∙◌}
use Rattle.text.specs.Pushed.{pushed}
use Rattle.item_lines.proofs.Values.{six_told}
use Rattle.item_lines.proofs.push_six.Goals as goal

pub returns : goal.returns
returns c = c.push.ensures ∙ ap (pushed 128 c.args.line.now) (six_told c.args.n _ _ _ _ _ _ c.digit-a.ensures c.digit-b.ensures c.digit-c.ensures c.digit-d.ensures c.digit-e.ensures c.digit-f.ensures)
