-- There is room for the line.
use Rattle.std.proofs.Common.{ap, ◌∙◌}
use Rattle.text.specs.Pushed.{pushed}
use Rattle.desk.proofs.Written.{line_taken}
use Rattle.desk.proofs.push_item.Goals as goal

pub returns : goal.returns
returns c = c.push.ensures ∙ ap (pushed 16500 c.args.lines.now) (c.front.ensures ∙ line_taken c.args.item _ _ c.item_line-n.ensures.value c.item_line-n.ensures.out_after)
