use Rattle.std.proofs.Common.{ap, ◌∙◌}
use Rattle.text.specs.Pushed.{pushed}
use Rattle.text.proofs.Pushed.{next_piece}
use Rattle.item_lines.proofs.push_call.Goals as goal

pub returns : goal.returns
returns c = next_piece 128 _ _ _ c.push.ensures (c.push-2.ensures ∙ ap (pushed 128 c.push.new.self) c.side_name.ensures)
