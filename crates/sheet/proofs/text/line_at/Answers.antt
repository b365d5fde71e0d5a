use Rattle.std.proofs.Common.{rules, ◌∙◌}
use Rattle.lines.specs.Line.{line_of}
use Rattle.lines.proofs.Lines.{line_fits}
use Rattle.lines.proofs.Over.{over_part}
use Rattle.sheet.proofs.text.line_at.Goals as goal

pub returns : goal.returns
returns c = over_part c.args.sheet.now (line_of c.args.row) _ c.args.at (c.line.ensures ∙ line_fits c.args.row _ (search rules))
