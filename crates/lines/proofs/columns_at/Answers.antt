use Rattle.lines.specs.Line.{columns_of}
use Rattle.lines.proofs.Over.{over_part}
use Rattle.lines.proofs.columns_at.Goals as goal

pub returns : goal.returns
returns c = over_part c.args.part.now (columns_of c.args.v) _ c.args.at c.columns.ensures
