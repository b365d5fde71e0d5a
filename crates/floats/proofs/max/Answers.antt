use Rattle.std.proofs.Common.{sym, ap, ◌∙◌}
use lib.Ieee.{neg}
use Rattle.floats.proofs.Laws.MinMax.{max_is}
use Rattle.floats.proofs.max.Goals as goal

pub returns : goal.returns
returns c = ap neg c.min.ensures ∙ sym (max_is c.args.x c.args.y)
