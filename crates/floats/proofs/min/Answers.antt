use Rattle.std.proofs.Common.{true, false}
use Rattle.floats.proofs.Laws.MinMax.{min_told}
use Rattle.floats.proofs.min.Goals as goal

pub returns-then-first : goal.returns-then-first
returns-then-first c = min_told c.args.x c.args.y _ _ true c.is_nan.ensures c.negative.ensures c.if-first.true

pub returns-else-first : goal.returns-else-first
returns-else-first c = min_told c.args.x c.args.y _ _ false c.is_nan.ensures c.negative.ensures c.if-first.false
