-- Past a power of 46 nothing is left; else two divisions round to the nearest.
use Rattle.item_lines.proofs.Values.{millionths_none, millionths_some}
use Rattle.item_lines.proofs.millionths.Goals as goal

pub returns-then-s-gt46 : goal.returns-then-s-gt46
returns-then-s-gt46 c = millionths_none c.args.p _ _ c.significand-m.ensures.0 c.shift-s.ensures c.significand-m.ensures.1 c.if-s-gt46.true

pub returns : goal.returns
returns c = millionths_some c.args.p _ _ c.significand-m.ensures.0 c.shift-s.ensures
