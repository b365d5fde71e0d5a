use Rattle.std.proofs.Common.{arith}
use Rattle.item_lines.proofs.Values.{significand_low, significand_high}
use Rattle.item_lines.proofs.significand.Goals as goal

pub returns-then-p-eq0 : goal.returns-then-p-eq0
returns-then-p-eq0 c = (significand_low c.args.p c.if-p-eq0.true, omega arith)

pub returns : goal.returns
returns c = (significand_high c.args.p c.if-p-eq0.false, omega arith)
