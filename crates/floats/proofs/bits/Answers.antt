use Rattle.std.proofs.Common.{sym}
use Rattle.floats.proofs.Nan.{nan_pattern, not_unequal}
use Rattle.floats.proofs.bits.Goals as goal

pub float_to_bits-result : goal.float_to_bits-result
float_to_bits-result c = not_unequal c.args.x c.if-x.false

pub returns-then-x : goal.returns-then-x
returns-then-x c = sym (nan_pattern c.args.x c.if-x.true)
