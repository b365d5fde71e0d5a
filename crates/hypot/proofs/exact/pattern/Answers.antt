use Rattle.floats.proofs.Nan.{not_unequal}
use Rattle.hypot.proofs.exact.pattern.Goals as goal

pub float_to_bits-result : goal.float_to_bits-result
float_to_bits-result c = not_unequal c.args.x c.if-x.false
