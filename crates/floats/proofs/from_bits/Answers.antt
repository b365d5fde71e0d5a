use Rattle.std.proofs.Common.{sym, ◌∙◌, arith}
use lib.Ieee.{binary32}
use Rattle.floats.proofs.Nan.{number_bits, nan_bits_holds, inf_less_inf}
use Rattle.floats.proofs.from_bits.Goals as goal

pub float_from_bits-inf : goal.float_from_bits-inf
float_from_bits-inf c = number_bits binary32 0x7f80_0000 (omega arith)

pub float_from_bits-result : goal.float_from_bits-result
float_from_bits-result c = number_bits binary32 c.args.b (omega arith)

pub returns-then-nan : goal.returns-then-nan
returns-then-nan c = inf_less_inf ∙ sym (nan_bits_holds binary32 c.args.b (omega arith))
