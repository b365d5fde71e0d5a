use Rattle.std.proofs.Common.{arith}
use lib.Ieee.{binary64}
use Rattle.floats.proofs.Nan.{number_bits}
use Rattle.hypot.proofs.estimate.Goals as goal

pub float_from_bits-a : goal.float_from_bits-a
float_from_bits-a c = number_bits binary64 _ (omega arith)
