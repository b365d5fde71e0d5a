-- Neither pattern is a NaN's.
use Rattle.std.proofs.Common.{arith}
use lib.Ieee.{binary64}
use Rattle.floats.proofs.Nan.{number_bits}
use Rattle.hypot.proofs.exact.guess.Goals as goal

pub float_from_bits-f : goal.float_from_bits-f
float_from_bits-f c = number_bits binary64 _ (omega arith)

pub float_from_bits-a : goal.float_from_bits-a
float_from_bits-a c = number_bits binary64 _ (omega arith)
