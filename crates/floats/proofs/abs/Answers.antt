use Rattle.std.proofs.Common.{T, sym, subst}
use lib.Ieee.{binary32, fits}
use lib.Ieee.Compare.{differs_from_itself}
use Rattle.floats.proofs.Nan.{not_unequal}
use Rattle.floats.proofs.SignBit.{abs_bits, abs_no_nan, abs_nan}
use Rattle.floats.proofs.abs.Goals as goal

held : (c : goal.Else-x) → T (fits binary32 c.args.x)
held c = subst T (sym c.well_formed.0.1) tt

pub returns-else-x : goal.returns-else-x
returns-else-x c = abs_bits c.args.x (held c) (not_unequal c.args.x c.if-x.false)

pub float_to_bits-result : goal.float_to_bits-result
float_to_bits-result c = not_unequal c.args.x c.if-x.false

pub float_from_bits-result : goal.float_from_bits-result
float_from_bits-result c = abs_no_nan c.args.x (held c) (not_unequal c.args.x c.if-x.false)

pub returns-then-x : goal.returns-then-x
returns-then-x c = abs_nan c.args.x (differs_from_itself c.args.x (subst T (sym c.if-x.true) tt))
