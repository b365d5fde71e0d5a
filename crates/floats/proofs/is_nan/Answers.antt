use Rattle.floats.proofs.Nan.{is_nan_is}
use Rattle.floats.proofs.is_nan.Goals as goal

pub returns : goal.returns
returns c = is_nan_is c.args.x
