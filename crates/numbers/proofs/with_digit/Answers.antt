use Rattle.numbers.proofs.Bounds.{least}
use Rattle.numbers.proofs.with_digit.Goals as goal

pub returns : goal.returns
returns c = least c.args.value c.args.digit c.min.result c.min.ensures
