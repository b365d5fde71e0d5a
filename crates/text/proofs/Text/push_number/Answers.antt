-- The fewest digits that hold the number are its decimal digits.
use Rattle.std.proofs.Common.{◌∙◌, ap}
use Rattle.text.specs.Pushed.{pushed}
use Rattle.text.proofs.Decimal.{decimal_told}
use Rattle.text.proofs.Text.push_number.Goals as goal

pub returns : goal.returns
returns g c = c.push.ensures ∙ ap (pushed g.row.N c.args.self.now) (c.decimal-count.ensures.digits ∙ decimal_told _ _ c.ranges.number.fits c.decimal-count.ensures.len)
