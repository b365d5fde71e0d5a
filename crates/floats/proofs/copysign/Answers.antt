use Rattle.std.proofs.Common.{Bool, sym, ap, ◌∙◌}
use lib.Ieee.{neg}
use Rattle.floats.specs.Leaves.{with_sign}
use Rattle.floats.proofs.SignBit.{neg_abs}
use Rattle.floats.proofs.copysign.Goals as goal

pub returns-then-negative : goal.returns-then-negative
returns-then-negative c = ap neg c.abs-a.ensures ∙ neg_abs c.args.x ∙ ap (λ (t : Bool). with_sign t c.args.x) (sym c.if-negative.true ∙ c.negative.ensures)
