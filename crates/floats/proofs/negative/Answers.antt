use Rattle.std.proofs.Common.{ℕ, T, leb, sym, ap, ◌∙◌, subst}
use Rattle.floats.proofs.SignBit.{sign_bit}
use Rattle.floats.proofs.negative.Goals as goal

pub returns : goal.returns
returns c = ap (λ (b : ℕ). leb 2147483648 b) c.bits.ensures ∙ sign_bit c.args.x (subst T (sym c.well_formed.0.1) tt)
