-- A spot that is as far as the least in one direction changes nothing.
use Rattle.std.proofs.Common.{T, sym, subst}
use Rattle.clearance.proofs.Nearest.{far_kept}
use Rattle.clearance.proofs.nearer.Goals as goal

pub returns-then-far : goal.returns-then-far
returns-then-far c =
    sym
    (far_kept c.args.least c.args.dx c.args.dy (subst T (sym c.well_formed.0.1) tt) (subst T (sym c.well_formed.1.0.1) tt) (subst T (sym c.well_formed.1.1.0.1) tt)
    (simp (← c.abs.ensures, ← c.abs-2.ensures) c.if-far.true))
