use Rattle.std.proofs.Common.{T, sym, subst}
use Rattle.clearance.specs.Clearance.{occupied}
use Rattle.penalty.proofs.Choosing.{place_told}
use Rattle.penalty.proofs.team_place.Goals as goal

pub returns : goal.returns
returns c =
    let a = c.args in
    place_told a.field a.radius a.distance a.sign a.y _ _ _ (occupied a.home a.away a.side a.number a.earlier.xs.now a.earlier.ys.now) c.walk-taken.result
    (subst T (sym c.well_formed.1.1.0.1) tt) c.candidate_first-first.ensures c.candidate_tries-tries.ensures c.clearance-c.ensures (subst T (sym c.well_formed.1.0.1) tt) c.walk-taken.ensures
