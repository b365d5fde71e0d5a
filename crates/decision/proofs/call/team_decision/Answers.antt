-- Item by item, as the calls tell.
use Rattle.std.proofs.Common.{ap}
use Rattle.motion.specs.declared.Motion.{Motion}
use Rattle.decision.proofs.Told.{side_told}
use Rattle.decision.proofs.call.team_decision.Goals as goal

pub returns : goal.returns
returns c =
    side_told _ _ _ _ _ _ _ _ _ _ _ c.team_verdicts-verdicts.ensures c.team_excess-excess.ensures c.leaving_players-leaving.ensures
    (ap (λ (m : Motion). m.moved) c.check_motion-motion.ensures) (ap (λ (m : Motion). m.references) c.check_motion-motion.ensures)
