-- Item by item, as the calls tell; both sides by their margins.
use Rattle.decision.proofs.Told.{seen_margins, seen_count, decision_told}
use Rattle.decision.proofs.call.decision_of.Goals as goal

pub returns : goal.returns
returns c =
    decision_told _ _ _ _ _ _ _ _ _ _ _ _
    (seen_margins _ _ _ _ _ c.side_seen-home_seen.ensures) (seen_margins _ _ _ _ _ c.side_seen-away_seen.ensures)
    (seen_count _ _ _ _ _ c.side_seen-home_seen.ensures) (seen_count _ _ _ _ _ c.side_seen-away_seen.ensures)
    c.team_decision-home.ensures c.team_decision-away.ensures c.kicking_player-kicker.ensures c.ball_judgment-ball.ensures c.wished_place-place.ensures
