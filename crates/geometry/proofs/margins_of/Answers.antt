use Rattle.geometry.specs.Geometry.{margins_of}
use Rattle.geometry.proofs.margins_of.Goals as goal

pub returns : goal.returns
unfolding margins_of
returns c =
    simp (
      c.strip_margin-y_goal_area.ensures,
      c.strip_margin-y_penalty_area.ensures,
      c.min-own_goal_area.ensures,
      c.min-own_penalty_area.ensures,
      c.min-opponent_penalty_area.ensures,
    )
