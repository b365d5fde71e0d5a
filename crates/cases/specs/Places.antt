-- Places of a penalty kick and a penalty shot on the field of case A. Definitions only.
use Rattle.std.specs.Prelude.{◌≡◌, [], ◌∷◌, None, Some}
use Rattle.std.specs.Float.Ieee.{neg}
use Rattle.floats.specs.Arithmetic.{zero32, pi}
use Rattle.game.specs.declared.Placement.{Placement}
use Rattle.game.specs.declared.Placement.TheVariants.{BallAt, PlayerAt}
use Rattle.game.specs.declared.SetPlay.{SetPlay}
use Rattle.game.specs.declared.SetPlay.TheVariants.{NoSetPlay, PenaltyKick}
use Rattle.game.specs.declared.Side.TheVariants.{Home}
use Rattle.game.specs.declared.State.TheVariants.{Set}
use Rattle.game.specs.declared.Wish.{Wish}
use Rattle.game.specs.declared.Wish.TheVariants.{BallInSet, ForPenaltyShot}
use Rattle.decision.specs.Decision.{answer_of}
use Rattle.cases.specs.Field.{◌over◌, game_in, at, absent, team, situation}
use Rattle.cases.specs.CaseA.{ball_at}

-- in Set, Home kicks, and 2 stands at the center
abbrev pub placed : SetPlay → Wish → Placement
placed play wish = (answer_of (situation (game_in Set play (Some Home)) (team (absent ∷ at zero32 zero32 ∷ [])) (ball_at zero32 zero32) None wish) [] []).decision.place

-- where the ball and the striker are placed
pub record PlaceCases : Type 0 where
  -- Home kicks at the goal at negative x: the mark is at (-5, 0)
  pub penalty_mark : placed PenaltyKick BallInSet ≡ BallAt (neg (5 over 1)) zero32 (1 over 8)
  -- the striker is on the line of the penalty area, at x -4.03125, and looks to negative x
  pub striker : placed NoSetPlay (ForPenaltyShot Home 2) ≡ PlayerAt Home 2 (neg (129 over 32)) zero32 pi
