-- Document 01's numbers for the items of a decision. Definitions only.
use Rattle.std.specs.Prelude.{List, [], ◌∷◌, ℕ, Float}
use Rattle.game.specs.declared.Side.{Side}
use Rattle.game.specs.declared.Side.TheVariants.{Home, Away}
use Rattle.game.specs.declared.Positioning.{Positioning}
use Rattle.game.specs.declared.Positioning.TheVariants.{Legal, Illegal, IllegalUnlessKicker, InAvoidanceRegion}
use Rattle.game.specs.declared.BallJudgment.{BallJudgment}
use Rattle.game.specs.declared.BallJudgment.TheVariants.{NoJudgment, Goal, GoalKick, CornerKick, ThrowIn, EndOfPenaltyShot}
use Rattle.game.specs.declared.Placement.{Placement}
use Rattle.game.specs.declared.Placement.TheVariants.{NoPlace, BallAt, PlayerAt}

-- of a verdict
abbrev pub positioning_code : Positioning → ℕ
positioning_code Legal = 0
positioning_code Illegal = 1
positioning_code IllegalUnlessKicker = 2
positioning_code InAvoidanceRegion = 3

-- of a side
abbrev pub side_code : Side → ℕ
side_code Home = 0
side_code Away = 1

-- of a judgment
abbrev pub judgment_code : BallJudgment → ℕ
judgment_code NoJudgment = 0
judgment_code (Goal side) = 1
judgment_code (GoalKick side) = 2
judgment_code (CornerKick side) = 3
judgment_code (ThrowIn side) = 4
judgment_code EndOfPenaltyShot = 5

-- of the side that a judgment is for, 2 where it is for none
abbrev pub judgment_side : BallJudgment → ℕ
judgment_side NoJudgment = 2
judgment_side (Goal side) = side_code side
judgment_side (GoalKick side) = side_code side
judgment_side (CornerKick side) = side_code side
judgment_side (ThrowIn side) = side_code side
judgment_side EndOfPenaltyShot = 2

-- of the side that a place is for, 2 for the ball
abbrev pub placement_side : Placement → ℕ
placement_side NoPlace = 2
placement_side (BallAt x y z) = 2
placement_side (PlayerAt side number x y theta) = side_code side

-- of the player that a place is for, 0 for the ball
abbrev pub placement_number : Placement → ℕ
placement_number NoPlace = 0
placement_number (BallAt x y z) = 0
placement_number (PlayerAt side number x y theta) = number

-- the three numbers of a place: x, y, and z or the heading
abbrev pub placement_values : Placement → List Float
placement_values NoPlace = []
placement_values (BallAt x y z) = x ∷ y ∷ z ∷ []
placement_values (PlayerAt side number x y theta) = x ∷ y ∷ theta ∷ []
