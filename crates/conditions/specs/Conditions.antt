-- The tests of the rules as conditions: the first that holds, those of the avoidance region, and the verdict that each settles. Definitions only.
use Rattle.std.specs.Prelude.{Bool, true, false}
use Rattle.game.specs.declared.Positioning.{Positioning}
use Rattle.game.specs.declared.Positioning.TheVariants.{Legal, Illegal, IllegalUnlessKicker, InAvoidanceRegion}
use Rattle.conditions.specs.declared.Condition.{Condition}
use Rattle.conditions.specs.declared.Condition.TheVariants.{NoCondition, OnCenterMark, OutsideCircle, InCircle, InOpponentHalf, InCenterCircle, OnPenaltyMark, BeyondPenaltyMark, InOpponentPenaltyArea, NearPenaltyMark, InOwnPenaltyArea, BehindOwnMark, NearOwnMark, NearBall, InGoalKickArea, InAreaOfBall}

-- the verdict that a condition settles; without one, Legal
abbrev pub verdict_of : Condition → Positioning
verdict_of NoCondition = Legal
verdict_of OnCenterMark = Illegal
verdict_of OutsideCircle = Illegal
verdict_of InCircle = IllegalUnlessKicker
verdict_of InOpponentHalf = Illegal
verdict_of InCenterCircle = Illegal
verdict_of OnPenaltyMark = Illegal
verdict_of BeyondPenaltyMark = Illegal
verdict_of InOpponentPenaltyArea = IllegalUnlessKicker
verdict_of NearPenaltyMark = IllegalUnlessKicker
verdict_of InOwnPenaltyArea = Illegal
verdict_of BehindOwnMark = Illegal
verdict_of NearOwnMark = Illegal
verdict_of NearBall = InAvoidanceRegion
verdict_of InGoalKickArea = InAvoidanceRegion
verdict_of InAreaOfBall = InAvoidanceRegion

-- the condition where the test holds, otherwise what the tests after it tell
abbrev pub first_of : Bool → Condition → Condition → Condition
first_of true told otherwise = told
first_of false told otherwise = otherwise

-- one of the three conditions of the region
abbrev pub is_avoidance : Condition → Bool
is_avoidance NoCondition = false
is_avoidance OnCenterMark = false
is_avoidance OutsideCircle = false
is_avoidance InCircle = false
is_avoidance InOpponentHalf = false
is_avoidance InCenterCircle = false
is_avoidance OnPenaltyMark = false
is_avoidance BeyondPenaltyMark = false
is_avoidance InOpponentPenaltyArea = false
is_avoidance NearPenaltyMark = false
is_avoidance InOwnPenaltyArea = false
is_avoidance BehindOwnMark = false
is_avoidance NearOwnMark = false
is_avoidance NearBall = true
is_avoidance InGoalKickArea = true
is_avoidance InAreaOfBall = true

-- there is a condition
abbrev pub is_some : Condition → Bool
is_some NoCondition = false
is_some OnCenterMark = true
is_some OutsideCircle = true
is_some InCircle = true
is_some InOpponentHalf = true
is_some InCenterCircle = true
is_some OnPenaltyMark = true
is_some BeyondPenaltyMark = true
is_some InOpponentPenaltyArea = true
is_some NearPenaltyMark = true
is_some InOwnPenaltyArea = true
is_some BehindOwnMark = true
is_some NearOwnMark = true
is_some NearBall = true
is_some InGoalKickArea = true
is_some InAreaOfBall = true
