-- The line by which the coach is told a verdict: the side, the number, the verdict and the condition that settled it, as "Home 4 illegal: own penalty area". Definitions only.
use Rattle.std.specs.Prelude.{cond, Option, None, Some, List, [], ◌∷◌, ◌++◌, ℕ, ◌+◌, ◌/◌, ◌%◌, ltb, length}
use Rattle.game.specs.declared.Side.{Side}
use Rattle.game.specs.declared.Side.TheVariants.{Home, Away}
use Rattle.game.specs.declared.Positioning.{Positioning}
use Rattle.game.specs.declared.Positioning.TheVariants.{Legal, Illegal, IllegalUnlessKicker, InAvoidanceRegion}
use Rattle.conditions.specs.declared.Condition.{Condition}
use Rattle.conditions.specs.declared.Condition.TheVariants.{NoCondition, OnCenterMark, OutsideCircle, InCircle, InOpponentHalf, InCenterCircle, OnPenaltyMark, BeyondPenaltyMark, InOpponentPenaltyArea, NearPenaltyMark, InOwnPenaltyArea, BehindOwnMark, NearOwnMark, NearBall, InGoalKickArea, InAreaOfBall}

-- the word of a side
unfoldable pub side_word : Side → List ℕ
-- "Home"
side_word Home = 72 ∷ 111 ∷ 109 ∷ 101 ∷ []
-- "Away"
side_word Away = 65 ∷ 119 ∷ 97 ∷ 121 ∷ []

-- the words of a verdict; of Legal too, for which no caller asks
unfoldable pub verdict_words : Positioning → List ℕ
-- "legal"
verdict_words Legal = 108 ∷ 101 ∷ 103 ∷ 97 ∷ 108 ∷ []
-- "illegal"
verdict_words Illegal = 105 ∷ 108 ∷ 108 ∷ 101 ∷ 103 ∷ 97 ∷ 108 ∷ []
-- "illegal unless kicker"
verdict_words IllegalUnlessKicker = 105 ∷ 108 ∷ 108 ∷ 101 ∷ 103 ∷ 97 ∷ 108 ∷ 32 ∷ 117 ∷ 110 ∷ 108 ∷ 101 ∷ 115 ∷ 115 ∷ 32 ∷ 107 ∷ 105 ∷ 99 ∷ 107 ∷ 101 ∷ 114 ∷ []
-- "in avoidance region"
verdict_words InAvoidanceRegion = 105 ∷ 110 ∷ 32 ∷ 97 ∷ 118 ∷ 111 ∷ 105 ∷ 100 ∷ 97 ∷ 110 ∷ 99 ∷ 101 ∷ 32 ∷ 114 ∷ 101 ∷ 103 ∷ 105 ∷ 111 ∷ 110 ∷ []

-- the words of a condition; none where there is no condition, for which no caller asks
unfoldable pub condition_words : Condition → List ℕ
condition_words NoCondition = []
-- "on the centre mark"
condition_words OnCenterMark = 111 ∷ 110 ∷ 32 ∷ 116 ∷ 104 ∷ 101 ∷ 32 ∷ 99 ∷ 101 ∷ 110 ∷ 116 ∷ 114 ∷ 101 ∷ 32 ∷ 109 ∷ 97 ∷ 114 ∷ 107 ∷ []
-- "outside the centre circle"
condition_words OutsideCircle = 111 ∷ 117 ∷ 116 ∷ 115 ∷ 105 ∷ 100 ∷ 101 ∷ 32 ∷ 116 ∷ 104 ∷ 101 ∷ 32 ∷ 99 ∷ 101 ∷ 110 ∷ 116 ∷ 114 ∷ 101 ∷ 32 ∷ 99 ∷ 105 ∷ 114 ∷ 99 ∷ 108 ∷ 101 ∷ []
-- "only the kicker may be in the centre circle"
condition_words InCircle = 111 ∷ 110 ∷ 108 ∷ 121 ∷ 32 ∷ 116 ∷ 104 ∷ 101 ∷ 32 ∷ 107 ∷ 105 ∷ 99 ∷ 107 ∷ 101 ∷ 114 ∷ 32 ∷ 109 ∷ 97 ∷ 121 ∷ 32 ∷ 98 ∷ 101 ∷ 32 ∷ 105 ∷ 110 ∷ 32 ∷ 116 ∷ 104 ∷ 101 ∷ 32 ∷ 99 ∷ 101 ∷ 110 ∷ 116 ∷ 114 ∷ 101 ∷ 32 ∷ 99 ∷ 105 ∷ 114 ∷ 99 ∷ 108 ∷ 101 ∷ []
-- "opponent half"
condition_words InOpponentHalf = 111 ∷ 112 ∷ 112 ∷ 111 ∷ 110 ∷ 101 ∷ 110 ∷ 116 ∷ 32 ∷ 104 ∷ 97 ∷ 108 ∷ 102 ∷ []
-- "centre circle"
condition_words InCenterCircle = 99 ∷ 101 ∷ 110 ∷ 116 ∷ 114 ∷ 101 ∷ 32 ∷ 99 ∷ 105 ∷ 114 ∷ 99 ∷ 108 ∷ 101 ∷ []
-- "on the penalty mark"
condition_words OnPenaltyMark = 111 ∷ 110 ∷ 32 ∷ 116 ∷ 104 ∷ 101 ∷ 32 ∷ 112 ∷ 101 ∷ 110 ∷ 97 ∷ 108 ∷ 116 ∷ 121 ∷ 32 ∷ 109 ∷ 97 ∷ 114 ∷ 107 ∷ []
-- "beyond the penalty mark"
condition_words BeyondPenaltyMark = 98 ∷ 101 ∷ 121 ∷ 111 ∷ 110 ∷ 100 ∷ 32 ∷ 116 ∷ 104 ∷ 101 ∷ 32 ∷ 112 ∷ 101 ∷ 110 ∷ 97 ∷ 108 ∷ 116 ∷ 121 ∷ 32 ∷ 109 ∷ 97 ∷ 114 ∷ 107 ∷ []
-- "opponent penalty area"
condition_words InOpponentPenaltyArea = 111 ∷ 112 ∷ 112 ∷ 111 ∷ 110 ∷ 101 ∷ 110 ∷ 116 ∷ 32 ∷ 112 ∷ 101 ∷ 110 ∷ 97 ∷ 108 ∷ 116 ∷ 121 ∷ 32 ∷ 97 ∷ 114 ∷ 101 ∷ 97 ∷ []
-- "near the penalty mark"
condition_words NearPenaltyMark = 110 ∷ 101 ∷ 97 ∷ 114 ∷ 32 ∷ 116 ∷ 104 ∷ 101 ∷ 32 ∷ 112 ∷ 101 ∷ 110 ∷ 97 ∷ 108 ∷ 116 ∷ 121 ∷ 32 ∷ 109 ∷ 97 ∷ 114 ∷ 107 ∷ []
-- "own penalty area"
condition_words InOwnPenaltyArea = 111 ∷ 119 ∷ 110 ∷ 32 ∷ 112 ∷ 101 ∷ 110 ∷ 97 ∷ 108 ∷ 116 ∷ 121 ∷ 32 ∷ 97 ∷ 114 ∷ 101 ∷ 97 ∷ []
-- "behind own penalty mark"
condition_words BehindOwnMark = 98 ∷ 101 ∷ 104 ∷ 105 ∷ 110 ∷ 100 ∷ 32 ∷ 111 ∷ 119 ∷ 110 ∷ 32 ∷ 112 ∷ 101 ∷ 110 ∷ 97 ∷ 108 ∷ 116 ∷ 121 ∷ 32 ∷ 109 ∷ 97 ∷ 114 ∷ 107 ∷ []
-- "near own penalty mark"
condition_words NearOwnMark = 110 ∷ 101 ∷ 97 ∷ 114 ∷ 32 ∷ 111 ∷ 119 ∷ 110 ∷ 32 ∷ 112 ∷ 101 ∷ 110 ∷ 97 ∷ 108 ∷ 116 ∷ 121 ∷ 32 ∷ 109 ∷ 97 ∷ 114 ∷ 107 ∷ []
-- "near the ball"
condition_words NearBall = 110 ∷ 101 ∷ 97 ∷ 114 ∷ 32 ∷ 116 ∷ 104 ∷ 101 ∷ 32 ∷ 98 ∷ 97 ∷ 108 ∷ 108 ∷ []
-- "penalty area of the goal kick"
condition_words InGoalKickArea = 112 ∷ 101 ∷ 110 ∷ 97 ∷ 108 ∷ 116 ∷ 121 ∷ 32 ∷ 97 ∷ 114 ∷ 101 ∷ 97 ∷ 32 ∷ 111 ∷ 102 ∷ 32 ∷ 116 ∷ 104 ∷ 101 ∷ 32 ∷ 103 ∷ 111 ∷ 97 ∷ 108 ∷ 32 ∷ 107 ∷ 105 ∷ 99 ∷ 107 ∷ []
-- "own penalty area with the ball in it"
condition_words InAreaOfBall = 111 ∷ 119 ∷ 110 ∷ 32 ∷ 112 ∷ 101 ∷ 110 ∷ 97 ∷ 108 ∷ 116 ∷ 121 ∷ 32 ∷ 97 ∷ 114 ∷ 101 ∷ 97 ∷ 32 ∷ 119 ∷ 105 ∷ 116 ∷ 104 ∷ 32 ∷ 116 ∷ 104 ∷ 101 ∷ 32 ∷ 98 ∷ 97 ∷ 108 ∷ 108 ∷ 32 ∷ 105 ∷ 110 ∷ 32 ∷ 105 ∷ 116 ∷ []

-- a number below 100 in decimal, without a leading zero, as "4" or "20"; a greater one is written as its remainder by 100, which no caller asks for
unfoldable pub number_word : ℕ → List ℕ
number_word n = cond (ltb (n % 100) 10) ((48 + n % 10) ∷ []) ((48 + n / 10 % 10) ∷ (48 + n % 10) ∷ [])

-- the line: side, blank, number, blank, verdict, colon, blank, condition; it has no line feed
unfoldable pub line_of : Side → ℕ → Positioning → Condition → List ℕ
line_of side number verdict condition = side_word side ++ (32 ∷ (number_word number ++ (32 ∷ (verdict_words verdict ++ (58 ∷ 32 ∷ condition_words condition)))))

-- how many bytes of a text are written over lent bytes: all, or None where these are fewer
unfoldable pub written : List ℕ → List ℕ → Option ℕ
written text s = cond (ltb (length s) (length text)) None (Some (length text))

-- the length of the longest line of a number from 1 to 20
abbrev pub longest : ℕ
longest = 74
