-- An item of a sheet as a line of text for the desk, as "Home 4 stands illegally". Definitions only.
use Rattle.std.specs.Prelude.{List, [], ◌∷◌, ◌++◌, ℕ, Float}
use Rattle.std.specs.Float.{binary32}
use Rattle.std.specs.Float.Ieee.{to_bits}
use Rattle.game.specs.declared.BallJudgment.{BallJudgment}
use Rattle.game.specs.declared.BallJudgment.TheVariants.{NoJudgment, Goal, GoalKick, CornerKick, ThrowIn, EndOfPenaltyShot}
use Rattle.game.specs.declared.Positioning.{Positioning}
use Rattle.game.specs.declared.Positioning.TheVariants.{Legal, Illegal, IllegalUnlessKicker, InAvoidanceRegion}
use Rattle.game.specs.declared.Side.{Side}
use Rattle.game.specs.declared.Side.TheVariants.{Home, Away}
use Rattle.items.specs.declared.Item.{Item}
use Rattle.items.specs.declared.Item.TheVariants.{Verdict, Excess, Kicks, Leaves, HasMoved, Judged, PlacedX, PlacedY, PlacedThird}
use Rattle.items.specs.declared.Who.{Who}
use Rattle.items.specs.declared.Who.TheVariants.{TheBall, OnePlayer}
use Rattle.text.specs.Decimal.{decimal_of}
use Rattle.item_lines.specs.Values.{value_text}

-- ---- who
-- a side
abbrev pub side_name : Side → List ℕ
-- "Home"
side_name Home = 72 ∷ 111 ∷ 109 ∷ 101 ∷ []
-- "Away"
side_name Away = 65 ∷ 119 ∷ 97 ∷ 121 ∷ []

-- "Home 4"
unfoldable pub player_text : Side → ℕ → List ℕ
player_text side number = side_name side ++ (32 ∷ decimal_of number)

-- "the ball"
abbrev pub ball_words : List ℕ
ball_words = 116 ∷ 104 ∷ 101 ∷ 32 ∷ 98 ∷ 97 ∷ 108 ∷ 108 ∷ []

-- whom a place is for
abbrev pub who_text : Who → List ℕ
who_text TheBall = ball_words
who_text (OnePlayer side number) = player_text side number

-- ---- what is said
-- a verdict; of Legal too, which no line of a sheet has
abbrev pub verdict_text : Positioning → List ℕ
-- " stands legally"
verdict_text Legal = 32 ∷ 115 ∷ 116 ∷ 97 ∷ 110 ∷ 100 ∷ 115 ∷ 32 ∷ 108 ∷ 101 ∷ 103 ∷ 97 ∷ 108 ∷ 108 ∷ 121 ∷ []
-- " stands illegally"
verdict_text Illegal = 32 ∷ 115 ∷ 116 ∷ 97 ∷ 110 ∷ 100 ∷ 115 ∷ 32 ∷ 105 ∷ 108 ∷ 108 ∷ 101 ∷ 103 ∷ 97 ∷ 108 ∷ 108 ∷ 121 ∷ []
-- " stands illegally unless it is the kicker"
verdict_text IllegalUnlessKicker = 32 ∷ 115 ∷ 116 ∷ 97 ∷ 110 ∷ 100 ∷ 115 ∷ 32 ∷ 105 ∷ 108 ∷ 108 ∷ 101 ∷ 103 ∷ 97 ∷ 108 ∷ 108 ∷ 121 ∷ 32 ∷ 117 ∷ 110 ∷ 108 ∷ 101 ∷ 115 ∷ 115 ∷ 32 ∷ 105 ∷ 116 ∷ 32 ∷ 105 ∷ 115 ∷ 32 ∷ 116 ∷ 104 ∷ 101 ∷ 32 ∷ 107 ∷ 105 ∷ 99 ∷ 107 ∷ 101 ∷ 114 ∷ []
-- " stands in the region that it must avoid"
verdict_text InAvoidanceRegion = 32 ∷ 115 ∷ 116 ∷ 97 ∷ 110 ∷ 100 ∷ 115 ∷ 32 ∷ 105 ∷ 110 ∷ 32 ∷ 116 ∷ 104 ∷ 101 ∷ 32 ∷ 114 ∷ 101 ∷ 103 ∷ 105 ∷ 111 ∷ 110 ∷ 32 ∷ 116 ∷ 104 ∷ 97 ∷ 116 ∷ 32 ∷ 105 ∷ 116 ∷ 32 ∷ 109 ∷ 117 ∷ 115 ∷ 116 ∷ 32 ∷ 97 ∷ 118 ∷ 111 ∷ 105 ∷ 100 ∷ []

-- " is in excess in its goal area, rank "
abbrev pub excess_words : List ℕ
excess_words = 32 ∷ 105 ∷ 115 ∷ 32 ∷ 105 ∷ 110 ∷ 32 ∷ 101 ∷ 120 ∷ 99 ∷ 101 ∷ 115 ∷ 115 ∷ 32 ∷ 105 ∷ 110 ∷ 32 ∷ 105 ∷ 116 ∷ 115 ∷ 32 ∷ 103 ∷ 111 ∷ 97 ∷ 108 ∷ 32 ∷ 97 ∷ 114 ∷ 101 ∷ 97 ∷ 44 ∷ 32 ∷ 114 ∷ 97 ∷ 110 ∷ 107 ∷ 32 ∷ []

-- "Away 3 is in excess in its goal area, rank 1"
unfoldable pub excess_text : Side → ℕ → ℕ → List ℕ
excess_text side number rank = player_text side number ++ (excess_words ++ decimal_of rank)

-- " is the kicking player"
abbrev pub kicks_words : List ℕ
kicks_words = 32 ∷ 105 ∷ 115 ∷ 32 ∷ 116 ∷ 104 ∷ 101 ∷ 32 ∷ 107 ∷ 105 ∷ 99 ∷ 107 ∷ 105 ∷ 110 ∷ 103 ∷ 32 ∷ 112 ∷ 108 ∷ 97 ∷ 121 ∷ 101 ∷ 114 ∷ []

-- " leaves the field"
abbrev pub leaves_words : List ℕ
leaves_words = 32 ∷ 108 ∷ 101 ∷ 97 ∷ 118 ∷ 101 ∷ 115 ∷ 32 ∷ 116 ∷ 104 ∷ 101 ∷ 32 ∷ 102 ∷ 105 ∷ 101 ∷ 108 ∷ 100 ∷ []

-- " has moved"
abbrev pub moved_words : List ℕ
moved_words = 32 ∷ 104 ∷ 97 ∷ 115 ∷ 32 ∷ 109 ∷ 111 ∷ 118 ∷ 101 ∷ 100 ∷ []

-- "goal for "
abbrev pub goal_for : List ℕ
goal_for = 103 ∷ 111 ∷ 97 ∷ 108 ∷ 32 ∷ 102 ∷ 111 ∷ 114 ∷ 32 ∷ []

-- "goal kick for "
abbrev pub goal_kick_for : List ℕ
goal_kick_for = 103 ∷ 111 ∷ 97 ∷ 108 ∷ 32 ∷ 107 ∷ 105 ∷ 99 ∷ 107 ∷ 32 ∷ 102 ∷ 111 ∷ 114 ∷ 32 ∷ []

-- "corner for "
abbrev pub corner_for : List ℕ
corner_for = 99 ∷ 111 ∷ 114 ∷ 110 ∷ 101 ∷ 114 ∷ 32 ∷ 102 ∷ 111 ∷ 114 ∷ 32 ∷ []

-- "throw-in for "
abbrev pub throw_in_for : List ℕ
throw_in_for = 116 ∷ 104 ∷ 114 ∷ 111 ∷ 119 ∷ 45 ∷ 105 ∷ 110 ∷ 32 ∷ 102 ∷ 111 ∷ 114 ∷ 32 ∷ []

-- the ball judgment; of none too, which no line of a sheet has
abbrev pub judgment_text : BallJudgment → List ℕ
-- "no call"
judgment_text NoJudgment = 110 ∷ 111 ∷ 32 ∷ 99 ∷ 97 ∷ 108 ∷ 108 ∷ []
judgment_text (Goal side) = goal_for ++ side_name side
judgment_text (GoalKick side) = goal_kick_for ++ side_name side
judgment_text (CornerKick side) = corner_for ++ side_name side
judgment_text (ThrowIn side) = throw_in_for ++ side_name side
-- "end of the penalty shot"
judgment_text EndOfPenaltyShot = 101 ∷ 110 ∷ 100 ∷ 32 ∷ 111 ∷ 102 ∷ 32 ∷ 116 ∷ 104 ∷ 101 ∷ 32 ∷ 112 ∷ 101 ∷ 110 ∷ 97 ∷ 108 ∷ 116 ∷ 121 ∷ 32 ∷ 115 ∷ 104 ∷ 111 ∷ 116 ∷ []

-- ---- the numbers of a place
-- " is placed at x "
abbrev pub placed_at_x : List ℕ
placed_at_x = 32 ∷ 105 ∷ 115 ∷ 32 ∷ 112 ∷ 108 ∷ 97 ∷ 99 ∷ 101 ∷ 100 ∷ 32 ∷ 97 ∷ 116 ∷ 32 ∷ 120 ∷ 32 ∷ []

-- " is placed at y "
abbrev pub placed_at_y : List ℕ
placed_at_y = 32 ∷ 105 ∷ 115 ∷ 32 ∷ 112 ∷ 108 ∷ 97 ∷ 99 ∷ 101 ∷ 100 ∷ 32 ∷ 97 ∷ 116 ∷ 32 ∷ 121 ∷ 32 ∷ []

-- the third one is z of the ball, and the heading of a player
abbrev pub third_words : Who → List ℕ
-- " is placed at z "
third_words TheBall = 32 ∷ 105 ∷ 115 ∷ 32 ∷ 112 ∷ 108 ∷ 97 ∷ 99 ∷ 101 ∷ 100 ∷ 32 ∷ 97 ∷ 116 ∷ 32 ∷ 122 ∷ 32 ∷ []
-- " is placed with heading "
third_words (OnePlayer side number) = 32 ∷ 105 ∷ 115 ∷ 32 ∷ 112 ∷ 108 ∷ 97 ∷ 99 ∷ 101 ∷ 100 ∷ 32 ∷ 119 ∷ 105 ∷ 116 ∷ 104 ∷ 32 ∷ 104 ∷ 101 ∷ 97 ∷ 100 ∷ 105 ∷ 110 ∷ 103 ∷ 32 ∷ []

-- "Home 3 is placed at x -1.250000, pattern 3214934016"
unfoldable pub placed_text : Who → List ℕ → Float → List ℕ
placed_text who words value = who_text who ++ (words ++ value_text (to_bits binary32 value))

-- ---- the line
-- without its line feed
abbrev pub item_text : Item → List ℕ
item_text (Verdict side number verdict) = player_text side number ++ verdict_text verdict
item_text (Excess side number rank) = excess_text side number rank
item_text (Kicks side number) = player_text side number ++ kicks_words
item_text (Leaves side number) = player_text side number ++ leaves_words
item_text (HasMoved side number) = player_text side number ++ moved_words
item_text (Judged judgment) = judgment_text judgment
item_text (PlacedX who x) = placed_text who placed_at_x x
item_text (PlacedY who y) = placed_text who placed_at_y y
item_text (PlacedThird who z) = placed_text who (third_words who) z

-- and with it
unfoldable pub item_line : Item → List ℕ
item_line item = item_text item ++ (10 ∷ [])
