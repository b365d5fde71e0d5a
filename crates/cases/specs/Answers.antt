-- What the answers of the cases are made of. Definitions only.
use Rattle.std.specs.Prelude.{List, [], ◌∷◌, ◌++◌, ℕ, ◌+◌, replicate, Float, Option, None, Some}
use Rattle.game.specs.declared.BallJudgment.{BallJudgment}
use Rattle.game.specs.declared.BallJudgment.TheVariants.{NoJudgment}
use Rattle.game.specs.declared.Placement.TheVariants.{NoPlace}
use Rattle.game.specs.declared.PlayerList.{PlayerList}
use Rattle.game.specs.declared.Positioning.{Positioning}
use Rattle.game.specs.declared.Positioning.TheVariants.{Legal}
use Rattle.game.specs.declared.SideDecision.{SideDecision}
use Rattle.game.specs.declared.Situation.{Situation}
use Rattle.decision.specs.Decision.{Answer, answer_of}
use Rattle.lines.specs.declared.Row.{Row}
use Rattle.sheet.specs.Rows.{row, sheet_rows}
use Rattle.game.specs.declared.Margins.{Margins}

-- ---- players
-- no player
abbrev pub none : PlayerList
none = record { count = 0; numbers = replicate 20 0 }

-- one alone
abbrev pub only : ℕ → PlayerList
only n = record { count = 1; numbers = n ∷ replicate 19 0 }

-- two, in this order
abbrev pub two : ℕ → ℕ → PlayerList
two m n = record { count = 2; numbers = m ∷ n ∷ replicate 18 0 }

-- everybody Legal but 2
abbrev pub only2 : Positioning → List Positioning
only2 v = Legal ∷ v ∷ replicate 18 Legal

-- ---- answers
-- a side's items, its excess and who leaves, where every verdict is Legal, nobody has moved, and no reference pose is there
abbrev pub side_items : PlayerList → PlayerList → SideDecision
side_items excess leaving =
    record {
      verdicts = replicate 20 Legal;
      excess = excess;
      leaving = leaving;
      moved = none;
      references = replicate 20 None;
    }

-- the same where nobody leaves
abbrev pub side_with : PlayerList → SideDecision
side_with excess = side_items excess none

-- not refused: Home's excess and the ball judgment, no excess of Away, no kicker and no place
abbrev pub answered : PlayerList → BallJudgment → Answer
answered excess ball = record { refusal = 0; decision = record { home = side_with excess; away = side_with none; kicker = None; ball = ball; place = NoPlace } }

-- not refused: who of Home leaves, and nothing else
abbrev pub leavers : PlayerList → Answer
leavers who = record { refusal = 0; decision = record { home = side_items none who; away = side_with none; kicker = None; ball = NoJudgment; place = NoPlace } }

-- ---- margins
-- a player's margin to the own goal area, if present, before those of the others
abbrev pub own_goal_area : Option Margins → List Float → List Float
own_goal_area None rest = rest
own_goal_area (Some m) rest = m.own_goal_area ∷ rest

-- the margins to the own goal area of those that are present, in the order of their numbers
abbrev pub own_goal_areas : List (Option Margins) → List Float
own_goal_areas [] = []
own_goal_areas (m ∷ ms) = own_goal_area m (own_goal_areas ms)

-- ---- the sheet
-- the lines of the answer to a situation with no earlier places
abbrev pub lines_for : Situation → List Row
lines_for s = sheet_rows (answer_of s [] []).decision

-- the header, and a place alone
abbrev pub only_place : ℕ → ℕ → ℕ → ℕ → ℕ → List Row
only_place side number x y z = row 0 2 3 1 ∷ row 7 side number x ∷ row 8 side number y ∷ row 9 side number z ∷ []

-- a number of one digit, right-justified with blanks in 11 columns
abbrev pub digit : ℕ → List ℕ
digit d = replicate 10 32 ++ ((48 + d) ∷ [])

-- a line of four of them, then a line feed
abbrev pub line_with : ℕ → ℕ → ℕ → ℕ → List ℕ
line_with kind side number value = digit kind ++ digit side ++ digit number ++ digit value ++ (10 ∷ [])

-- what the program with A built in prints
abbrev pub sheet_a : List ℕ
sheet_a = line_with 0 2 2 1 ++ line_with 2 0 5 1 ++ line_with 6 1 1 0
