-- The items of a sheet, and document 01's numbers for each of them. Definitions only.
use Rattle.std.specs.Prelude.{Bool, not, ◌&&◌, ◌||◌, cond, ℕ, ◌/◌, ◌%◌, eqb, ltb, leb, Float}
use Rattle.std.specs.Float.{binary32}
use Rattle.std.specs.Float.Ieee.{of_bits}
use Rattle.game.specs.Codes.{positioning_code, side_code, judgment_code, judgment_side}
use Rattle.game.specs.Players.{min_number, max_number}
use Rattle.game.specs.declared.BallJudgment.{BallJudgment}
use Rattle.game.specs.declared.BallJudgment.TheVariants.{Goal, GoalKick, CornerKick, ThrowIn, EndOfPenaltyShot}
use Rattle.game.specs.declared.Positioning.{Positioning}
use Rattle.game.specs.declared.Positioning.TheVariants.{Illegal, IllegalUnlessKicker, InAvoidanceRegion}
use Rattle.game.specs.declared.Side.{Side}
use Rattle.game.specs.declared.Side.TheVariants.{Home, Away}
use Rattle.lines.specs.declared.Row.{Row}
use Rattle.sheet.specs.Rows.{row, placed_value}
use Rattle.items.specs.declared.Item.{Item}
use Rattle.items.specs.declared.Item.TheVariants.{Verdict, Excess, Kicks, Leaves, HasMoved, Judged, PlacedX, PlacedY, PlacedThird}
use Rattle.items.specs.declared.Who.{Who}
use Rattle.items.specs.declared.Who.TheVariants.{TheBall, OnePlayer}

-- ---- the numbers of an item
-- the side of whom a place is for
abbrev pub who_side : Who → ℕ
who_side TheBall = 2
who_side (OnePlayer side number) = side_code side

-- and the number
abbrev pub who_number : Who → ℕ
who_number TheBall = 0
who_number (OnePlayer side number) = number

-- the line of an item
abbrev pub row_of : Item → Row
row_of (Verdict side number verdict) = row 1 (side_code side) number (positioning_code verdict)
row_of (Excess side number rank) = row 2 (side_code side) number rank
row_of (Kicks side number) = row 3 (side_code side) number 0
row_of (Leaves side number) = row 4 (side_code side) number 0
row_of (HasMoved side number) = row 5 (side_code side) number 0
row_of (Judged j) = row 6 (judgment_side j) (judgment_code j) 0
row_of (PlacedX who x) = row 7 (who_side who) (who_number who) (placed_value x)
row_of (PlacedY who y) = row 8 (who_side who) (who_number who) (placed_value y)
row_of (PlacedThird who z) = row 9 (who_side who) (who_number who) (placed_value z)

-- ---- which numbers an item can have
-- a player's side and number
abbrev pub is_player : Row → Bool
is_player r = ltb r.side 2 && (leb min_number r.number && leb r.number max_number)

-- the ball's
abbrev pub is_the_ball : Row → Bool
is_the_ball r = eqb r.side 2 && eqb r.number 0

-- a goal, a goal kick, a corner or a throw-in for a side, or the end of the penalty shot for none
abbrev pub is_judged : Row → Bool
is_judged r = (ltb r.side 2 && (leb 1 r.number && leb r.number 4)) || (eqb r.side 2 && eqb r.number 5)

-- illegal, illegal unless kicker or in the avoidance region
abbrev pub is_verdict : ℕ → Bool
is_verdict v = leb 1 v && leb v 3

-- the pattern of a finite value, and not that of -0
abbrev pub is_placed : ℕ → Bool
is_placed v = not (eqb (v / 0x80_0000 % 256) 255) && not (eqb v 2147483648)

-- by the kind: a verdict; a rank; the kicker, one leaving or one moved; a judgment; x, y or the third number of a place
unfoldable pub is_item : Row → Bool
is_item r =
    (eqb r.kind 1 && (is_player r && is_verdict r.value))
    || ((eqb r.kind 2 && is_player r)
    || (((leb 3 r.kind && leb r.kind 5) && (is_player r && eqb r.value 0))
    || ((eqb r.kind 6 && (is_judged r && eqb r.value 0))
    || ((leb 7 r.kind && leb r.kind 9) && ((is_player r || is_the_ball r) && is_placed r.value)))))

-- ---- the item that a line is
abbrev pub side_of : ℕ → Side
side_of v = cond (eqb v 0) Home Away

abbrev pub verdict_of : ℕ → Positioning
verdict_of v = cond (eqb v 1) Illegal (cond (eqb v 2) IllegalUnlessKicker InAvoidanceRegion)

abbrev pub judgment_of : Side → ℕ → BallJudgment
judgment_of side code = cond (eqb code 1) (Goal side) (cond (eqb code 2) (GoalKick side) (cond (eqb code 3) (CornerKick side) (cond (eqb code 4) (ThrowIn side) EndOfPenaltyShot)))

abbrev pub who_of : ℕ → ℕ → Who
who_of side number = cond (eqb side 2) TheBall (OnePlayer (side_of side) number)

-- the value with a pattern; 0 is that of +0
abbrev pub float_of : ℕ → Float
float_of v = of_bits binary32 v

-- of a line that has the numbers of an item; of any other, as its kind has it
unfoldable pub item_of : Row → Item
item_of r =
    cond (eqb r.kind 1) (Verdict (side_of r.side) r.number (verdict_of r.value))
    (cond (eqb r.kind 2) (Excess (side_of r.side) r.number r.value)
    (cond (eqb r.kind 3) (Kicks (side_of r.side) r.number)
    (cond (eqb r.kind 4) (Leaves (side_of r.side) r.number)
    (cond (eqb r.kind 5) (HasMoved (side_of r.side) r.number)
    (cond (eqb r.kind 6) (Judged (judgment_of (side_of r.side) r.number))
    (cond (eqb r.kind 7) (PlacedX (who_of r.side r.number) (float_of r.value))
    (cond (eqb r.kind 8) (PlacedY (who_of r.side r.number) (float_of r.value))
    (PlacedThird (who_of r.side r.number) (float_of r.value)))))))))
