-- The lines that a decision gives, in document 01's order: kind by kind, and inside a kind in the order of the players, but for the excess, which has the list's
-- order. Definitions only.
use Rattle.std.specs.Prelude.{cond, List, [], ◌∷◌, ◌++◌, ℕ, suc, ◌+◌, ltb, Float, get_or, length, take, Option, None, Some}
use Rattle.std.specs.Float.{binary32}
use Rattle.std.specs.Float.Ieee.{eq, to_bits}
use Rattle.lists.specs.Gather.{flat_to, only_if}
use Rattle.lists.specs.Table.{table}
use Rattle.floats.specs.Arithmetic.{zero32}
use Rattle.game.specs.declared.PlayerList.{PlayerList}
use Rattle.game.specs.declared.Side.{Side}
use Rattle.game.specs.declared.Side.TheVariants.{Home, Away}
use Rattle.game.specs.declared.Positioning.TheVariants.{Legal}
use Rattle.game.specs.declared.BallJudgment.{BallJudgment}
use Rattle.game.specs.declared.Placement.{Placement}
use Rattle.game.specs.Codes.{positioning_code, side_code, judgment_code, judgment_side, placement_side, placement_number, placement_values}
use Rattle.game.specs.declared.Decision.{Decision}
use Rattle.game.specs.declared.KickingPlayer.{KickingPlayer}
use Rattle.lines.specs.declared.Row.{Row}
use Rattle.game.specs.declared.Positioning.{Positioning}

-- a line's kind, side, number and value
abbrev pub row : ℕ → ℕ → ℕ → ℕ → Row
row kind side number value = record { kind = kind; side = side; number = number; value = value }

-- ---- 1: verdicts other than Legal
-- the number of the verdict on the player at the place i
abbrev pub verdict_code : List Positioning → ℕ → ℕ
verdict_code verdicts i = positioning_code (get_or verdicts i Legal)

-- the player's line, unless its verdict is Legal
abbrev pub verdict_row : ℕ → List Positioning → ℕ → List Row
verdict_row side verdicts i = only_if (ltb 0 (verdict_code verdicts i)) (row 1 side (i + 1) (verdict_code verdicts i))

-- those of a side, in the order of its players
unfoldable pub verdict_rows : Side → List Positioning → List Row
verdict_rows side verdicts = flat_to 20 (verdict_row (side_code side) verdicts)

-- ---- lists of players
-- the numbers that a list holds
abbrev pub numbers_of : PlayerList → List ℕ
numbers_of l = take l.count l.numbers

-- a line for each of a side's numbers in their order, whose value is by the place in the list
unfoldable pub list_rows : ℕ → Side → (ℕ → ℕ) → PlayerList → List Row
list_rows kind side value l = table (length (numbers_of l)) (λ k. row kind (side_code side) (get_or (numbers_of l) k 0) (value k))

-- from 1
abbrev pub from_one : ℕ → ℕ
from_one k = k + 1

-- no value
abbrev pub none : ℕ → ℕ
none k = 0

-- ---- 3: the kicking player
abbrev pub kicker_rows : Option KickingPlayer → List Row
kicker_rows None = []
kicker_rows (Some k) = row 3 (side_code k.side) k.number 0 ∷ []

-- ---- 6: the ball judgment
unfoldable pub ball_rows : BallJudgment → List Row
ball_rows j = only_if (ltb 0 (judgment_code j)) (row 6 (judgment_side j) (judgment_code j) 0)

-- ---- 7, 8, 9: the three numbers of a place
-- a number of a place on the sheet: a zero of either sign as 0, any other by its pattern
unfoldable pub placed_value : Float → ℕ
placed_value x = cond (eq x zero32) 0 (to_bits binary32 x)

-- a line for each value, of this kind and those that follow it
abbrev pub value_rows : ℕ → ℕ → ℕ → List Float → List Row
value_rows kind side number [] = []
value_rows kind side number (x ∷ xs) = row kind side number (placed_value x) ∷ value_rows (suc kind) side number xs

unfoldable pub place_rows : Placement → List Row
place_rows p = value_rows 7 (placement_side p) (placement_number p) (placement_values p)

-- ---- all of them, Home before Away inside a kind
-- but those of the place
abbrev pub judged_rows : Decision → List Row
judged_rows d =
    verdict_rows Home d.home.verdicts
    ++ verdict_rows Away d.away.verdicts
    ++ list_rows 2 Home from_one d.home.excess
    ++ list_rows 2 Away from_one d.away.excess
    ++ kicker_rows d.kicker
    ++ list_rows 4 Home none d.home.leaving
    ++ list_rows 4 Away none d.away.leaving
    ++ list_rows 5 Home none d.home.moved
    ++ list_rows 5 Away none d.away.moved
    ++ ball_rows d.ball

-- and those of the place
unfoldable pub rows_of : Decision → List Row
rows_of d = judged_rows d ++ place_rows d.place

-- 0: the number of lines that follow
abbrev pub header : ℕ → Row
header n = row 0 2 n 1

-- the header, and the lines that follow
unfoldable pub sheet_rows : Decision → List Row
sheet_rows d = header (length (rows_of d)) ∷ rows_of d
