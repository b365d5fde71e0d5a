-- The items of a decision, in the sheet's order. Definitions only.
use Rattle.std.specs.Prelude.{List, [], ◌∷◌, ◌++◌, ℕ, ◌+◌, ltb, Float, get_or, length, Option, None, Some}
use Rattle.lists.specs.Gather.{flat_to, only_if}
use Rattle.lists.specs.Table.{table}
use Rattle.game.specs.Codes.{judgment_code}
use Rattle.game.specs.declared.BallJudgment.{BallJudgment}
use Rattle.game.specs.declared.Decision.{Decision}
use Rattle.game.specs.declared.KickingPlayer.{KickingPlayer}
use Rattle.game.specs.declared.Placement.{Placement}
use Rattle.game.specs.declared.Placement.TheVariants.{NoPlace, BallAt, PlayerAt}
use Rattle.game.specs.declared.PlayerList.{PlayerList}
use Rattle.game.specs.declared.Positioning.{Positioning}
use Rattle.game.specs.declared.Positioning.TheVariants.{Legal}
use Rattle.game.specs.declared.Side.{Side}
use Rattle.game.specs.declared.Side.TheVariants.{Home, Away}
use Rattle.sheet.specs.Rows.{verdict_code, numbers_of}
use Rattle.items.specs.declared.Item.{Item}
use Rattle.items.specs.declared.Item.TheVariants.{Verdict, Excess, Kicks, Leaves, HasMoved, Judged, PlacedX, PlacedY, PlacedThird}
use Rattle.items.specs.declared.Who.{Who}
use Rattle.items.specs.declared.Who.TheVariants.{TheBall, OnePlayer}
use Rattle.places_hold.specs.Claims.{unsigned_zero}

-- the verdict on the player at the place i
abbrev pub verdict_on : List Positioning → ℕ → Positioning
verdict_on verdicts i = get_or verdicts i Legal

-- the verdicts on a side's players that are not Legal
unfoldable pub verdict_items : Side → List Positioning → List Item
verdict_items side verdicts = flat_to 20 (λ i. only_if (ltb 0 (verdict_code verdicts i)) (Verdict side (i + 1) (verdict_on verdicts i)))

-- an item for each number of a list in its order, by the number and the place in the list
unfoldable pub list_items : (ℕ → ℕ → Item) → PlayerList → List Item
list_items item l = table (length (numbers_of l)) (λ k. item (get_or (numbers_of l) k 0) k)

-- the players of a side that are too many in its goal area, with their ranks from 1
abbrev pub excess_items : Side → PlayerList → List Item
excess_items side l = list_items (λ n k. Excess side n (k + 1)) l

-- those leaving
abbrev pub leaving_items : Side → PlayerList → List Item
leaving_items side l = list_items (λ n k. Leaves side n) l

-- those moved
abbrev pub moved_items : Side → PlayerList → List Item
moved_items side l = list_items (λ n k. HasMoved side n) l

-- the kicking player, where there is one
abbrev pub kicker_items : Option KickingPlayer → List Item
kicker_items None = []
kicker_items (Some k) = Kicks k.side k.number ∷ []

-- the judgment, where there is one
unfoldable pub ball_items : BallJudgment → List Item
ball_items j = only_if (ltb 0 (judgment_code j)) (Judged j)

-- the three numbers of a place, every zero as +0
abbrev pub value_items : Who → Float → Float → Float → List Item
value_items who x y z = PlacedX who (unsigned_zero x) ∷ PlacedY who (unsigned_zero y) ∷ PlacedThird who (unsigned_zero z) ∷ []

-- the place, where there is one
abbrev pub place_items : Placement → List Item
place_items NoPlace = []
place_items (BallAt x y z) = value_items TheBall x y z
place_items (PlayerAt side number x y theta) = value_items (OnePlayer side number) x y theta

-- all of them
unfoldable pub items_of : Decision → List Item
items_of d =
    verdict_items Home d.home.verdicts
    ++ verdict_items Away d.away.verdicts
    ++ excess_items Home d.home.excess
    ++ excess_items Away d.away.excess
    ++ kicker_items d.kicker
    ++ leaving_items Home d.home.leaving
    ++ leaving_items Away d.away.leaving
    ++ moved_items Home d.home.moved
    ++ moved_items Away d.away.moved
    ++ ball_items d.ball
    ++ place_items d.place
