-- The lines of a decision are those of its items. Assumes nothing.
use mathlib.Core.Path.{◌≡◌, refl, sym, ◌∙◌}
use mathlib.Core.Bool.{Bool, true, false}
use mathlib.Core.List.{List, [], ◌∷◌, map, map-append}
use Prim.Native.Nat.{ℕ, ◌+◌}
use lib.Dec.{ltb}
use lib.Ieee.{Float}
use lib.ListN.{get_or, length}
use Rattle.lists.specs.Gather.{only_if}
use Rattle.lists.proofs.Gather.{flat_same}
use Rattle.lists.proofs.Maps.{flat_map, table_map}
use Rattle.lists.proofs.Table.{table_same}
use Rattle.game.specs.Codes.{side_code, judgment_code}
use Rattle.game.specs.declared.BallJudgment.{BallJudgment}
use Rattle.game.specs.declared.Decision.{Decision}
use Rattle.game.specs.declared.KickingPlayer.{KickingPlayer}
use Rattle.game.specs.declared.Placement.{Placement}
use Rattle.game.specs.declared.Placement.TheVariants.{NoPlace, BallAt, PlayerAt}
use Rattle.game.specs.declared.PlayerList.{PlayerList}
use Rattle.game.specs.declared.Side.{Side}
use Rattle.sheet.specs.Rows.{row, verdict_code, verdict_row, verdict_rows, numbers_of, list_rows, from_one, none, kicker_rows, ball_rows, placed_value, place_rows, rows_of}
use Rattle.items.specs.Items.{who_side, who_number, row_of}
use Rattle.items.specs.declared.Item.{Item}
use Rattle.items.specs.declared.Item.TheVariants.{Verdict, Excess, Leaves, HasMoved, Judged}
use Rattle.items.specs.declared.Who.{Who}
use Rattle.items.specs.declared.Who.TheVariants.{TheBall, OnePlayer}
use Rattle.reading_holds.specs.Decided.{verdict_on, verdict_items, list_items, excess_items, leaving_items, moved_items, kicker_items, ball_items, value_items, place_items, items_of}
use Rattle.reading_holds.proofs.Values.{value_same}
use Rattle.game.specs.declared.Positioning.{Positioning}
use Rattle.std.specs.Prelude.{Option, None, Some}

-- ---- the lines of the items
map_only : (b : Bool) (i : Item) → map row_of (only_if b i) ≡ only_if b (row_of i)
map_only true i = refl
map_only false i = refl

verdict_lines_holds : (side : Side) (v : List Positioning) → map row_of (verdict_items side v) ≡ verdict_rows side v
unfolding verdict_items verdict_rows
verdict_lines_holds side v =
    let one : ℕ → List Item = λ i. only_if (ltb 0 (verdict_code v i)) (Verdict side (i + 1) (verdict_on v i)) in
    sym (flat_map row_of 20 one) ∙ flat_same 20 (λ i. map row_of (one i)) (verdict_row (side_code side) v) (λ i l. map_only (ltb 0 (verdict_code v i)) (Verdict side (i + 1) (verdict_on v i)))

list_lines : (item : ℕ → ℕ → Item) (kind : ℕ) (side : Side) (value : ℕ → ℕ) (l : PlayerList) → ((n k : ℕ) → row_of (item n k) ≡ row kind (side_code side) n (value k)) → map row_of (list_items item l) ≡ list_rows kind side value l
unfolding list_items list_rows
list_lines item kind side value l e =
    sym (table_map row_of (length (numbers_of l)) (λ k. item (get_or (numbers_of l) k 0) k))
    ∙ table_same (length (numbers_of l)) (λ k. row_of (item (get_or (numbers_of l) k 0) k)) (λ k. row kind (side_code side) (get_or (numbers_of l) k 0) (value k)) (λ k h. e (get_or (numbers_of l) k 0) k)

excess_lines : (side : Side) (l : PlayerList) → map row_of (excess_items side l) ≡ list_rows 2 side from_one l
excess_lines side l = list_lines (λ n k. Excess side n (k + 1)) 2 side from_one l (λ n k. refl)

leaving_lines : (side : Side) (l : PlayerList) → map row_of (leaving_items side l) ≡ list_rows 4 side none l
leaving_lines side l = list_lines (λ n k. Leaves side n) 4 side none l (λ n k. refl)

moved_lines : (side : Side) (l : PlayerList) → map row_of (moved_items side l) ≡ list_rows 5 side none l
moved_lines side l = list_lines (λ n k. HasMoved side n) 5 side none l (λ n k. refl)

kicker_lines : (k : Option KickingPlayer) → map row_of (kicker_items k) ≡ kicker_rows k
kicker_lines None = refl
kicker_lines (Some k) = refl

ball_lines : (j : BallJudgment) → map row_of (ball_items j) ≡ ball_rows j
unfolding ball_items ball_rows
ball_lines j = map_only (ltb 0 (judgment_code j)) (Judged j)

value_lines : (who : Who) (x y z : Float) → map row_of (value_items who x y z)
    ≡ row 7 (who_side who) (who_number who) (placed_value x) ∷ row 8 (who_side who) (who_number who) (placed_value y) ∷ row 9 (who_side who) (who_number who) (placed_value z) ∷ []
value_lines who x y z = simp (value_same x, value_same y, value_same z)

place_lines : (p : Placement) → map row_of (place_items p) ≡ place_rows p
unfolding place_rows
place_lines NoPlace = refl
place_lines (BallAt x y z) = value_lines TheBall x y z
place_lines (PlayerAt side number x y theta) = value_lines (OnePlayer side number) x y theta

pub rows_of_items : (d : Decision) → map row_of (items_of d) ≡ rows_of d
unfolding items_of rows_of
rows_of_items d = simp (map-append, verdict_lines_holds, excess_lines, leaving_lines, moved_lines, kicker_lines, ball_lines, place_lines)
