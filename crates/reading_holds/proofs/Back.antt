-- Each item of a decision is read back from its line, which has the numbers of an item. Assumes nothing.
use mathlib.Core.Path.{◌≡◌, refl, sym, ap, ap₂, subst, ◌∙◌}
use mathlib.Core.Bool.{true}
use mathlib.Core.List.{List, ◌∷◌, map}
use Prim.Native.Nat.{ℕ, ◌+◌, ◌≤◌}
use native.Mathlib.Omega.{arith}
use borrow.Author.Tests.{leb-true}
use lib.Dec.{ltb, leb}
use lib.Ieee.{Float, binary32}
use lib.ListN.{length, length-take}
use Rattle.lists.specs.Gather.{only_if}
use Rattle.lists.proofs.Bools.{both_true}
use Rattle.floats.specs.Values.{Finite}
use Rattle.game.specs.Codes.{judgment_code}
use Rattle.game.specs.declared.BallJudgment.{BallJudgment}
use Rattle.game.specs.declared.Decision.{Decision}
use Rattle.game.specs.declared.KickingPlayer.{KickingPlayer}
use Rattle.std.specs.Prelude.{Option}
use Rattle.game.specs.declared.Placement.{Placement}
use Rattle.game.specs.declared.PlayerList.{PlayerList}
use Rattle.game.specs.declared.Side.{Side}
use Rattle.game.specs.declared.Side.TheVariants.{Home, Away}
use Rattle.sheet.specs.Rows.{verdict_code, numbers_of, rows_of}
use Rattle.items.specs.Items.{row_of, is_item, item_of}
use Rattle.items.specs.declared.Item.{Item}
use Rattle.items.specs.declared.Item.TheVariants.{Verdict, Excess, Leaves, HasMoved, Judged}
use Rattle.items.specs.declared.Who.{Who}
use Rattle.items.specs.declared.Who.TheVariants.{TheBall, OnePlayer}
use Rattle.places_hold.specs.Claims.{Placed, nowhere, ball_at, player_at_holds}
use Rattle.reading.proofs.All.{All, no_more, one_more, all_append, all_only, all_flat, all_so, all_map, all_each, chain_within}
use Rattle.reading_holds.specs.Decided.{verdict_on, verdict_items, list_items, excess_items, kicker_items, ball_items, value_items, place_items, items_of}
use Rattle.reading_holds.proofs.Orderly.{Numbered, Rising, KickerFits, no_kicker, one_kicker, Orderly}
use Rattle.reading_holds.proofs.Faithful.{Low, Faithful, verdict_faithful, excess_faithful, kicks_faithful, leaves_faithful, moved_faithful, judged_faithful}
use Rattle.reading_holds.proofs.FaithfulPlaces.{WhoFits, the_ball, one_player, x_faithful, y_faithful, third_faithful}
use Rattle.reading_holds.proofs.Items.{rows_of_items}
use Rattle.game.specs.declared.Positioning.{Positioning}

-- ---- each block
verdicts_faithful : (side : Side) (v : List Positioning) → All Faithful (verdict_items side v)
unfolding verdict_items
verdicts_faithful side v =
    all_flat 20 (λ i. only_if (ltb 0 (verdict_code v i)) (Verdict side (i + 1) (verdict_on v i)))
    (λ i l. all_only (ltb 0 (verdict_code v i)) (Verdict side (i + 1) (verdict_on v i)) (verdict_faithful side (i + 1) (verdict_on v i) (omega arith, omega arith)))

-- no list is longer than its count
few_numbers : (l : PlayerList) → length (numbers_of l) ≤ l.count
few_numbers l = omega (arith, length-take l.count l.numbers)

excess_all : (side : Side) (l : PlayerList) → l.count ≤ 20 → All Numbered (numbers_of l) → All Faithful (excess_items side l)
unfolding list_items
excess_all side l few h = all_each (λ n k. Excess side n (k + 1)) (λ n k g m. excess_faithful side n (k + 1) g (omega (arith, few_numbers l))) h

-- those of a rising list
rising_numbers : {ns : List ℕ} → Rising ns → All Numbered ns
rising_numbers c = all_so (λ n h. (h.0, less n h.1)) (chain_within c)
  where
    less : (n : ℕ) → n + 1 ≤ 21 → n ≤ 20
    less n h = omega arith

rising_all : (item : ℕ → Item) (l : PlayerList) → ((n : ℕ) → Numbered n → Faithful (item n)) → Rising (numbers_of l) → All Faithful (list_items (λ n k. item n) l)
unfolding list_items
rising_all item l f c = all_each (λ n k. item n) (λ n k g m. f n g) (rising_numbers c)

kicker_all : {k : Option KickingPlayer} → KickerFits k → All Faithful (kicker_items k)
kicker_all no_kicker = no_more
kicker_all (one_kicker {side} {n} h) = one_more (kicks_faithful side n h) no_more

ball_all : (j : BallJudgment) → All Faithful (ball_items j)
unfolding ball_items
ball_all j = all_only (ltb 0 (judgment_code j)) (Judged j) (judged_faithful j)

values_all : (who : Who) (x y z : Float) → WhoFits who → Finite binary32 x → Finite binary32 y → Finite binary32 z → All Faithful (value_items who x y z)
values_all who x y z w fx fy fz = one_more (x_faithful who x w fx) (one_more (y_faithful who y w fy) (one_more (third_faithful who z w fz) no_more))

place_all : {p : Placement} → Placed p → All Faithful (place_items p)
place_all nowhere = no_more
place_all (ball_at {x} {y} {z} fx fy fz) = values_all TheBall x y z the_ball fx fy fz
place_all (player_at_holds {side} {number} {x} {y} {theta} h fx fy fz) =
    let b = both_true (leb 1 number) (leb number 20) h in
    values_all (OnePlayer side number) x y theta (one_player (leb-true 1 number b.0, leb-true number 20 b.1)) fx fy fz

-- ---- all of them
items_faithful : (d : Decision) → Orderly d → All Faithful (items_of d)
unfolding items_of
items_faithful d o =
    all_append (all_append (all_append (all_append (all_append (all_append (all_append (all_append (all_append (all_append
    (verdicts_faithful Home d.home.verdicts)
    (verdicts_faithful Away d.away.verdicts))
    (excess_all Home d.home.excess o.home.short.excess o.home.excess))
    (excess_all Away d.away.excess o.away.short.excess o.away.excess))
    (kicker_all o.kicker))
    (rising_all (Leaves Home) d.home.leaving (leaves_faithful Home) o.home.leaving))
    (rising_all (Leaves Away) d.away.leaving (leaves_faithful Away) o.away.leaving))
    (rising_all (HasMoved Home) d.home.moved (moved_faithful Home) o.home.moved))
    (rising_all (HasMoved Away) d.away.moved (moved_faithful Away) o.away.moved))
    (ball_all d.ball))
    (place_all o.place)

-- ---- what is read of the lines
map_back : {is : List Item} → All Faithful is → map item_of (map row_of is) ≡ is
map_back no_more = refl
map_back (one_more {x = i} h hs) = ap₂ (λ (j : Item) (l : List Item). j ∷ l) h.back (map_back hs)

pub items_back : (d : Decision) → Orderly d → map item_of (rows_of d) ≡ items_of d
items_back d o = ap (map item_of) (sym (rows_of_items d)) ∙ map_back (items_faithful d o)

-- every line has the numbers of an item
pub rows_told : (d : Decision) → Orderly d → All (λ r. is_item r ≡ true) (rows_of d)
rows_told d o = subst (All (λ r. is_item r ≡ true)) (rows_of_items d) (all_map row_of (λ i h. h.item) (items_faithful d o))

-- and low ones
pub rows_low : (d : Decision) → Orderly d → All Low (rows_of d)
rows_low d o = subst (All Low) (rows_of_items d) (all_map row_of (λ i h. h.low) (items_faithful d o))
