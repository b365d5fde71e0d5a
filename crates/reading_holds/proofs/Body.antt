-- The lines of a decision satisfy each clause of the definition of a sheet. Assumes nothing.
use mathlib.Core.Path.{◌≡◌, refl, sym, ap, subst, ◌∙◌}
use mathlib.Core.Bool.{Bool, true, false, not, ◌&&◌}
use mathlib.Core.List.{List, [], ◌∷◌, ◌++◌}
use Prim.Native.Nat.{ℕ, suc, ◌+◌, ◌*◌, ◌≤◌, ◌<◌}
use native.Mathlib.Omega.{arith}
use borrow.Author.Tests.{eq-eqb, lt-ltb, le-leb, ltb-false}
use lib.Dec.{eqb, ltb, leb}
use lib.ListN.{length, get_or}
use Rattle.lists.specs.Gather.{only_if}
use Rattle.lists.proofs.Bools.{both, or_left, or_right, by_test}
use Rattle.game.specs.Codes.{side_code, judgment_code, judgment_side}
use Rattle.game.specs.declared.BallJudgment.{BallJudgment}
use Rattle.game.specs.declared.Decision.{Decision}
use Rattle.game.specs.declared.KickingPlayer.{KickingPlayer}
use Rattle.game.specs.declared.Placement.{Placement}
use Rattle.game.specs.declared.Placement.TheVariants.{NoPlace, BallAt, PlayerAt}
use Rattle.game.specs.declared.PlayerList.{PlayerList}
use Rattle.game.specs.declared.Side.{Side}
use Rattle.game.specs.declared.Side.TheVariants.{Home, Away}
use Rattle.lines.specs.declared.Row.{Row}
use Rattle.sheet.specs.Rows.{row, verdict_code, verdict_row, verdict_rows, numbers_of, list_rows, from_one, none, kicker_rows, ball_rows, place_rows, rows_of}
use Rattle.items.specs.Items.{is_item}
use Rattle.reading.specs.Rules.{only, every, each_next, in_a_row, of_kind, not_before, in_order, earlier, players_rise, ranks_from, ranked, none_twice, named_once, at_most_one, as_many, same_who, placing, one_place, is_body}
use Rattle.reading.proofs.All.{Distinct, distinct_each, Chain, chain_lower, chain_append, chain_only, chain_flat, chain_each}
use Rattle.reading.proofs.Lists.{all_kept, every_line, none_twice_holds, in_a_row_holds, ranks_table}
use Rattle.reading_holds.proofs.Orderly.{Rising, Orderly}
use Rattle.reading_holds.proofs.Faithful.{Low}
use Rattle.reading_holds.proofs.Back.{rows_told, rows_low}
use Rattle.reading_holds.proofs.Ordered.{rank_of, rows_ordered}
use Rattle.reading_holds.proofs.Blocks.{side_of, rows_only, verdicts_only, excess_only, kicker_only, leaving_only, moved_only, ball_only}
use Rattle.game.specs.declared.Positioning.{Positioning}
use Rattle.std.specs.Prelude.{Option, None, Some}

-- ---- kinds never fall, and Home comes first in kind 2
not_before_holds : (r t : Row) → Low r → Low t → rank_of r + 0 ≤ rank_of t → not_before r t ≡ true
not_before_holds r t lr lt h =
    by_test (ltb r.kind t.kind) (λ e. or_left (ltb r.kind t.kind) _ e)
    (λ e.
    let g : t.kind ≤ r.kind = ltb-false r.kind t.kind e in
    let same : r.kind ≡ t.kind = omega (arith, lr.side, lt.side) in
    let low : r.side ≤ t.side = omega (arith, same) in
    or_right (ltb r.kind t.kind) _
    (both (eqb r.kind t.kind) _ (eq-eqb r.kind t.kind same) (or_right (not (eqb r.kind 2)) (leb r.side t.side) (le-leb r.side t.side low))))

-- ---- players strictly rise
-- Home 1 to 20, then Away 1 to 20
abbrev player_of : Row → ℕ
player_of r = 21 * r.side + r.number

is_earlier : (r t : Row) → Low r → Low t → player_of r + 1 ≤ player_of t → earlier r t ≡ true
is_earlier r t lr lt h =
    by_test (ltb r.side t.side) (λ e. or_left (ltb r.side t.side) _ e)
    (λ e.
    let g : t.side ≤ r.side = ltb-false r.side t.side e in
    let same : r.side ≡ t.side = omega (arith, lr.number, lt.number) in
    let less : r.number < t.number = omega (arith, same) in
    or_right (ltb r.side t.side) _ (both (eqb r.side t.side) _ (eq-eqb r.side t.side same) (lt-ltb r.number t.number less)))

verdicts_rise : (side : Side) (v : List Positioning) → Chain player_of 1 (21 * side_code side + 1) (21 * side_code side + 21) (verdict_rows side v)
unfolding verdict_rows
verdicts_rise side v =
    chain_flat 20 (verdict_row (side_code side) v) (λ i. 21 * side_code side + suc i)
    (λ i l. chain_only (ltb 0 (verdict_code v i)) (row 1 (side_code side) (i + 1) (verdict_code v i)) {lo = 21 * side_code side + suc i} {hi = 21 * side_code side + suc (suc i)} (omega arith) (omega arith))

list_rises : (kind : ℕ) (side : Side) (l : PlayerList) → Rising (numbers_of l) → Chain player_of 1 (21 * side_code side + 1) (21 * side_code side + 21) (list_rows kind side none l)
unfolding list_rows
list_rises kind side l c = chain_each (21 * side_code side) (λ n k. row kind (side_code side) n 0) (λ n k. refl) c

-- Home before Away
both_rise : {a b : List Row} → Chain player_of 1 1 21 a → Chain player_of 1 22 42 b → Chain player_of 1 1 42 (a ++ b)
both_rise h k = chain_append h (chain_lower (omega arith) k)

-- ---- ranks and names
ranks_told : (side : Side) (l : PlayerList) → ranks_from 1 (list_rows 2 side from_one l) ≡ true
unfolding list_rows
ranks_told side l = ranks_table 1 (length (numbers_of l)) (λ k. row 2 (side_code side) (get_or (numbers_of l) k 0) (from_one k)) (λ k. omega arith)

names_told : (side : Side) (l : PlayerList) → Distinct (λ (n : ℕ). n) (numbers_of l) → none_twice (list_rows 2 side from_one l) ≡ true
unfolding list_rows
names_told side l h = none_twice_holds (distinct_each (λ n k. row 2 (side_code side) n (from_one k)) (λ n k. refl) h)

-- ---- one at most
kicker_few : (k : Option KickingPlayer) → leb (length (kicker_rows k)) 1 ≡ true
kicker_few None = refl
kicker_few (Some k) = refl

ball_few : (j : BallJudgment) → leb (length (ball_rows j)) 1 ≡ true
unfolding ball_rows
ball_few j = go (ltb 0 (judgment_code j))
  where
    go : (b : Bool) → leb (length (only_if b (row 6 (judgment_side j) (judgment_code j) 0))) 1 ≡ true
    go true = refl
    go false = refl

-- ---- the place
same_who_holds : (side n x y z : ℕ) → in_a_row same_who (row 7 side n x ∷ row 8 side n y ∷ row 9 side n z ∷ []) ≡ true
unfolding each_next
same_who_holds side n x y z = simp (eq-eqb side side refl, eq-eqb n n refl)

place_told : (p : Placement)
    → (leb (length (of_kind 7 (place_rows p))) 1 && (as_many 7 8 (place_rows p) && (as_many 7 9 (place_rows p) && in_a_row same_who (placing (place_rows p))))) ≡ true
unfolding place_rows only
place_told NoPlace = refl
place_told (BallAt x y z) = same_who_holds 2 0 _ _ _
place_told (PlayerAt side n x y z) = same_who_holds (side_code side) n _ _ _

-- the lines before those of the place have other kinds
place_alone : (d : Decision) → one_place (rows_of d) ≡ one_place (place_rows d.place)
place_alone d = simp (rows_only (λ k s. eqb k 7) d, rows_only (λ k s. eqb k 8) d, rows_only (λ k s. eqb k 9) d, rows_only (λ k s. leb 7 k) d)

-- ---- all clauses
module _ (d : Decision) (o : Orderly d) where
  items_clause : every is_item (rows_of d) ≡ true
  items_clause = every_line is_item (rows_told d o)

  order_clause : in_order (rows_of d) ≡ true
  order_clause = in_a_row_holds not_before Low rank_of 0 not_before_holds (rows_low d o) (rows_ordered d)

  rise_clause : (kind : ℕ) (l : List Row) → of_kind kind (rows_of d) ≡ l → Chain player_of 1 1 42 l → players_rise kind (rows_of d) ≡ true
  rise_clause kind l e c = in_a_row_holds earlier Low player_of 1 is_earlier (all_kept (λ r. eqb r.kind kind) (λ r h t. h) (rows_low d o)) (subst (Chain player_of 1 1 42) (sym e) c)

  verdicts_clause : players_rise 1 (rows_of d) ≡ true
  verdicts_clause = rise_clause 1 (verdict_rows Home d.home.verdicts ++ verdict_rows Away d.away.verdicts) (verdicts_only d) (both_rise (verdicts_rise Home d.home.verdicts) (verdicts_rise Away d.away.verdicts))

  leaving_clause : players_rise 4 (rows_of d) ≡ true
  leaving_clause = rise_clause 4 (list_rows 4 Home none d.home.leaving ++ list_rows 4 Away none d.away.leaving) (leaving_only d) (both_rise (list_rises 4 Home d.home.leaving o.home.leaving) (list_rises 4 Away d.away.leaving o.away.leaving))

  moved_clause : players_rise 5 (rows_of d) ≡ true
  moved_clause = rise_clause 5 (list_rows 5 Home none d.home.moved ++ list_rows 5 Away none d.away.moved) (moved_only d) (both_rise (list_rises 5 Home d.home.moved o.home.moved) (list_rises 5 Away d.away.moved o.away.moved))

  rank_clause : (side : Side) → ranked (side_code side) (rows_of d) ≡ true
  rank_clause side = ap (ranks_from 1) (excess_only d side) ∙ ranks_told side (side_of d side).excess

  once : (side : Side) → Distinct (λ (n : ℕ). n) (numbers_of (side_of d side).excess)
  once Home = o.home.excess_once
  once Away = o.away.excess_once

  name_clause : (side : Side) → named_once (side_code side) (rows_of d) ≡ true
  name_clause side = ap none_twice (excess_only d side) ∙ names_told side (side_of d side).excess (once side)

  kicker_clause : at_most_one 3 (rows_of d) ≡ true
  kicker_clause = ap (λ (l : List Row). leb (length l) 1) (kicker_only d) ∙ kicker_few d.kicker

  ball_clause : at_most_one 6 (rows_of d) ≡ true
  ball_clause = ap (λ (l : List Row). leb (length l) 1) (ball_only d) ∙ ball_few d.ball

  pub body : is_body (rows_of d) ≡ true
  unfolding is_body
  body =
      simp (items_clause, order_clause, verdicts_clause, rank_clause Home, rank_clause Away, name_clause Home, name_clause Away, kicker_clause, leaving_clause, moved_clause, ball_clause, place_alone d, place_told d.place)
