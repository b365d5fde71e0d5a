-- The kinds of a decision's lines never fall, nor do the sides in a block. Assumes nothing.
use mathlib.Core.Path.{refl, ap₂}
use mathlib.Core.List.{List, [], ◌∷◌}
use Prim.Native.Nat.{ℕ, ◌+◌, ◌*◌, ◌≤◌}
use native.Mathlib.Omega.{arith}
use Rattle.game.specs.Codes.{side_code, judgment_side}
use Rattle.game.specs.declared.BallJudgment.{BallJudgment}
use Rattle.game.specs.declared.BallJudgment.TheVariants.{NoJudgment, Goal, GoalKick, CornerKick, ThrowIn, EndOfPenaltyShot}
use Rattle.game.specs.declared.Decision.{Decision}
use Rattle.game.specs.declared.KickingPlayer.{KickingPlayer}
use Rattle.game.specs.declared.Placement.{Placement}
use Rattle.game.specs.declared.Placement.TheVariants.{NoPlace, BallAt, PlayerAt}
use Rattle.game.specs.declared.Side.TheVariants.{Home, Away}
use Rattle.lines.specs.declared.Row.{Row}
use Rattle.sheet.specs.Rows.{row, from_one, none, place_rows, rows_of}
use Rattle.reading.proofs.All.{All, no_more, one_more, all_so, Chain, chain_lower, chain_higher, chain_append, chain_level}
use Rattle.reading_holds.proofs.Faithful.{side_low}
use Rattle.reading_holds.proofs.Blocks.{At, verdicts_at, list_at, kicker_side, kicker_at, ball_at}
use Rattle.std.specs.Prelude.{Option, None, Some}

-- the place in the order: by the kind, then by the side
abbrev pub rank_of : Row → ℕ
rank_of r = 3 * r.kind + r.side

-- a block between two marks
ordered_at : (kind side lo hi : ℕ) {rs : List Row} → lo ≤ 3 * kind + side → 3 * kind + side ≤ hi → All (At kind side) rs → Chain rank_of 0 lo hi rs
ordered_at kind side lo hi g h a = chain_lower g (chain_higher h (chain_level (3 * kind + side) (all_so (λ r e. ap₂ (λ (k s : ℕ). 3 * k + s) e.0 e.1) a)))

kicker_side_holds : (k : Option KickingPlayer) → kicker_side k ≤ 1
kicker_side_holds None = omega arith
kicker_side_holds (Some k) = side_low k.side

judgment_side_holds : (j : BallJudgment) → judgment_side j ≤ 2
judgment_side_holds NoJudgment = omega arith
judgment_side_holds (Goal side) = omega (arith, side_low side)
judgment_side_holds (GoalKick side) = omega (arith, side_low side)
judgment_side_holds (CornerKick side) = omega (arith, side_low side)
judgment_side_holds (ThrowIn side) = omega (arith, side_low side)
judgment_side_holds EndOfPenaltyShot = omega arith

three_ordered : (side n x y z : ℕ) → side ≤ 2 → Chain rank_of 0 21 29 (row 7 side n x ∷ row 8 side n y ∷ row 9 side n z ∷ [])
three_ordered side n x y z h =
    chain_append (ordered_at 7 side 21 24 {rs = row 7 side n x ∷ []} (omega arith) (omega arith) (one_more (refl, refl) no_more))
    (chain_append (ordered_at 8 side 24 27 {rs = row 8 side n y ∷ []} (omega arith) (omega arith) (one_more (refl, refl) no_more))
    (ordered_at 9 side 27 29 {rs = row 9 side n z ∷ []} (omega arith) (omega arith) (one_more (refl, refl) no_more)))

place_ordered : (p : Placement) → Chain rank_of 0 21 29 (place_rows p)
unfolding place_rows
place_ordered NoPlace = ordered_at 7 0 21 29 (omega arith) (omega arith) no_more
place_ordered (BallAt x y z) = three_ordered 2 0 _ _ _ (omega arith)
place_ordered (PlayerAt side n x y z) = three_ordered (side_code side) n _ _ _ (omega (arith, side_low side))

pub rows_ordered : (d : Decision) → Chain rank_of 0 3 29 (rows_of d)
unfolding rows_of
rows_ordered d =
    chain_append (chain_append (chain_append (chain_append (chain_append (chain_append (chain_append (chain_append (chain_append (chain_append
    (ordered_at 1 0 3 4 (omega arith) (omega arith) (verdicts_at Home d.home.verdicts))
    (ordered_at 1 1 4 6 (omega arith) (omega arith) (verdicts_at Away d.away.verdicts)))
    (ordered_at 2 0 6 7 (omega arith) (omega arith) (list_at 2 Home from_one d.home.excess)))
    (ordered_at 2 1 7 9 (omega arith) (omega arith) (list_at 2 Away from_one d.away.excess)))
    (ordered_at 3 (kicker_side d.kicker) 9 12 (omega arith) (omega (arith, kicker_side_holds d.kicker)) (kicker_at d.kicker)))
    (ordered_at 4 0 12 13 (omega arith) (omega arith) (list_at 4 Home none d.home.leaving)))
    (ordered_at 4 1 13 15 (omega arith) (omega arith) (list_at 4 Away none d.away.leaving)))
    (ordered_at 5 0 15 16 (omega arith) (omega arith) (list_at 5 Home none d.home.moved)))
    (ordered_at 5 1 16 18 (omega arith) (omega arith) (list_at 5 Away none d.away.moved)))
    (ordered_at 6 (judgment_side d.ball) 18 21 (omega arith) (omega (arith, judgment_side_holds d.ball)) (ball_at d.ball)))
    (place_ordered d.place)
