-- The condition of a player's line settles the decision's verdict on it. Assumes nothing.
use mathlib.Core.Path.{◌≡◌, refl, sym, ap, ◌∙◌}
use mathlib.Core.Bool.{Bool, true, false, not, cond}
use mathlib.Core.List.{List, []}
use Prim.Native.Nat.{ℕ, ◌<◌}
use native.Mathlib.Omega.{arith}
use borrow.Author.Tests.{ne_eqb}
use lib.Dec.{eqb, ltb}
use lib.Ieee.{Float}
use lib.ListN.{length, get_or}
use Rattle.lists.proofs.Table.{table_at}
use Rattle.game.specs.Codes.{positioning_code}
use Rattle.game.specs.Players.{team_of, number_at}
use Rattle.game.specs.declared.Positioning.TheVariants.{Legal}
use Rattle.game.specs.declared.Side.{Side}
use Rattle.game.specs.declared.Side.TheVariants.{Home, Away}
use Rattle.game.specs.declared.SideDecision.{SideDecision}
use Rattle.game.specs.declared.Situation.{Situation}
use Rattle.conditions.specs.Conditions.{verdict_of, is_some}
use Rattle.conditions.specs.declared.Condition.{Condition}
use Rattle.conditions.specs.declared.Condition.TheVariants.{NoCondition, OnCenterMark, OutsideCircle, InCircle, InOpponentHalf, InCenterCircle, OnPenaltyMark, BeyondPenaltyMark, InOpponentPenaltyArea, NearPenaltyMark, InOwnPenaltyArea, BehindOwnMark, NearOwnMark, NearBall, InGoalKickArea, InAreaOfBall}
use Rattle.positioning.specs.Positioning.{is_illegally_positioned}
use Rattle.decision.specs.Decision.{verdict_at, team_verdicts, team_margins, team_decision, side_margins, side_decision, decision_of}
use Rattle.sentences.specs.Sentences.{line_of}
use Rattle.sentences.proofs.Claims.{never_empty}
use Rattle.coach.specs.Coach.{condition_for, line_for}
use Rattle.coach.proofs.Lines.{condition_told}
use Rattle.sentences_hold.specs.Claims.{side_in, verdict_in, verdict_line}
use Rattle.game.specs.declared.Positioning.{Positioning}

module _ (s : Situation) (xs ys : List Float) (side : Side) (i : ℕ) (h : i < 20) where
  side_told : side_in (decision_of s xs ys) side ≡ side_decision s side
  unfolding decision_of
  side_told = go side
    where
      go : (z : Side) → side_in (decision_of s xs ys) z ≡ side_decision s z
      go Home = refl
      go Away = refl

  pub verdict_told : verdict_in (decision_of s xs ys) side i ≡ verdict_of (condition_for s side (number_at i))
  unfolding side_decision team_decision team_verdicts side_margins team_margins is_illegally_positioned
  verdict_told =
      ap (λ (d : SideDecision). get_or d.verdicts i Legal) side_told
      ∙ (table_at 20 (verdict_at s.game s.field s.ball side (team_of s side) (side_margins s side)) Legal i h)
      ∙ ap verdict_of (sym (condition_told s side i h))

-- ---- the line of a condition
pub line_of_verdict : (side : Side) (n : ℕ) (c : Condition) → line_for side n c ≡ verdict_line side n (verdict_of c) c
line_of_verdict side n NoCondition = refl
line_of_verdict side n OnCenterMark = refl
line_of_verdict side n OutsideCircle = refl
line_of_verdict side n InCircle = refl
line_of_verdict side n InOpponentHalf = refl
line_of_verdict side n InCenterCircle = refl
line_of_verdict side n OnPenaltyMark = refl
line_of_verdict side n BeyondPenaltyMark = refl
line_of_verdict side n InOpponentPenaltyArea = refl
line_of_verdict side n NearPenaltyMark = refl
line_of_verdict side n InOwnPenaltyArea = refl
line_of_verdict side n BehindOwnMark = refl
line_of_verdict side n NearOwnMark = refl
line_of_verdict side n NearBall = refl
line_of_verdict side n InGoalKickArea = refl
line_of_verdict side n InAreaOfBall = refl

-- there is a condition exactly where the verdict has a number above 0
pub some_coded : (c : Condition) → ltb 0 (positioning_code (verdict_of c)) ≡ is_some c
some_coded NoCondition = refl
some_coded OnCenterMark = refl
some_coded OutsideCircle = refl
some_coded InCircle = refl
some_coded InOpponentHalf = refl
some_coded InCenterCircle = refl
some_coded OnPenaltyMark = refl
some_coded BeyondPenaltyMark = refl
some_coded InOpponentPenaltyArea = refl
some_coded NearPenaltyMark = refl
some_coded InOwnPenaltyArea = refl
some_coded BehindOwnMark = refl
some_coded NearOwnMark = refl
some_coded NearBall = refl
some_coded InGoalKickArea = refl
some_coded InAreaOfBall = refl

-- and the line is empty exactly where there is none
pub empty_unless : (side : Side) (n : ℕ) (c : Condition) → eqb (length (line_for side n c)) 0 ≡ not (is_some c)
empty_unless side n c = go (is_some c)
  where
    go : (b : Bool) → eqb (length (cond b (line_of side n (verdict_of c) c) [])) 0 ≡ not b
    go true = ne_eqb (length (line_of side n (verdict_of c) c)) 0 (λ e. omega (arith, never_empty side n (verdict_of c) c, e))
    go false = refl
