-- Who counts in the goal area, on the field of case A: a margin of 0, a penalised player, zeros of both signs. Definitions only.
use Rattle.std.specs.Prelude.{◌≡◌, false, List, [], ◌∷◌, replicate, Float, Option, None, Some}
use Rattle.std.specs.Float.Ieee.{neg}
use Rattle.floats.specs.Arithmetic.{zero32}
use Rattle.game.specs.declared.BallJudgment.TheVariants.{NoJudgment}
use Rattle.game.specs.declared.Penalty.TheVariants.{NoPenalty, Pushing}
use Rattle.counts.specs.Counts.{players_on_field}
use Rattle.excess.specs.Excess.{goal_area_excess}
use Rattle.decision.specs.Decision.{answer_of}
use Rattle.cases.specs.Field.{◌over◌, at}
use Rattle.cases.specs.CaseA.{home_with, four, in_set}
use Rattle.cases.specs.Answers.{none, two, answered}
use Rattle.game.specs.declared.Margins.{Margins}

-- a margin to the own goal area, which is all that is asked here
abbrev pub own : Float → Option Margins
own m = Some (record { own_goal_area = m; own_penalty_area = zero32; opponent_penalty_area = zero32 })

-- margins that no pose has: +0, -0, 0.75, 0.5 and 1 of 1 to 5
abbrev pub zero_margins : List (Option Margins)
zero_margins = own zero32 ∷ own (neg zero32) ∷ own (3 over 4) ∷ own (1 over 2) ∷ own (1 over 1) ∷ replicate 15 None

-- who is named, and how many play
pub record ExcessCases : Type 0 where
  -- A in Set, and 6 at (5.75, 0) touches the area's line, a margin of 0: it is in the area and is named first
  pub on_the_line : answer_of (in_set (home_with four NoPenalty (at (23 over 4) zero32 ∷ []))) [] [] ≡ answered (two 6 4) NoJudgment
  -- A in Set, 4 penalised: three are left, and nobody is named
  pub penalised : answer_of (in_set (home_with four Pushing [])) [] [] ≡ answered none NoJudgment
  -- four are on the field in A
  pub on_field : players_on_field (home_with four NoPenalty []) ≡ 4
  -- three with one of them penalised
  pub on_field_penalised : players_on_field (home_with four Pushing []) ≡ 3
  -- -0 is in the area, and comes before +0
  pub zeros : goal_area_excess (home_with four NoPenalty []) zero_margins false ≡ two 2 1
