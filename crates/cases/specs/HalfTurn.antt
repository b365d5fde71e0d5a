-- Demand 3 at two situations: A, and A with the ball between the halves. It shows that its hypotheses can be met. Definitions only.
use Rattle.std.specs.Prelude.{◌≡◌, []}
use Rattle.game.specs.declared.Wish.TheVariants.{Nothing}
use Rattle.refusals.specs.Refusals.{refusal_of}
use Rattle.decision.specs.Decision.{decision_of}
use Rattle.decision.specs.Fit.{Fit}
use Rattle.decision.specs.HalfTurn.{turned, SameDecision, Excepted}
use Rattle.cases.specs.CaseA.{case_a, untouched}

-- the hypotheses and the conclusion, at both
pub record HalfTurnCases : Type 0 where
  -- A: its floats fit
  pub a_fit : Fit case_a
  -- A is accepted
  pub a_accepted : refusal_of case_a [] [] ≡ 0
  -- the exception does not hold
  pub not_excepted : Excepted case_a → ⊥
  -- both decisions are equal
  pub a_turned : SameDecision Nothing (decision_of case_a [] []) (decision_of (turned case_a) [] [])
  -- the ball between the halves, touched by nobody: the floats fit
  pub untouched_fit : Fit untouched
  -- it is accepted
  pub untouched_accepted : refusal_of untouched [] [] ≡ 0
  -- the exception holds
  pub excepted : Excepted untouched
  -- the decisions are not equal
  pub untouched_turned : SameDecision Nothing (decision_of untouched [] []) (decision_of (turned untouched) [] []) → ⊥
