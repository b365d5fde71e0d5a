-- Demand 3 at A, and at A with the ball between the halves: the theorem of the half turn, whose hypotheses are met.
use mathlib.Core.Path.{◌≡◌, refl, sym}
use mathlib.Core.Bool.{true, true≢false}
use mathlib.Core.List.{List, [], ◌∷◌}
use Prim.Native.Nat.{ℕ, zero, suc}
use lib.Dec.{T}
use lib.ListN.{replicate, get_or}
use lib.Ieee.{Float, binary32, neg, fits}
use Rattle.floats.specs.Arithmetic.{zero32}
use Rattle.game.specs.Players.{nobody}
use Rattle.game.specs.declared.Ball.{Ball}
use Rattle.game.specs.declared.Penalty.TheVariants.{NoPenalty}
use Rattle.game.specs.declared.Player.{Player}
use Rattle.refusals.specs.Refusals.{refusal_of}
use Rattle.decision.specs.Fit.{SeenFit, BallFit, Fit}
use Rattle.decision.specs.HalfTurn.{Excepted}
use Rattle.decision.proofs.HalfTurn.{half_turn}
use Rattle.cases.specs.Field.{◌over◌, player_with, seen_at, absent}
use Rattle.cases.specs.CaseA.{with_ball, case_a, untouched}
use Rattle.cases.specs.HalfTurn.{HalfTurnCases}
use Rattle.cases.proofs.Opened.{floats, answers}
use Rattle.std.specs.Prelude.{None}

-- players whose poses fit
data Fitting : List Player → Type 0 where
  none : Fitting []
  more : {p : Player} {l : List Player} → SeenFit p.pose → Fitting l → Fitting (p ∷ l)

-- past the end of the list nobody is
each : {l : List Player} → Fitting l → (i : ℕ) → SeenFit (get_or l i nobody).pose
each none i = tt
each (more h hs) zero = h
each (more h hs) (suc i) = each hs i

all_absent : (n : ℕ) → Fitting (replicate n absent)
all_absent zero = none
all_absent (suc n) = more tt (all_absent n)

seen_fits : (x y : Float) → T (fits binary32 y) → SeenFit (seen_at x y)
unfolding floats
seen_fits x y h = record { y = h; radius = tt }

-- the floats of A fit, if the ball's do
fit : (ball : Ball) → BallFit ball → Fit (with_ball ball None)
unfolding answers
fit ball h =
    record {
      field = record { length = tt; width = tt; border_strip_width = tt; ball_radius = tt };
      home =
          each
          (more tt
          (more (seen_fits (13 over 2) zero32 tt)
          (more (seen_fits (13 over 2) (1 over 1) tt)
          (more (seen_fits (25 over 4) (neg (1 over 1)) tt)
          (more (seen_fits (27 over 4) (1 over 2) tt)
          (all_absent 15))))));
      away = each (all_absent 20);
      ball = h;
    }

-- ---- A
a_fit : Fit case_a
unfolding floats
a_fit = fit case_a.ball (record { x = tt; y = tt })

a_accepted : refusal_of case_a [] [] ≡ 0
unfolding answers
a_accepted = refl

not_excepted : Excepted case_a → ⊥
unfolding answers
not_excepted e = true≢false (sym e)

-- ---- the ball between the halves
untouched_fit : Fit untouched
unfolding floats
untouched_fit = fit untouched.ball (record { x = tt; y = tt })

untouched_accepted : refusal_of untouched [] [] ≡ 0
unfolding answers
untouched_accepted = refl

excepted : Excepted untouched
unfolding answers
excepted = refl

-- ---- both
pub half_turn_cases : HalfTurnCases
half_turn_cases =
    record {
      a_fit = a_fit;
      a_accepted = a_accepted;
      not_excepted = not_excepted;
      a_turned = (half_turn case_a [] [] a_fit a_accepted).equal_if not_excepted;
      untouched_fit = untouched_fit;
      untouched_accepted = untouched_accepted;
      excepted = excepted;
      untouched_turned = λ d. (half_turn untouched [] [] untouched_fit untouched_accepted).equal_only_if d excepted;
    }
