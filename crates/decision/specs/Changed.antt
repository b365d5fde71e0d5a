-- A situation with the signs of x, of y or of both changed, what makes the two decisions equal, the exception, and the claims.
-- x changes its sign where a is true, and y where b is: the half turn changes both, a mirror image in y the second. Definitions only.
use Rattle.std.specs.Prelude.{◌≡◌, Bool, true, false, ◌&&◌, List, [], ◌∷◌, map, Float, Option, None, Some}
use Rattle.floats.specs.Values.{Alike}
use Rattle.game.specs.declared.Decision.{Decision}
use Rattle.game.specs.declared.SideDecision.{SideDecision}
use Rattle.game.specs.declared.Situation.{Situation}
use Rattle.game.specs.declared.Wish.{Wish}
use Rattle.game.specs.declared.Wish.TheVariants.{Nothing, BallAtRestart, BallInSet, ForPenalty, ForPenaltyShot, Goalkeeper}
use Rattle.geometry.specs.Turned.{signed, changed_game, changed_team, changed_ball}
use Rattle.places.specs.Turned.{ChangedHeading, ChangedPlace}
use Rattle.ball.specs.Turned.{is_excepted}
use Rattle.refusals.specs.Refusals.{refusal_of}
use Rattle.decision.specs.Decision.{decision_of}
use Rattle.decision.specs.Fit.{Fit}
use Rattle.game.specs.declared.PlayerPose.{PlayerPose}

-- x and y of poses, reference poses and ball change, sign bits of zeros too; where x does, the ends are exchanged; the rest is kept
abbrev pub changed : Bool → Bool → Situation → Situation
changed a b s =
    record {
      field = s.field;
      penalty_placement_distance = s.penalty_placement_distance;
      game = changed_game a s.game;
      home = changed_team a b s.home;
      away = changed_team a b s.away;
      ball = changed_ball a b s.ball;
      last_contact = s.last_contact;
      restart = s.restart;
      invalid_goals_judged = s.invalid_goals_judged;
      ball_rested = s.ball_rested;
      wish = s.wish;
    }

-- the x or the y of earlier places
abbrev pub changed_places : Bool → List Float → List Float
changed_places a l = map (signed a) l

-- ---- what makes two decisions equal
-- a reference pose, its x and y changed, zeros of both signs alike
abbrev pub ChangedReference : Bool → Bool → Option PlayerPose → Option PlayerPose → Type 0
ChangedReference a b None None = Unit {0}
ChangedReference a b None (Some q) = ⊥
ChangedReference a b (Some p) None = ⊥
ChangedReference a b (Some p) (Some q) = Alike q.x (signed a p.x) × Alike q.y (signed b p.y) × (q.theta ≡ p.theta) × (q.radius ≡ p.radius)

-- reference poses in their order
abbrev pub ChangedReferences : Bool → Bool → List (Option PlayerPose) → List (Option PlayerPose) → Type 0
ChangedReferences a b [] [] = Unit {0}
ChangedReferences a b [] (q ∷ qs) = ⊥
ChangedReferences a b (p ∷ ps) [] = ⊥
ChangedReferences a b (p ∷ ps) (q ∷ qs) = ChangedReference a b p q × ChangedReferences a b ps qs

-- every item of a side, in the same order
pub record ChangedSide (a b : Bool) (d e : SideDecision) : Type 0 where
  pub verdicts : e.verdicts ≡ d.verdicts
  pub excess : e.excess ≡ d.excess
  pub leaving : e.leaving ≡ d.leaving
  pub moved : e.moved ≡ d.moved
  pub references : ChangedReferences a b d.references e.references

-- a goalkeeper's heading is kept, the other given headings change with the field
abbrev pub keeps_heading : Wish → Bool
keeps_heading Nothing = false
keeps_heading BallAtRestart = false
keeps_heading BallInSet = false
keeps_heading (ForPenalty side number) = false
keeps_heading (ForPenaltyShot side number) = false
keeps_heading (Goalkeeper side) = true

-- every item of a decision d and of that of the changed situation, e
pub record ChangedDecision (a b : Bool) (w : Wish) (d e : Decision) : Type 0 where
  pub home : ChangedSide a b d.home e.home
  pub away : ChangedSide a b d.away e.away
  pub kicker : e.kicker ≡ d.kicker
  pub ball : e.ball ≡ d.ball
  pub place : ChangedPlace a b (ChangedHeading a b (keeps_heading w)) d.place e.place

-- the exception, only where x changes its sign: a ball past a touchline between the halves, touched by nobody
abbrev pub is_excepted_by : Bool → Situation → Bool
is_excepted_by a s = a && is_excepted s.game s.field s.ball s.last_contact

abbrev pub ExceptedBy : Bool → Situation → Type 0
ExceptedBy a s = is_excepted_by a s ≡ true

-- ---- the claims
-- the changed situation is accepted, and the decisions are equal if and only if the exception does not hold
pub record SignChange (a b : Bool) (s : Situation) (xs ys : List Float) : Type 0 where
  pub accepted_too : refusal_of (changed a b s) (changed_places a xs) (changed_places b ys) ≡ 0
  pub equal_only_if : ChangedDecision a b s.wish (decision_of s xs ys) (decision_of (changed a b s) (changed_places a xs) (changed_places b ys)) → ExceptedBy a s → ⊥
  pub equal_if : (ExceptedBy a s → ⊥) → ChangedDecision a b s.wish (decision_of s xs ys) (decision_of (changed a b s) (changed_places a xs) (changed_places b ys))

-- it is so of every accepted situation
abbrev pub SignChangeClaim : Type 0
SignChangeClaim = (a b : Bool) (s : Situation) (xs ys : List Float) → Fit s → refusal_of s xs ys ≡ 0 → SignChange a b s xs ys

-- where x keeps its sign, as in a mirror image in y, there is no exception
abbrev pub MirrorImageClaim : Type 0
MirrorImageClaim =
    (b : Bool) (s : Situation) (xs ys : List Float) → Fit s → refusal_of s xs ys ≡ 0 → ChangedDecision false b s.wish (decision_of s xs ys) (decision_of (changed false b s) (changed_places false xs) (changed_places b ys))
