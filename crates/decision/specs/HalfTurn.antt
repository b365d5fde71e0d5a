-- The situation turned half round, what makes two decisions equal, the exception, and the claim, in document 01's words. The half turn changes both signs. Definitions only.
use Rattle.std.specs.Prelude.{◌≡◌, Bool, true, List, map, Float, Option}
use Rattle.std.specs.Float.Ieee.{neg}
use Rattle.game.specs.declared.Decision.{Decision}
use Rattle.game.specs.declared.Placement.{Placement}
use Rattle.game.specs.declared.SideDecision.{SideDecision}
use Rattle.game.specs.declared.Situation.{Situation}
use Rattle.game.specs.declared.Wish.{Wish}
use Rattle.ball.specs.Turned.{is_excepted}
use Rattle.places.specs.Turned.{ChangedHeading, ChangedPlace}
use Rattle.refusals.specs.Refusals.{refusal_of}
use Rattle.decision.specs.Decision.{decision_of}
use Rattle.decision.specs.Fit.{Fit}
use Rattle.decision.specs.Changed.{changed, ChangedReference, ChangedSide, ChangedDecision}
use Rattle.game.specs.declared.PlayerPose.{PlayerPose}

-- x and y of poses, reference poses and ball negated, sign bits of zeros too; ends exchanged; the rest kept
abbrev pub turned : Situation → Situation
turned = changed true true

-- the x or the y of earlier places negated
abbrev pub turned_places : List Float → List Float
turned_places l = map neg l

-- ---- what makes two decisions equal
-- a reference pose, its x and y negated, zeros of both signs alike
abbrev pub SameReference : Option PlayerPose → Option PlayerPose → Type 0
SameReference = ChangedReference true true

-- every item of a side, in the same order: verdicts, excess, leaving and moved as they are, reference poses by `SameReference`
abbrev pub SameSide : SideDecision → SideDecision → Type 0
SameSide = ChangedSide true true

-- a place, its x and y negated, zeros of both signs alike; `kept` tells that its heading is kept, as a goalkeeper's; otherwise it is turned half round: 0 for PI, -PI/2 for PI/2, and the reverse
abbrev pub SamePlace : Bool → Placement → Placement → Type 0
SamePlace kept = ChangedPlace true true (ChangedHeading true true kept)

-- every item of a decision d and of that of the turned situation, e: both sides by `SameSide`, kicker and ball judgment as they are, the place by `SamePlace`
abbrev pub SameDecision : Wish → Decision → Decision → Type 0
SameDecision = ChangedDecision true true

-- the exception: play runs unstopped outside a shoot-out, the ball is past a touchline with x zero of either sign, and the last contact is none
abbrev pub Excepted : Situation → Type 0
Excepted s = is_excepted s.game s.field s.ball s.last_contact ≡ true

-- ---- the claim, demand 3
-- the turned situation is accepted, and the decisions are equal if and only if the exception does not hold
pub record HalfTurn (s : Situation) (xs ys : List Float) : Type 0 where
  pub accepted_too : refusal_of (turned s) (turned_places xs) (turned_places ys) ≡ 0
  pub equal_only_if : SameDecision s.wish (decision_of s xs ys) (decision_of (turned s) (turned_places xs) (turned_places ys)) → Excepted s → ⊥
  pub equal_if : (Excepted s → ⊥) → SameDecision s.wish (decision_of s xs ys) (decision_of (turned s) (turned_places xs) (turned_places ys))

-- it is so of every accepted situation
abbrev pub HalfTurnClaim : Type 0
HalfTurnClaim = (s : Situation) (xs ys : List Float) → Fit s → refusal_of s xs ys ≡ 0 → HalfTurn s xs ys
