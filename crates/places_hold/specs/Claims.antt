-- What is claimed of the place of every accepted situation: its numbers are finite, and a placed player has a number from 1 to 20; and that the sign of a zero of an earlier place makes no difference. Definitions only.
use Rattle.std.specs.Prelude.{◌≡◌, true, cond, List, map, ℕ, T, Float, get_or, Option, None, Some}
use Rattle.std.specs.Float.{nan, binary32}
use Rattle.std.specs.Float.Ieee.{eq, fits}
use Rattle.floats.specs.Arithmetic.{zero32}
use Rattle.floats.specs.Values.{Finite}
use Rattle.game.specs.Players.{player_at, team_of}
use Rattle.game.specs.declared.FieldDimensions.{FieldDimensions}
use Rattle.game.specs.declared.Placement.{Placement}
use Rattle.game.specs.declared.Placement.TheVariants.{NoPlace, BallAt, PlayerAt}
use Rattle.game.specs.declared.PlayerPose.{PlayerPose}
use Rattle.game.specs.declared.Side.{Side}
use Rattle.game.specs.declared.Situation.{Situation}
use Rattle.refusals.specs.Refusals.{is_player_number, refusal_of}
use Rattle.decision.specs.Decision.{decision_of}
use Rattle.words.specs.Words.{situation_of}

-- ---- the claims
-- none, or three finite numbers, for a player whose number is 1 to 20 or for the ball
pub data Placed : Placement → Type 0 where
  nowhere : Placed NoPlace
  ball_at : {x y z : Float} → Finite binary32 x → Finite binary32 y → Finite binary32 z → Placed (BallAt x y z)
  player_at_holds : {side : Side} {number : ℕ} {x y theta : Float} → is_player_number number ≡ true → Finite binary32 x → Finite binary32 y → Finite binary32 theta → Placed (PlayerAt side number x y theta)

-- ---- of whom they are claimed
-- y, heading and radius of a pose are binary32
pub record PoseFits (p : PlayerPose) : Type 0 where
  pub y : T (fits binary32 p.y)
  pub theta : T (fits binary32 p.theta)
  pub radius : T (fits binary32 p.radius)

-- of a pose, where there is one
abbrev pub SeenFits : Option PlayerPose → Type 0
SeenFits None = Unit {0}
SeenFits (Some p) = PoseFits p

-- the sizes that places are found by
pub record SizesFit (f : FieldDimensions) : Type 0 where
  pub length : T (fits binary32 f.length)
  pub width : T (fits binary32 f.width)
  pub goal_width : T (fits binary32 f.goal_width)
  pub goal_area_length : T (fits binary32 f.goal_area_length)
  pub goal_area_width : T (fits binary32 f.goal_area_width)
  pub penalty_area_length : T (fits binary32 f.penalty_area_length)
  pub penalty_area_width : T (fits binary32 f.penalty_area_width)
  pub mark : T (fits binary32 f.penalty_mark_distance)
  pub border : T (fits binary32 f.border_strip_width)
  pub line : T (fits binary32 f.line_width)
  pub ball_radius : T (fits binary32 f.ball_radius)

-- the floats that a situation's place is found by are binary32, as every f32 is
pub record PlaceFloats (s : Situation) : Type 0 where
  pub field : SizesFit s.field
  pub distance : T (fits binary32 s.penalty_placement_distance)
  pub ball_x : T (fits binary32 s.ball.x)
  pub ball_y : T (fits binary32 s.ball.y)
  pub poses : (side : Side) (i : ℕ) → SeenFits (player_at (team_of s side) i).pose

-- of every situation with such floats that is accepted
abbrev pub PlacedClaim : Type 0
PlacedClaim = (s : Situation) (xs ys : List Float) → PlaceFloats s → refusal_of s xs ys ≡ 0 → Placed (decision_of s xs ys).place

-- of every list of words whose situation is accepted, with any earlier places
abbrev pub WordsPlacedClaim : Type 0
WordsPlacedClaim = (ws : List ℕ) (xs ys : List Float) → refusal_of (situation_of ws) xs ys ≡ 0 → Placed (decision_of (situation_of ws) xs ys).place

-- ---- earlier places as a sheet has them
-- a zero of either sign as +0, another value as it is
abbrev pub unsigned_zero : Float → Float
unsigned_zero x = cond (eq x zero32) zero32 x

-- places that are taken from sheets, where a zero has no sign, give the same decision when they are handed on
abbrev pub EarlierZerosClaim : Type 0
EarlierZerosClaim =
    (s : Situation) (xs ys : List Float) → ((i : ℕ) → T (fits binary32 (get_or xs i nan))) → ((i : ℕ) → T (fits binary32 (get_or ys i nan))) → decision_of s (map unsigned_zero xs) (map unsigned_zero ys) ≡ decision_of s xs ys
