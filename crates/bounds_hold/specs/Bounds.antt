-- What is claimed of an accepted situation: the bounds that the candidates of a penalty place and the two clamps get are in order, nothing that the candidates are asked for is
-- refused, and the wished player is placed at the one of all candidates that is meant. Definitions only.
use Rattle.std.specs.Prelude.{◌≡◌, false, true, List, ℕ, T, Float, Some}
use Rattle.std.specs.Float.{binary32}
use Rattle.std.specs.Float.Ieee.{neg, le, fits, is_nan}
use Rattle.floats.specs.Arithmetic.{◌*₃₂◌, one}
use Rattle.game.specs.Players.{team_of, player_numbered}
use Rattle.game.specs.declared.FieldDimensions.{FieldDimensions}
use Rattle.game.specs.declared.Placement.TheVariants.{PlayerAt}
use Rattle.game.specs.declared.PlayerPose.{PlayerPose}
use Rattle.game.specs.declared.Side.{Side}
use Rattle.game.specs.declared.Situation.{Situation}
use Rattle.game.specs.declared.Wish.TheVariants.{ForPenalty}
use Rattle.geometry.specs.Geometry.{side_to_sign}
use Rattle.tries.specs.Tries.{unfit, candidates_of}
use Rattle.places.specs.Places.{goal_line_x, post_y}
use Rattle.clearance.specs.Clearance.{occupied}
use Rattle.penalty.specs.Penalty.{start_of, lowest_of, highest_of, candidates_tried, edge_of, inward, clear_from, place_for_penalty}
use Rattle.penalty.specs.Meant.{Chosen}
use Rattle.refusals.specs.Refusals.{refusal_of}
use Rattle.words.specs.Words.{situation_of}

-- ---- the claims
-- two bounds are in order: both are numbers, and the lower is not above the upper
pub record InOrder (lo hi : Float) : Type 0 where
  pub lower : is_nan lo ≡ false
  pub upper : is_nan hi ≡ false
  pub order : le lo hi ≡ true

-- of the candidates of a player with this radius: -1 lies between the bounds, nothing is refused, and all of them are tried
pub record PenaltyBounds (f : FieldDimensions) (d radius : Float) : Type 0 where
  pub in_order : InOrder (lowest_of f radius) (highest_of radius)
  pub lowest : le (lowest_of f radius) (neg one) ≡ true
  pub highest : le (neg one) (highest_of radius) ≡ true
  pub not_refused : unfit (start_of f) (lowest_of f radius) (highest_of radius) d ≡ false
  pub all_tried : candidates_tried (start_of f) (lowest_of f radius) (highest_of radius) d ≡ candidates_of (start_of f) (lowest_of f radius) (highest_of radius) d

-- how much space the candidate x of the player with this pose has
abbrev pub space_at : Situation → List Float → List Float → Side → ℕ → PlayerPose → Float → Float
space_at s xs ys side number p x = clear_from (side_to_sign side s.game.sides) (edge_of s.field p) (occupied s.home s.away side number xs ys) x

-- the player with this pose is placed, at the one of all candidates that is meant
pub record PlacedAmongAll (s : Situation) (xs ys : List Float) (side : Side) (number : ℕ) (p : PlayerPose) : Type 0 where
  pub x : Float
  pub meant : Chosen s.penalty_placement_distance (space_at s xs ys side number p) (candidates_of (start_of s.field) (lowest_of s.field p.radius) (highest_of p.radius) s.penalty_placement_distance) x
  pub placed : place_for_penalty s.game.sides s.field s.penalty_placement_distance s.home s.away xs ys side number ≡ PlayerAt side number (side_to_sign side s.game.sides *₃₂ x) (edge_of s.field p) (inward (edge_of s.field p))

-- of a situation: the wished player, where it is present, the throw-in's clamp, and that of a goalkeeper with any pose
pub record BoundsHold (s : Situation) (xs ys : List Float) : Type 0 where
  pub candidates : (side : Side) (number : ℕ) (p : PlayerPose) → s.wish ≡ ForPenalty side number → (player_numbered (team_of s side) number).pose ≡ Some p
      → PenaltyBounds s.field s.penalty_placement_distance p.radius
  pub place : (side : Side) (number : ℕ) (p : PlayerPose) → s.wish ≡ ForPenalty side number → (player_numbered (team_of s side) number).pose ≡ Some p → PlacedAmongAll s xs ys side number p
  pub throw_in : InOrder (neg (goal_line_x s.field)) (goal_line_x s.field)
  pub goalkeeper : (p : PlayerPose) → InOrder (neg (post_y s.field p)) (post_y s.field p)

-- ---- of whom they are claimed
-- the floats that the bounds are found by are binary32, as every f32 is
pub record FloatsFit (s : Situation) : Type 0 where
  pub length : T (fits binary32 s.field.length)
  pub mark : T (fits binary32 s.field.penalty_mark_distance)
  pub line : T (fits binary32 s.field.line_width)
  pub distance : T (fits binary32 s.penalty_placement_distance)
  pub radius : (side : Side) (number : ℕ) (p : PlayerPose) → (player_numbered (team_of s side) number).pose ≡ Some p → T (fits binary32 p.radius)

-- of every situation with such floats that is accepted
abbrev pub HoldsOfAccepted : Type 0
HoldsOfAccepted = (s : Situation) (xs ys : List Float) → FloatsFit s → refusal_of s xs ys ≡ 0 → BoundsHold s xs ys

-- of every list of words whose situation is accepted, with any earlier places
abbrev pub HoldsOfWords : Type 0
HoldsOfWords = (w : List ℕ) (xs ys : List Float) → refusal_of (situation_of w) xs ys ≡ 0 → BoundsHold (situation_of w) xs ys
