-- Where a penalized player is placed: next to a touchline, at the first candidate with enough space, or at the one with the most. Definitions only.
use Rattle.std.specs.Prelude.{Bool, true, false, cond, List, [], ◌∷◌, eqb, length, Float, Option, None, Some}
use Prim.Native.Nat.{ℕ, Ordering}
use Rattle.std.specs.Float.{nan}
use Rattle.std.specs.Float.Ieee.{neg, lt, le}
use Rattle.floats.specs.Arithmetic.{◌+₃₂◌, ◌-₃₂◌, ◌*₃₂◌, zero32, half, pi}
use Rattle.floats.specs.Leaves.{copysign, total_order}
use Rattle.game.specs.Players.{team_of_side, player_numbered}
use Rattle.game.specs.declared.FieldDimensions.{FieldDimensions}
use Rattle.game.specs.declared.Placement.{Placement}
use Rattle.game.specs.declared.Placement.TheVariants.{NoPlace, PlayerAt}
use Rattle.game.specs.declared.PlayerPose.{PlayerPose}
use Rattle.game.specs.declared.Side.{Side}
use Rattle.game.specs.declared.SideMapping.{SideMapping}
use Rattle.game.specs.declared.Team.{Team}
use Rattle.geometry.specs.Geometry.{side_to_sign, mark_x}
use Rattle.tries.specs.Tries.{unfit, candidates_of, first_candidate}
use Rattle.clearance.specs.Clearance.{Spot, occupied, clearance}

-- ---- which candidate is taken
-- no candidate, or one
pub data Found : Type 0 where
  none : Found
  found : Float → Found

abbrev pub if_enough : Bool → Float → Found → Found
if_enough true x rest = found x
if_enough false x rest = rest

-- the first whose clearance reaches the distance
abbrev pub first_reaching : Float → (Float → Float) → List Float → Found
first_reaching d clear [] = none
first_reaching d clear (x ∷ xs) = if_enough (le d (clear x)) x (first_reaching d clear xs)

-- b's place in the total order is not below a's
abbrev pub not_below : Ordering → Bool
not_below Ordering.lt = false
not_below Ordering.eq = true
not_below Ordering.gt = true

-- of x and the later y the one with the greater clearance by total order, y where they are equal
abbrev pub later_greater : (Float → Float) → Float → Float → Float
later_greater clear x y = cond (not_below (total_order (clear y) (clear x))) y x

-- the last of those with greatest clearance, of x and xs; Meant.antt says what is meant
abbrev pub last_greatest : (Float → Float) → Float → List Float → Float
last_greatest clear x [] = x
last_greatest clear x (y ∷ ys) = last_greatest clear (later_greater clear x y) ys

abbrev pub or_else : Found → Float → Float
or_else none y = y
or_else (found x) y = x

-- of some candidates the first that reaches the distance, otherwise the last of those with greatest clearance; there is always one
unfoldable pub chosen : Float → (Float → Float) → List Float → Float
chosen d clear [] = nan
chosen d clear (x ∷ xs) = or_else (first_reaching d clear (x ∷ xs)) (last_greatest clear x xs)

-- ---- the place, in the team's x
-- the height of the own penalty mark, the own goal line less the radius, and the halfway line less the radius
abbrev pub start_of : FieldDimensions → Float
start_of f = neg (mark_x f)

abbrev pub lowest_of : FieldDimensions → Float → Float
lowest_of f r = neg f.length *₃₂ half +₃₂ r

abbrev pub highest_of : Float → Float
highest_of r = neg r

-- the candidates that are tried. Where the candidates' own entry would refuse the floats, which those of an accepted situation never are (the crate `bounds_hold`), the first alone.
unfoldable pub candidates_tried : Float → Float → Float → Float → List Float
candidates_tried start min max step = cond (unfit start min max step) (first_candidate start min max ∷ []) (candidates_of start min max step)

-- the x of the team that is taken, by the clearance of each
unfoldable pub team_place : FieldDimensions → Float → Float → (Float → Float) → Float
unfolding chosen candidates_tried
team_place f r d clear = chosen d clear (candidates_tried (start_of f) (lowest_of f r) (highest_of r) d)

-- at the edge of the carpet on the side of the touchline where the player is
abbrev pub edge_of : FieldDimensions → PlayerPose → Float
edge_of f p = copysign (f.width *₃₂ half +₃₂ f.border_strip_width -₃₂ p.radius) p.y

-- towards the field
abbrev pub inward : Float → Float
inward y = cond (lt zero32 y) (neg pi *₃₂ half) (pi *₃₂ half)

-- the clearance of the team's x, by the side's sign and the height of the place
abbrev pub clear_from : Float → Float → List Spot → Float → Float
clear_from sign y spots x = clearance spots (sign *₃₂ x) y

-- the place of a player that is present, among the spots that are taken
unfoldable pub pose_place : FieldDimensions → Float → Float → PlayerPose → List Spot → Side → ℕ → Placement
unfolding team_place clearance
pose_place f d sign p spots side number =
    PlayerAt side number (sign *₃₂ team_place f p.radius d (clear_from sign (edge_of f p) spots)) (edge_of f p) (inward (edge_of f p))

-- none for an absent player
abbrev pub seen_place : FieldDimensions → Float → Float → Option PlayerPose → List Spot → Side → ℕ → Placement
seen_place f d sign None spots side number = NoPlace
seen_place f d sign (Some p) spots side number = pose_place f d sign p spots side number

-- the place of the player with this number of a side; none where xs and ys differ in length, which is refused before
unfoldable pub place_for_penalty : SideMapping → FieldDimensions → Float → Team → Team → List Float → List Float → Side → ℕ → Placement
unfolding pose_place occupied
place_for_penalty sides f d home away xs ys side number =
    cond (eqb (length xs) (length ys))
    (seen_place f d (side_to_sign side sides) (player_numbered (team_of_side home away side) number).pose (occupied home away side number xs ys) side number)
    NoPlace
