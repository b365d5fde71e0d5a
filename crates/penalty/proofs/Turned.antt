-- The place of a penalized player changes with the field: x and y change their signs and the heading turns. The spots that are taken change with them, so each
-- candidate keeps its clearance, and the same one of them is taken. Assumes nothing.
use mathlib.Core.Path.{◌≡◌, refl, ap, ap₂, ◌∙◌}
use mathlib.Core.Logic.{inl}
use mathlib.Core.Bool.{Bool, true, false, not, cond}
use mathlib.Core.List.{List, [], ◌∷◌, map}
use Prim.Native.Nat.{ℕ}
use lib.Dec.{T, eqb}
use lib.ListN.{length}
use lib.Ieee.{Float, le, is_nan}
use Rattle.lists.proofs.Lengths.{length_map}
use Rattle.floats.specs.Arithmetic.{◌+₃₂◌, ◌-₃₂◌, ◌*₃₂◌, half}
use Rattle.floats.specs.Leaves.{total_order}
use Rattle.game.specs.Players.{team_of_side, player_numbered}
use Rattle.game.specs.declared.FieldDimensions.{FieldDimensions}
use Rattle.game.specs.declared.Placement.{Placement}
use Rattle.game.specs.declared.Placement.TheVariants.{NoPlace}
use Rattle.game.specs.declared.PlayerPose.{PlayerPose}
use Rattle.game.specs.declared.Side.{Side}
use Rattle.game.specs.declared.Side.TheVariants.{Home, Away}
use Rattle.game.specs.declared.SideMapping.{SideMapping}
use Rattle.game.specs.declared.Team.{Team}
use Rattle.geometry.specs.Geometry.{side_to_sign}
use Rattle.geometry.specs.Turned.{signed, changed_pose, changed_maybe_pose, changed_team, changed_ends}
use Rattle.geometry.proofs.Turned.{sign_changed, numbered_changed}
use Rattle.places.specs.Turned.{GivenHeading, ChangedPlace, none, player}
use Rattle.places.proofs.Signs.{place_changed, copysign_changed}
use Rattle.clearance.specs.Clearance.{Spot, occupied, clearance}
use Rattle.clearance.proofs.Changed.{changed_spot, occupied_changed, clearance_changed}
use Rattle.penalty.specs.Penalty.{Found, if_enough, first_reaching, not_below, later_greater, last_greatest, or_else, chosen, start_of, lowest_of, highest_of, candidates_tried, team_place, edge_of, inward, clear_from, pose_place, seen_place, place_for_penalty}
use Rattle.penalty.proofs.Sizes.{Fit, heading_changed}
use Rattle.std.specs.Prelude.{Option, None, Some}

-- the clearance of the team's x
clear_changed : (a b : Bool) (sign y : Float) (spots : List Spot) (x : Float) → clear_from (signed a sign) (signed b y) (map (changed_spot a b) spots) x ≡ clear_from sign y spots x
clear_changed a b sign y spots x = ap (λ (u : Float). clearance (map (changed_spot a b) spots) u (signed b y)) (place_changed a sign x) ∙ clearance_changed a b spots (sign *₃₂ x) y

-- the edge of the carpet
edge_changed : (a b : Bool) (f : FieldDimensions) (p : PlayerPose) → (b ≡ true → T (not (is_nan p.y))) → edge_of f (changed_pose a b p) ≡ signed b (edge_of f p)
edge_changed a true f p n = copysign_changed true (f.width *₃₂ half +₃₂ f.border_strip_width -₃₂ p.radius) p.y (n refl)
edge_changed a false f p n = refl

-- ---- which candidate is taken, by clearances that agree
module _ (clear clear' : Float → Float) (same : (x : Float) → clear x ≡ clear' x) where
  -- the first that reaches the distance, and the last with the greatest clearance
  first_same : (d : Float) (xs : List Float) → first_reaching d clear xs ≡ first_reaching d clear' xs
  first_same d [] = refl
  first_same d (x ∷ xs) = ap₂ (λ (c : Float) (r : Found). if_enough (le d c) x r) (same x) (first_same d xs)

  last_same : (x : Float) (ys : List Float) → last_greatest clear x ys ≡ last_greatest clear' x ys
  last_same x [] = refl
  last_same x (y ∷ ys) =
      last_same (later_greater clear x y) ys
      ∙ ap (λ (z : Float). last_greatest clear' z ys) (ap₂ (λ (u v : Float). cond (not_below (total_order u v)) y x) (same y) (same x))

  chosen_same : (d : Float) (xs : List Float) → chosen d clear xs ≡ chosen d clear' xs
  unfolding chosen
  chosen_same d [] = refl
  chosen_same d (x ∷ xs) = ap₂ or_else (first_same d (x ∷ xs)) (last_same x xs)

  -- the x of the team that is taken
  pub team_place_changed : (f : FieldDimensions) (r d : Float) → team_place f r d clear ≡ team_place f r d clear'
  unfolding team_place
  team_place_changed f r d = chosen_same d (candidates_tried (start_of f) (lowest_of f r) (highest_of r) d)

-- ---- the place, where H tells what becomes of the heading
-- what is asked of a pose, where there is one: a y that changes its sign is no NaN, and the heading becomes what H tells
abbrev pub Asked : Bool → (Float → Float → Type 0) → FieldDimensions → Option PlayerPose → Type 0
Asked b H f None = T true
Asked b H f (Some p) = (b ≡ true → T (not (is_nan p.y))) × H (inward (edge_of f p)) (inward (signed b (edge_of f p)))

module _ (a b : Bool) (H : Float → Float → Type 0) (f : FieldDimensions) (d : Float) (side : Side) (number : ℕ) where
  -- the place of a player that is present
  pose_place_changed : (sign : Float) (p : PlayerPose) (spots : List Spot) → (b ≡ true → T (not (is_nan p.y))) → H (inward (edge_of f p)) (inward (signed b (edge_of f p)))
      → ChangedPlace a b H (pose_place f d sign p spots side number) (pose_place f d (signed a sign) (changed_pose a b p) (map (changed_spot a b) spots) side number)
  unfolding pose_place
  pose_place_changed sign p spots n h = rw (edge_changed a b f p n) (player (inl (ap (λ (z : Float). signed a sign *₃₂ z) taken ∙ place_changed a sign (place clear))) (inl refl) h)
    where
      place : (Float → Float) → Float
      place = team_place f p.radius d

      clear : Float → Float
      clear = clear_from sign (edge_of f p) spots

      clear' : Float → Float
      clear' = clear_from (signed a sign) (signed b (edge_of f p)) (map (changed_spot a b) spots)

      taken : place clear' ≡ place clear
      taken = team_place_changed clear' clear (clear_changed a b sign (edge_of f p) spots) f p.radius d

  -- of one that may be absent
  seen_place_changed : (sign : Float) (pose : Option PlayerPose) (spots : List Spot) → Asked b H f pose → ChangedPlace a b H (seen_place f d sign pose spots side number) (seen_place f d (signed a sign) (changed_maybe_pose a b pose) (map (changed_spot a b) spots) side number)
  seen_place_changed sign None spots t = none
  seen_place_changed sign (Some p) spots t = pose_place_changed sign p spots t.0 t.1

  -- a place, or none
  chosen_changed : (t : Bool) {p p' : Placement} → ChangedPlace a b H p p' → ChangedPlace a b H (cond t p NoPlace) (cond t p' NoPlace)
  chosen_changed true c = c
  chosen_changed false c = none

  module _ (home away : Team) where
    -- the team of a side
    team_of_side_changed : (side : Side) → team_of_side (changed_team a b home) (changed_team a b away) side ≡ changed_team a b (team_of_side home away side)
    team_of_side_changed Home = refl
    team_of_side_changed Away = refl

    -- the place of the player with this number
    pub place_for_penalty_changed : (sides : SideMapping) (xs ys : List Float) → Asked b H f (player_numbered (team_of_side home away side) number).pose
        → ChangedPlace a b H (place_for_penalty sides f d home away xs ys side number) (place_for_penalty (changed_ends a sides) f d (changed_team a b home) (changed_team a b away) (map (signed a) xs) (map (signed b) ys) side number)
    unfolding place_for_penalty
    place_for_penalty_changed sides xs ys t =
        rw (occupied_changed a b home away side number xs ys, length_map (signed a) xs, length_map (signed b) ys, sign_changed a side sides, team_of_side_changed side, numbered_changed a b (team_of_side home away side) number)
        (chosen_changed (eqb (length xs) (length ys)) (seen_place_changed (side_to_sign side sides) (player_numbered (team_of_side home away side) number).pose (occupied home away side number xs ys) t))

-- ---- with sizes that are accepted
asked_of : (a b : Bool) (f : FieldDimensions) (pose : Option PlayerPose) → Fit f pose → Asked b (GivenHeading a b) f pose
asked_of a b f None s = tt
asked_of a b f (Some p) s = (λ e. s.y_no_nan, heading_changed a b f p s)

-- the given heading changes with the place
pub sized_place_changed : (a b : Bool) (sides : SideMapping) (f : FieldDimensions) (d : Float) (home away : Team) (xs ys : List Float) (side : Side) (number : ℕ) → Fit f (player_numbered (team_of_side home away side) number).pose
    → ChangedPlace a b (GivenHeading a b) (place_for_penalty sides f d home away xs ys side number) (place_for_penalty (changed_ends a sides) f d (changed_team a b home) (changed_team a b away) (map (signed a) xs) (map (signed b) ys) side number)
sized_place_changed a b sides f d home away xs ys side number fit =
    place_for_penalty_changed a b (GivenHeading a b) f d side number home away sides xs ys (asked_of a b f (player_numbered (team_of_side home away side) number).pose fit)
