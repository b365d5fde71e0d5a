-- The bounds of an accepted situation, from the ranges that acceptance gives and the laws of the two crates. Assumes nothing.
use mathlib.Core.Path.{◌≡◌, sym, ap, subst, ◌∙◌}
use mathlib.Core.Bool.{Bool, true, false, ◌&&◌, cond}
use mathlib.Core.List.{List}
use Prim.Native.Nat.{ℕ, ◌+◌}
use lib.Dec.{T, leb, eqb}
use lib.ListN.{length}
use lib.Ieee.{Float, binary32, neg, le, lt, fits}
use Rattle.lists.proofs.Bools.{both_true, left_true, right_true}
use Rattle.floats.specs.Arithmetic.{zero32, one, four, sixty_four}
use Rattle.floats.proofs.Laws.Order.{le_numbers}
use Rattle.game.specs.Players.{team_of, player_numbered}
use Rattle.game.specs.declared.Placement.TheVariants.{NoPlace}
use Rattle.game.specs.declared.PlayerPose.{PlayerPose}
use Rattle.game.specs.declared.Side.{Side}
use Rattle.game.specs.declared.Situation.{Situation}
use Rattle.game.specs.declared.Wish.{Wish}
use Rattle.game.specs.declared.Wish.TheVariants.{ForPenalty}
use Rattle.geometry.specs.Geometry.{side_to_sign}
use Rattle.places.specs.Places.{goal_line_x, post_y}
use Rattle.places.proofs.Bounds.{goal_lines_in_order, posts_in_order}
use Rattle.clearance.specs.Clearance.{occupied}
use Rattle.penalty.specs.Penalty.{lowest_of, highest_of, team_place, pose_place, seen_place, place_for_penalty}
use Rattle.penalty.proofs.Bounds.{CandidateSizes, bounds_in_order, lowest_most, highest_least, never_unfit, all_tried, place_meant}
use Rattle.refusals.specs.Refusals.{is_coordinate, is_radius, pose_fits, maybe_pose_fits, team_fits, places_fit, lists_fit, poses_fit, wish_fits, refusal_of}
use Rattle.refusals.proofs.Accepted.{Accepted, accepted, field_ranges, numbered_fits, team_fits_holds, wished_fits}
use Rattle.words.specs.Words.{pose_at, field_of, situation_of}
use Rattle.words.proofs.Fits.{float_fits, numbered_poses}
use Rattle.bounds_hold.specs.Bounds.{InOrder, PenaltyBounds, space_at, PlacedAmongAll, BoundsHold, FloatsFit, HoldsOfAccepted, HoldsOfWords}
use Rattle.std.specs.Prelude.{Option, None, Some}

-- what compares is a number
in_order : (lo hi : Float) → le lo hi ≡ true → InOrder lo hi
in_order lo hi e = record { lower = (le_numbers lo hi e).0; upper = (le_numbers lo hi e).1; order = e }

pose_radius : (p : PlayerPose) → pose_fits p ≡ true → is_radius p.radius ≡ true
unfolding pose_fits
pose_radius p e = (both_true (is_coordinate p.x && is_coordinate p.y && is_coordinate p.theta) (is_radius p.radius) e).1

-- ---- a situation
module _ (s : Situation) (xs ys : List Float) (fit : FloatsFit s) (e : refusal_of s xs ys ≡ 0) where
  a : Accepted s xs ys
  a = accepted s xs ys e

  -- the wished player's radius
  wished_radius : (side : Side) (number : ℕ) (p : PlayerPose) → s.wish ≡ ForPenalty side number → (player_numbered (team_of s side) number).pose ≡ Some p → is_radius p.radius ≡ true
  wished_radius side number p w h =
      pose_radius p
      (subst (λ (q : Option PlayerPose). maybe_pose_fits q ≡ true) h
      (numbered_fits (team_of s side) (team_fits_holds s xs ys a side) number (subst (λ (v : Wish). wish_fits v ≡ true) w (wished_fits s xs ys a))))

  candidate_sizes : (r : Float) → T (fits binary32 r) → is_radius r ≡ true → CandidateSizes s.field r s.penalty_placement_distance
  candidate_sizes r q h =
      let f = field_ranges s.field a.field_fits_holds in
      let length = both_true (le four s.field.length) (le s.field.length sixty_four) f.length_range in
      let mark = both_true (le zero32 s.field.penalty_mark_distance) (le s.field.penalty_mark_distance sixty_four) f.mark_range in
      let radius = both_true (lt zero32 r) (le r one) h in
      record {
        length_fits = fit.length;
        length_least = length.0;
        length_most = length.1;
        mark_fits = fit.mark;
        mark_least = mark.0;
        mark_most = mark.1;
        radius_fits = q;
        radius_above = radius.0;
        radius_most = radius.1;
        distance_fits_holds = fit.distance;
        distance_taken = a.distance_fits_holds;
      }

  penalty_bounds : (r : Float) → CandidateSizes s.field r s.penalty_placement_distance → PenaltyBounds s.field s.penalty_placement_distance r
  penalty_bounds r c =
      let f = s.field in
      let d = s.penalty_placement_distance in
      record {
        in_order = in_order (lowest_of f r) (highest_of r) (bounds_in_order f r d c);
        lowest = lowest_most f r d c;
        highest = highest_least f r d c;
        not_refused = never_unfit f r d c;
        all_tried = all_tried f r d c;
      }

  goal_line : le (neg (goal_line_x s.field)) (goal_line_x s.field) ≡ true
  goal_line =
      let f = field_ranges s.field a.field_fits_holds in
      let length = both_true (le four s.field.length) (le s.field.length sixty_four) f.length_range in
      let line = both_true (le zero32 s.field.line_width) (le s.field.line_width one) f.line_range in
      goal_lines_in_order s.field
      (record {
        length_fits = fit.length;
        length_least = length.0;
        length_most = length.1;
        line_fits = fit.line;
        line_least = line.0;
        line_most = line.1;
      })

  -- the lists of earlier places are of equal length
  paired : eqb (length xs) (length ys) ≡ true
  unfolding poses_fit lists_fit
  paired =
      let lists = right_true (team_fits s.home && team_fits s.away) (lists_fit xs ys) a.poses_fit_holds in
      left_true (eqb (length xs) (length ys)) (leb (length xs) 4096) (left_true _ (places_fit xs) (left_true _ (places_fit ys) lists))

  module _ (side : Side) (number : ℕ) (p : PlayerPose) (w : s.wish ≡ ForPenalty side number) (h : (player_numbered (team_of s side) number).pose ≡ Some p) where
    wished_sizes : CandidateSizes s.field p.radius s.penalty_placement_distance
    wished_sizes = candidate_sizes p.radius (fit.radius side number p h) (wished_radius side number p w h)

    placed_among_all : PlacedAmongAll s xs ys side number p
    unfolding place_for_penalty pose_place
    placed_among_all =
        let f = s.field in
        let d = s.penalty_placement_distance in
        let spots = occupied s.home s.away side number xs ys in
        let sign = side_to_sign side s.game.sides in
        record {
          x = team_place f p.radius d (space_at s xs ys side number p);
          meant = place_meant f p.radius d wished_sizes (space_at s xs ys side number p);
          placed =
              ap (λ (b : Bool). cond b (seen_place f d sign (player_numbered (team_of s side) number).pose spots side number) NoPlace) paired
              ∙ ap (λ (q : Option PlayerPose). seen_place f d sign q spots side number) h;
        }

  holds : BoundsHold s xs ys
  holds =
      record {
        candidates = λ side number p w h. penalty_bounds p.radius (wished_sizes side number p w h);
        place = placed_among_all;
        throw_in = in_order (neg (goal_line_x s.field)) (goal_line_x s.field) goal_line;
        goalkeeper = λ p. in_order (neg (post_y s.field p)) (post_y s.field p) (posts_in_order s.field p);
      }

pub holds_of_accepted : HoldsOfAccepted
holds_of_accepted = holds

-- ---- a situation in words
-- the radius of a pose, where there is one
abbrev RadiusFits : Option PlayerPose → Type 0
RadiusFits None = T true
RadiusFits (Some p) = T (fits binary32 p.radius)

words_fit : (w : List ℕ) → FloatsFit (situation_of w)
unfolding situation_of field_of pose_at
words_fit w = record {
  length = float_fits w _;
  mark = float_fits w _;
  line = float_fits w _;
  distance = float_fits w _;
  radius = λ side number p h. subst RadiusFits h (numbered_poses RadiusFits tt w (λ i. float_fits w (i + 3)) side number);
}

pub holds_of_words : HoldsOfWords
holds_of_words w xs ys e = holds (situation_of w) xs ys (words_fit w) e
