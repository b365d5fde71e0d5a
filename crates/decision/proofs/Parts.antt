-- What the theorem of the change of signs asks of a situation, from its floats and its acceptance. Assumes nothing.
use mathlib.Core.Path.{◌≡◌}
use mathlib.Core.Bool.{true, ◌&&◌}
use mathlib.Core.List.{List}
use Prim.Native.Nat.{ℕ, zero, suc}
use lib.Ieee.{Float, lt, le}
use Rattle.lists.proofs.Bools.{both_true}
use Rattle.floats.specs.Arithmetic.{zero32, one, four, sixty_four}
use Rattle.game.specs.Players.{player_at, team_of, player_numbered}
use Rattle.game.specs.declared.FieldDimensions.{FieldDimensions}
use Rattle.game.specs.declared.PlayerPose.{PlayerPose}
use Rattle.game.specs.declared.Side.{Side}
use Rattle.game.specs.declared.Side.TheVariants.{Home, Away}
use Rattle.game.specs.declared.Situation.{Situation}
use Rattle.game.specs.declared.Team.{Team}
use Rattle.places.proofs.Turned.{Located, FitsY}
use Rattle.ball.proofs.Sizes.{Sized}
use Rattle.penalty.proofs.Sizes.{PlaceSizes}
use Rattle.penalty.proofs.Sizes as Sizes
use Rattle.refusals.specs.Refusals.{is_coordinate, is_radius, is_player_number, pose_fits, maybe_pose_fits, field_fits, ball_fits, wish_fits, refusal_of}
use Rattle.refusals.proofs.Accepted.{Ranges, accepted, field_ranges, numbered_fits, team_fits_holds, wished_fits}
use Rattle.decision.specs.Fit.{Fit, PoseFit, SeenFit, SizesFit}
use Rattle.decision.proofs.Accepted.{coordinate_within, ball_located, field_sized}
use Rattle.std.specs.Prelude.{Option, None, Some}

-- what the proof of the theorem uses
pub record Parts (s : Situation) : Type 0 where
  pub located : Located s.ball
  pub sized : Sized s.field
  pub y_fits : (side : Side) (n : ℕ) → FitsY (player_numbered (team_of s side) n).pose
  pub place_sizes : (side : Side) (n : ℕ) → is_player_number n ≡ true → Sizes.Fit s.field (player_numbered (team_of s side) n).pose
  pub wish_fits_holds : wish_fits s.wish ≡ true

-- what is asked of the values besides that the floats fit: the ranges of field, ball and seen poses, and the wished number
pub record InRange (s : Situation) : Type 0 where
  pub field_fits_holds : field_fits s.field ≡ true
  pub poses_fit_holds : (side : Side) (n : ℕ) → is_player_number n ≡ true → maybe_pose_fits (player_numbered (team_of s side) n).pose ≡ true
  pub ball_fits_holds : ball_fits s.ball ≡ true
  pub wish_fits_holds : wish_fits s.wish ≡ true

-- ---- a player by its number
-- the y of a pose that fits
seen_y : (p : Option PlayerPose) → SeenFit p → FitsY p
seen_y None h = tt
seen_y (Some p) h = h.y

numbered_y : (t : Team) → ((i : ℕ) → SeenFit (player_at t i).pose) → (n : ℕ) → FitsY (player_numbered t n).pose
numbered_y t h zero = tt
numbered_y t h (suc i) = seen_y (player_at t i).pose (h i)

-- the sizes that a penalty place asks for
module _ (f : FieldDimensions) (r : Ranges f) (fit : SizesFit f) where
  pose_sizes : (p : PlayerPose) → PoseFit p → pose_fits p ≡ true → PlaceSizes f p
  unfolding pose_fits
  pose_sizes p h e =
      let all = both_true (is_coordinate p.x && is_coordinate p.y && is_coordinate p.theta) (is_radius p.radius) e in
      let three = both_true (is_coordinate p.x && is_coordinate p.y) (is_coordinate p.theta) all.0 in
      let two = both_true (is_coordinate p.x) (is_coordinate p.y) three.0 in
      let radius = both_true (lt zero32 p.radius) (le p.radius one) all.1 in
      let width = both_true (le four f.width) (le f.width sixty_four) r.width_range in
      let border = both_true (le zero32 f.border_strip_width) (le f.border_strip_width sixty_four) r.border_range in
      record {
        width_fits = fit.width;
        width_least = width.0;
        width_most = width.1;
        border_fits = fit.border_strip_width;
        border_least = border.0;
        border_most = border.1;
        radius_fits = h.radius;
        radius_above = radius.0;
        radius_most = radius.1;
        y_no_nan = (coordinate_within p.y h.y two.1).number.no_nan;
      }

  seen_sizes : (p : Option PlayerPose) → SeenFit p → maybe_pose_fits p ≡ true → Sizes.Fit f p
  seen_sizes None h e = tt
  seen_sizes (Some p) h e = pose_sizes p h e

  numbered_sizes : (t : Team) → ((i : ℕ) → SeenFit (player_at t i).pose) → (n : ℕ) → maybe_pose_fits (player_numbered t n).pose ≡ true → Sizes.Fit f (player_numbered t n).pose
  numbered_sizes t h zero e = tt
  numbered_sizes t h (suc i) e = seen_sizes (player_at t i).pose (h i) e

-- ---- the parts
module _ (s : Situation) (fit : Fit s) (r : InRange s) where
  -- of the team of a side
  poses_fit_holds : (side : Side) (i : ℕ) → SeenFit (player_at (team_of s side) i).pose
  poses_fit_holds Home = fit.home
  poses_fit_holds Away = fit.away

  pub parts : Parts s
  parts =
      record {
        located = ball_located s.ball fit.ball.x fit.ball.y r.ball_fits_holds;
        sized = field_sized s.field fit.field.length fit.field.ball_radius r.field_fits_holds;
        y_fits = λ side. numbered_y (team_of s side) (poses_fit_holds side);
        place_sizes = λ side n k. numbered_sizes s.field (field_ranges s.field r.field_fits_holds) fit.field (team_of s side) (poses_fit_holds side) n (r.poses_fit_holds side n k);
        wish_fits_holds = r.wish_fits_holds;
      }

-- ---- acceptance
-- an accepted situation is in range
pub accepted_in_range : (s : Situation) (xs ys : List Float) → refusal_of s xs ys ≡ 0 → InRange s
accepted_in_range s xs ys e =
    let a = accepted s xs ys e in
    record {
      field_fits_holds = a.field_fits_holds;
      poses_fit_holds = λ side n k. numbered_fits (team_of s side) (team_fits_holds s xs ys a side) n k;
      ball_fits_holds = a.ball_fits_holds;
      wish_fits_holds = wished_fits s xs ys a;
    }
