-- What it says of a situation that it is not refused: each requirement holds, and with it the ranges. Assumes nothing.
use mathlib.Core.Path.{◌≡◌, refl}
use mathlib.Core.Bool.{true, ◌&&◌}
use mathlib.Core.List.{List}
use Prim.Native.Nat.{ℕ, zero, suc, ◌<◌}
use native.Mathlib.Omega.{arith}
use borrow.Author.Tests.{leb-true}
use lib.Dec.{leb}
use lib.Ieee.{Float}
use Rattle.lists.proofs.Bools.{both_true, left_true, right_true}
use Rattle.lists.proofs.Every.{every_at}
use Rattle.lists.proofs.Refusals.{all_hold_holds}
use Rattle.floats.specs.Arithmetic.{zero32, one, four, sixty_four}
use Rattle.game.specs.Players.{player_at, team_of, player_numbered}
use Rattle.game.specs.declared.FieldDimensions.{FieldDimensions}
use Rattle.game.specs.declared.Side.{Side}
use Rattle.game.specs.declared.Side.TheVariants.{Home, Away}
use Rattle.game.specs.declared.Situation.{Situation}
use Rattle.game.specs.declared.Team.{Team}
use Rattle.refusals.specs.Refusals.{within, is_size, is_coordinate, is_player_number, maybe_pose_fits, player_fits, team_fits, poses_fit, lists_fit, field_fits, ball_fits, numbers_fit, wish_fits, restart_fits, number_fits, distance_fits, five, requirements_of, refusal_of}

-- ---- the five requirements
pub record Accepted (s : Situation) (xs ys : List Float) : Type 0 where
  pub field_fits_holds : field_fits s.field ≡ true
  pub poses_fit_holds : poses_fit s.home s.away xs ys ≡ true
  pub ball_fits_holds : ball_fits s.ball ≡ true
  pub numbers_fit_holds : numbers_fit s.home.goalkeeper s.away.goalkeeper s.restart s.wish ≡ true
  pub distance_fits_holds : distance_fits s.penalty_placement_distance ≡ true

pub accepted : (s : Situation) (xs ys : List Float) → refusal_of s xs ys ≡ 0 → Accepted s xs ys
unfolding refusal_of requirements_of
accepted s xs ys e =
    let one = both_true (field_fits s.field) _ (all_hold_holds (five (field_fits s.field) (poses_fit s.home s.away xs ys) (ball_fits s.ball) (numbers_fit s.home.goalkeeper s.away.goalkeeper s.restart s.wish) (distance_fits s.penalty_placement_distance)) refl e) in
    let two = both_true (poses_fit s.home s.away xs ys) _ one.1 in
    let three = both_true (ball_fits s.ball) _ two.1 in
    let four = both_true (numbers_fit s.home.goalkeeper s.away.goalkeeper s.restart s.wish) _ three.1 in
    record { field_fits_holds = one.0; poses_fit_holds = two.0; ball_fits_holds = three.0; numbers_fit_holds = four.0; distance_fits_holds = left_true (distance_fits s.penalty_placement_distance) true four.1 }

-- ---- the field: the ranges that laws ask for
pub record Ranges (f : FieldDimensions) : Type 0 where
  pub length_range : within four f.length sixty_four ≡ true
  pub width_range : within four f.width sixty_four ≡ true
  pub goal_range : is_size f.goal_width ≡ true
  pub goal_area_length_range : is_size f.goal_area_length ≡ true
  pub goal_area_width_range : is_size f.goal_area_width ≡ true
  pub penalty_area_length_range : is_size f.penalty_area_length ≡ true
  pub penalty_area_width_range : is_size f.penalty_area_width ≡ true
  pub mark_range : is_size f.penalty_mark_distance ≡ true
  pub border_range : is_size f.border_strip_width ≡ true
  pub line_range : within zero32 f.line_width one ≡ true
  pub radius_range : is_size f.ball_radius ≡ true

pub field_ranges : (f : FieldDimensions) → field_fits f ≡ true → Ranges f
unfolding field_fits
field_ranges f e =
    let a = both_true _ _ e in
    let b = both_true _ _ a.0 in
    let c = both_true _ _ b.0 in
    let d = both_true _ _ c.0 in
    let g = both_true _ _ d.0 in
    let h = both_true _ _ g.0 in
    let i = both_true _ _ h.0 in
    let j = both_true _ _ i.0 in
    let k = both_true _ _ j.0 in
    let l = both_true _ _ k.0 in
    let m = both_true _ _ l.0 in
    let n = both_true _ _ m.0 in
    let o = both_true _ _ n.0 in
    record {
      length_range = o.0;
      width_range = o.1;
      goal_range = n.1;
      goal_area_length_range = l.1;
      goal_area_width_range = k.1;
      penalty_area_length_range = j.1;
      penalty_area_width_range = i.1;
      mark_range = h.1;
      border_range = d.1;
      line_range = b.1;
      radius_range = a.1;
    }

-- ---- a player by its number, which names one of the twenty, whose pose was looked at
pub numbered_fits : (t : Team) → team_fits t ≡ true → (n : ℕ) → is_player_number n ≡ true → maybe_pose_fits (player_numbered t n).pose ≡ true
numbered_fits t e zero k = refl
numbered_fits t e (suc i) k = left_true (maybe_pose_fits (player_at t i).pose) (maybe_pose_fits (player_at t i).reference) (left_true (maybe_pose_fits (player_at t i).pose && maybe_pose_fits (player_at t i).reference) (is_coordinate (player_at t i).allowance) each)
  where
    small : i < 20
    small = omega (arith, leb-true (suc i) 20 (both_true (leb 1 (suc i)) (leb (suc i) 20) k).1)

    each : player_fits (player_at t i) ≡ true
    each = unfold team_fits in every_at 20 (λ j. player_fits (player_at t j)) e i small

module _ (s : Situation) (xs ys : List Float) (a : Accepted s xs ys) where
  teams_fit : (team_fits s.home ≡ true) × (team_fits s.away ≡ true)
  teams_fit = both_true (team_fits s.home) (team_fits s.away) (unfold poses_fit in left_true (team_fits s.home && team_fits s.away) (lists_fit xs ys) a.poses_fit_holds)

  pub team_fits_holds : (side : Side) → team_fits (team_of s side) ≡ true
  team_fits_holds Home = teams_fit.0
  team_fits_holds Away = teams_fit.1

  -- the number that is wished
  pub wished_fits : wish_fits s.wish ≡ true
  wished_fits = unfold numbers_fit in right_true (number_fits s.home.goalkeeper && number_fits s.away.goalkeeper && restart_fits s.restart) (wish_fits s.wish) a.numbers_fit_holds
