-- The four places change with the field: x and y change their signs, a zero's sign aside, and a given heading turns. Assumes nothing.
use mathlib.Core.Path.{◌≡◌, refl, ap, ◌∙◌}
use mathlib.Core.Logic.{inl}
use mathlib.Core.Bool.{Bool, true, false, not, cond, ◌&&◌}
use Prim.Native.Nat.{ℕ}
use lib.Dec.{T}
use lib.Ieee.{Float, binary32, neg, lt, fits, of_bits}
use lib.Ieee.Fits.{sub-fits}
use lib.Ieee.Bits.{of_bits-fits}
use Rattle.floats.specs.Arithmetic.{◌-₃₂◌, ◌*₃₂◌, zero32, half}
use Rattle.floats.specs.Values.{Number}
use Rattle.floats.proofs.Laws.MinMax.{max_fits}
use Rattle.game.specs.Players.{player_numbered}
use Rattle.game.specs.Game.{same_side, is_shootout, is_unpenalized}
use Rattle.game.specs.declared.Ball.{Ball}
use Rattle.game.specs.declared.FieldDimensions.{FieldDimensions}
use Rattle.game.specs.declared.Game.{Game}
use Rattle.game.specs.declared.Penalty.{Penalty}
use Rattle.game.specs.declared.Player.{Player}
use Rattle.game.specs.declared.PlayerPose.{PlayerPose}
use Rattle.game.specs.declared.SetPlay.{SetPlay}
use Rattle.game.specs.declared.SetPlay.TheVariants.{NoSetPlay, KickOff, DirectFreeKick, IndirectFreeKick, PenaltyKick, ThrowIn, GoalKick, CornerKick}
use Rattle.game.specs.declared.Side.{Side}
use Rattle.game.specs.declared.Side.TheVariants.{Home, Away}
use Rattle.game.specs.declared.SideMapping.{SideMapping}
use Rattle.game.specs.declared.SideMapping.TheVariants.{HomeDefendsLeftGoal, HomeDefendsRightGoal}
use Rattle.game.specs.declared.Team.{Team}
use Rattle.geometry.specs.Geometry.{side_to_sign, team_x, is_on_own_goal_line, mark_x}
use Rattle.geometry.specs.Turned.{signed, changed_pose, changed_maybe_pose, changed_player, changed_team, changed_ball, changed_ends, changed_game}
use Rattle.geometry.proofs.Turned.{abs_changed, team_changed, sign_changed, goal_line_changed, numbered_changed}
use Rattle.places.specs.Places.{goal_line_x, touchline_y, area_line_x, area_line_y, in_opponent_area, area_free_kick_place, free_kick_place, restart_place, ball_at_restart, mark_place, center_place, mark_or, set_play_place, ball_in_set, heading, shot_x, seen_shot_place, penalty_shot_place, post_y, keeper_place, checked_keeper_place, seen_keeper_place, maybe_keeper_place, penalty_goalkeeper_place}
use Rattle.places.specs.Turned.{GivenHeading, from_zero, from_pi, ChangedPlace, none, ball, player}
use Rattle.game.specs.declared.Placement.{Placement}
use Rattle.places.proofs.Signs.{place_changed, copysign_changed, clamp_changed, zero_changed}
use Rattle.std.specs.Prelude.{Option, None, Some}

-- ---- what is asked
-- x and y of the ball are numbers
pub record Located (b : Ball) : Type 0 where
  pub x_number : Number binary32 b.x
  pub y_number : Number binary32 b.y

-- the y of a pose, where there is one, is a binary32, as every f32 is
abbrev pub FitsY : Option PlayerPose → Type 0
FitsY None = T true
FitsY (Some p) = T (fits binary32 p.y)

-- ---- the ball
module _ (a b : Bool) (H : Float → Float → Type 0) where
  -- of two places one
  chosen : (t : Bool) {p q p' q' : Placement} → ChangedPlace a b H p p' → ChangedPlace a b H q q' → ChangedPlace a b H (cond t p q) (cond t p' q')
  chosen true c d = c
  chosen false c d = d

  module _ (f : FieldDimensions) where
    area_changed : (o : Ball) (s : Float) → in_opponent_area f (changed_ball a b o) (signed a s) ≡ in_opponent_area f o s
    area_changed o s = cc (team_changed a s o.x, abs_changed b o.y)

    area_free_kick_changed : (o : Ball) (s : Float) → ChangedPlace a b H (area_free_kick_place f o s) (area_free_kick_place f (changed_ball a b o) (signed a s))
    area_free_kick_changed o s =
        rw (area_changed o s) (chosen (in_opponent_area f o s) (ball (inl (place_changed a s (area_line_x f f.penalty_area_length))) (inl refl)) (ball (inl refl) (inl refl)))

    free_kick_changed : (o : Ball) (kicking : Option Side) (sides : SideMapping) → ChangedPlace a b H (free_kick_place f o kicking sides) (free_kick_place f (changed_ball a b o) kicking (changed_ends a sides))
    free_kick_changed o None sides = ball (inl refl) (inl refl)
    free_kick_changed o (Some side) sides = rw (sign_changed a side sides) (area_free_kick_changed o (side_to_sign side sides))

    restart_changed : (play : SetPlay) (kicking : Option Side) (sides : SideMapping) (o : Ball) → Located o → ChangedPlace a b H (restart_place play kicking sides f o) (restart_place play kicking (changed_ends a sides) f (changed_ball a b o))
    restart_changed NoSetPlay kicking sides o n = none
    restart_changed KickOff kicking sides o n = none
    restart_changed DirectFreeKick kicking sides o n = ball (inl refl) (inl refl)
    restart_changed IndirectFreeKick kicking sides o n = free_kick_changed o kicking sides
    restart_changed PenaltyKick kicking sides o n = none
    restart_changed ThrowIn kicking sides o n =
        ball (inl (clamp_changed a o.x (goal_line_x f) n.x_number.fit (sub-fits binary32 (f.length *₃₂ half) (f.line_width *₃₂ half)))) (inl (copysign_changed b (touchline_y f) o.y n.y_number.no_nan))
    restart_changed GoalKick kicking sides o n =
        ball (inl (copysign_changed a (area_line_x f f.goal_area_length) o.x n.x_number.no_nan)) (inl (copysign_changed b (area_line_y f f.goal_area_width) o.y n.y_number.no_nan))
    restart_changed CornerKick kicking sides o n =
        ball (inl (copysign_changed a (goal_line_x f) o.x n.x_number.no_nan)) (inl (copysign_changed b (touchline_y f) o.y n.y_number.no_nan))

    pub ball_at_restart_changed : (g : Game) (o : Ball) → Located o → ChangedPlace a b H (ball_at_restart g f o) (ball_at_restart (changed_game a g) f (changed_ball a b o))
    unfolding ball_at_restart
    ball_at_restart_changed g o n = restart_changed g.set_play g.kicking_side g.sides o n

    mark_changed : (side : Side) (sides : SideMapping) → ChangedPlace a b H (mark_place f side sides) (mark_place f side (changed_ends a sides))
    mark_changed side sides = ball (inl (ap (λ (s : Float). s *₃₂ mark_x f) (sign_changed a side sides) ∙ place_changed a (side_to_sign side sides) (mark_x f))) (zero_changed b)

    mark_or_changed : (kicking : Option Side) (sides : SideMapping) {p q : Placement} → ChangedPlace a b H p q → ChangedPlace a b H (mark_or f kicking sides p) (mark_or f kicking (changed_ends a sides) q)
    mark_or_changed None sides c = c
    mark_or_changed (Some side) sides c = mark_changed side sides

    center_changed : ChangedPlace a b H (center_place f) (center_place f)
    center_changed = ball (zero_changed a) (zero_changed b)

    set_play_changed : (play : SetPlay) (kicking : Option Side) (sides : SideMapping) → ChangedPlace a b H (set_play_place play f kicking sides) (set_play_place play f kicking (changed_ends a sides))
    set_play_changed NoSetPlay kicking sides = none
    set_play_changed KickOff kicking sides = center_changed
    set_play_changed DirectFreeKick kicking sides = none
    set_play_changed IndirectFreeKick kicking sides = none
    set_play_changed PenaltyKick kicking sides = mark_or_changed kicking sides center_changed
    set_play_changed ThrowIn kicking sides = none
    set_play_changed GoalKick kicking sides = none
    set_play_changed CornerKick kicking sides = none

    pub ball_in_set_changed : (g : Game) → ChangedPlace a b H (ball_in_set g f) (ball_in_set (changed_game a g) f)
    unfolding ball_in_set
    ball_in_set_changed g = chosen (is_shootout g.phase) (mark_or_changed g.kicking_side g.sides none) (set_play_changed g.set_play g.kicking_side g.sides)

    -- ---- a player in a penalty shot, where H tells what becomes of the heading
    module _ (turns : (side : Side) (sides : SideMapping) → H (heading (side_to_sign side sides)) (heading (side_to_sign side (changed_ends a sides)))) where
      seen_shot_changed : (kicking : Option Side) (pose : Option PlayerPose) (sides : SideMapping) (side : Side) (number : ℕ) → ChangedPlace a b H (seen_shot_place kicking pose sides f side number) (seen_shot_place kicking (changed_maybe_pose a b pose) (changed_ends a sides) f side number)
      seen_shot_changed None pose sides side number = none
      seen_shot_changed (Some kicking) None sides side number = none
      seen_shot_changed (Some kicking) (Some p) sides side number =
          let x = shot_x f (same_side side kicking) in
          player (inl (ap (λ (s : Float). s *₃₂ x) (sign_changed a side sides) ∙ place_changed a (side_to_sign side sides) x)) (zero_changed b) (turns side sides)

      pub penalty_shot_changed : (g : Game) (side : Side) (number : ℕ) (q : Player) → ChangedPlace a b H (penalty_shot_place g f side number q) (penalty_shot_place (changed_game a g) f side number (changed_player a b q))
      unfolding penalty_shot_place
      penalty_shot_changed g side number q = seen_shot_changed g.kicking_side q.pose g.sides side number

-- ---- the goalkeeper, whose heading is kept
module _ (a b : Bool) (H : Float → Float → Type 0) (kept : (theta : Float) → H theta theta) (f : FieldDimensions) (side : Side) where
  keeper_changed : (number : ℕ) (s : Float) (p : PlayerPose) → T (fits binary32 p.y) → ChangedPlace a b H (keeper_place f side number s p) (keeper_place f side number (signed a s) (changed_pose a b p))
  unfolding keeper_place
  keeper_changed number s p n =
      let reach : T (fits binary32 (post_y f p)) = max_fits binary32 (f.goal_width *₃₂ half -₃₂ p.radius) zero32 (sub-fits binary32 (f.goal_width *₃₂ half) p.radius) (of_bits-fits binary32 0) in
      player (inl (place_changed a s (neg (goal_line_x f)))) (inl (clamp_changed b p.y (post_y f p) n reach)) (kept p.theta)

  on_line_changed : (s : Float) (p : PlayerPose) → is_on_own_goal_line (team_x (signed a s) (changed_pose a b p)) (changed_pose a b p) f ≡ is_on_own_goal_line (team_x s p) p f
  on_line_changed s p =
      ap (λ (x : Float). is_on_own_goal_line x (changed_pose a b p) f) (team_changed a s p.x) ∙ goal_line_changed a b (team_x s p) p f

  checked_changed : (number : ℕ) (s : Float) (unpenalized : Bool) (p : PlayerPose) → T (fits binary32 p.y) → ChangedPlace a b H (checked_keeper_place f side number s unpenalized p) (checked_keeper_place f side number (signed a s) unpenalized (changed_pose a b p))
  checked_changed number s unpenalized p n = rw (on_line_changed s p) (chosen a b H (unpenalized && not (is_on_own_goal_line (team_x s p) p f)) (keeper_changed number s p n) none)

  seen_keeper_changed : (pose : Option PlayerPose) (sides : SideMapping) (number : ℕ) (status : Penalty) → FitsY pose → ChangedPlace a b H (seen_keeper_place pose sides f side number status) (seen_keeper_place (changed_maybe_pose a b pose) (changed_ends a sides) f side number status)
  seen_keeper_changed None sides number status n = none
  seen_keeper_changed (Some p) sides number status n = rw (sign_changed a side sides) (checked_changed number (side_to_sign side sides) (is_unpenalized status) p n)

  maybe_keeper_changed : (goalkeeper : Option ℕ) (sides : SideMapping) (t : Team) → ((number : ℕ) → FitsY (player_numbered t number).pose) → ChangedPlace a b H (maybe_keeper_place goalkeeper sides f side t) (maybe_keeper_place goalkeeper (changed_ends a sides) f side (changed_team a b t))
  maybe_keeper_changed None sides t n = none
  maybe_keeper_changed (Some number) sides t n =
      rw (numbered_changed a b t number) (seen_keeper_changed (player_numbered t number).pose sides number (player_numbered t number).penalty (n number))

  pub penalty_goalkeeper_changed : (g : Game) (t : Team) → ((number : ℕ) → FitsY (player_numbered t number).pose) → ChangedPlace a b H (penalty_goalkeeper_place g f side t) (penalty_goalkeeper_place (changed_game a g) f side (changed_team a b t))
  unfolding penalty_goalkeeper_place
  penalty_goalkeeper_changed g t n = maybe_keeper_changed t.goalkeeper g.sides t n

-- ---- the heading of a penalty shot
pub heading_changed : (a b : Bool) (side : Side) (sides : SideMapping) → GivenHeading a b (heading (side_to_sign side sides)) (heading (side_to_sign side (changed_ends a sides)))
unfolding lt neg of_bits
heading_changed true b Home HomeDefendsLeftGoal = from_pi
heading_changed true b Home HomeDefendsRightGoal = from_zero
heading_changed true b Away HomeDefendsLeftGoal = from_zero
heading_changed true b Away HomeDefendsRightGoal = from_pi
heading_changed false b Home HomeDefendsLeftGoal = from_pi
heading_changed false b Home HomeDefendsRightGoal = from_zero
heading_changed false b Away HomeDefendsLeftGoal = from_zero
heading_changed false b Away HomeDefendsRightGoal = from_pi
