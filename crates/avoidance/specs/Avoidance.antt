-- The avoidance region of a free kick: when it is in effect, who is in it, and by which test. Definitions only.
use Rattle.std.specs.Prelude.{Bool, true, false, not, ◌&&◌, Float, Option, None, Some}
use Rattle.std.specs.Float.Ieee.{neg, le}
use Rattle.floats.specs.Arithmetic.{◌+₃₂◌, ◌-₃₂◌, ◌*₃₂◌, half}
use Rattle.floats.specs.Leaves.{abs}
use Rattle.hypot.specs.Hypot.{hypot}
use Rattle.game.specs.Game.{opponent, is_side, is_shootout, is_playing, is_unpenalized}
use Rattle.game.specs.declared.Ball.{Ball}
use Rattle.game.specs.declared.FieldDimensions.{FieldDimensions}
use Rattle.game.specs.declared.Game.{Game}
use Rattle.game.specs.declared.Margins.{Margins}
use Rattle.game.specs.declared.Penalty.{Penalty}
use Rattle.game.specs.declared.Player.{Player}
use Rattle.game.specs.declared.PlayerPose.{PlayerPose}
use Rattle.game.specs.declared.SetPlay.{SetPlay}
use Rattle.game.specs.declared.SetPlay.TheVariants.{NoSetPlay, KickOff, DirectFreeKick, IndirectFreeKick, PenaltyKick, ThrowIn, GoalKick, CornerKick}
use Rattle.game.specs.declared.Side.{Side}
use Rattle.geometry.specs.Geometry.{side_to_sign, team_x, is_on_own_goal_line, in_circle, is_inside}
use Rattle.conditions.specs.Conditions.{first_of, is_avoidance}
use Rattle.conditions.specs.declared.Condition.{Condition}
use Rattle.conditions.specs.declared.Condition.TheVariants.{NoCondition, NearBall, InGoalKickArea, InAreaOfBall}

-- there is a side
abbrev pub is_some : Option Side → Bool
is_some None = false
is_some (Some side) = true

-- free kicks, goal kicks, corner kicks and throw-ins
abbrev pub has_avoidance_region : SetPlay → Bool
has_avoidance_region NoSetPlay = false
has_avoidance_region KickOff = false
has_avoidance_region DirectFreeKick = true
has_avoidance_region IndirectFreeKick = true
has_avoidance_region PenaltyKick = false
has_avoidance_region ThrowIn = true
has_avoidance_region GoalKick = true
has_avoidance_region CornerKick = true

-- a goal kick
abbrev pub is_goal_kick : SetPlay → Bool
is_goal_kick NoSetPlay = false
is_goal_kick KickOff = false
is_goal_kick DirectFreeKick = false
is_goal_kick IndirectFreeKick = false
is_goal_kick PenaltyKick = false
is_goal_kick ThrowIn = false
is_goal_kick GoalKick = true
is_goal_kick CornerKick = false

-- play runs outside a shoot-out, and a side takes a set play that has a region
unfoldable pub is_avoidance_region_active : Game → Bool
is_avoidance_region_active g = not (is_shootout g.phase) && is_playing g.state && not g.stopped && is_some g.kicking_side && has_avoidance_region g.set_play

-- the ball is in the penalty area of the team with this sign, its lines included
abbrev pub is_ball_in_own_penalty_area : Ball → FieldDimensions → Float → Bool
is_ball_in_own_penalty_area b f sign = le (sign *₃₂ b.x) (neg f.length *₃₂ half +₃₂ f.penalty_area_length) && le (abs b.y) (f.penalty_area_width *₃₂ half)

-- near the ball; at a goal kick in the kicking side's penalty area; in its own penalty area as the ball is. A player on its own goal line is exempt.
unfoldable pub region_condition : SetPlay → FieldDimensions → Ball → Float → PlayerPose → Margins → Condition
region_condition play f b sign p m =
    first_of (is_on_own_goal_line (team_x sign p) p f) NoCondition
    (first_of (in_circle (hypot (p.x -₃₂ b.x) (p.y -₃₂ b.y)) f p) NearBall
    (first_of (is_goal_kick play && is_inside m.opponent_penalty_area) InGoalKickArea
    (first_of (is_ball_in_own_penalty_area b f sign && is_inside m.own_penalty_area) InAreaOfBall NoCondition)))

-- the same where pose and margins are there
abbrev pub seen_region_condition : Option PlayerPose → Option Margins → Game → FieldDimensions → Ball → Side → Condition
seen_region_condition None m g f b side = NoCondition
seen_region_condition (Some p) None g f b side = NoCondition
seen_region_condition (Some p) (Some m) g f b side = region_condition g.set_play f b (side_to_sign side g.sides) p m

-- an unpenalised player of the side against which the kick is taken
abbrev pub must_avoid : Game → Side → Penalty → Bool
must_avoid g side penalty = is_avoidance_region_active g && is_side g.kicking_side (opponent side) && is_unpenalized penalty

-- the condition by which a player that has to keep out of the region is in it
unfoldable pub avoidance_condition : Game → FieldDimensions → Ball → Side → Player → Option Margins → Condition
avoidance_condition g f b side player m = first_of (must_avoid g side player.penalty) (seen_region_condition player.pose m g f b side) NoCondition

-- a player that has to keep out of the region is in it: one of the three conditions is told
unfoldable pub is_in_avoidance_region : Game → FieldDimensions → Ball → Side → Player → Option Margins → Bool
is_in_avoidance_region g f b side player m = is_avoidance (avoidance_condition g f b side player m)
