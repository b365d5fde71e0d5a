-- Where the ball and the players are placed: binary32, each operation rounded once. Definitions only.
use Rattle.std.specs.Prelude.{Bool, true, false, not, cond, ◌&&◌, ℕ, Float, Option, None, Some}
use Rattle.std.specs.Float.Ieee.{neg, lt, le}
use Rattle.floats.specs.Arithmetic.{◌+₃₂◌, ◌-₃₂◌, ◌*₃₂◌, zero32, half, pi}
use Rattle.floats.specs.Leaves.{abs, copysign, clamp, maximum_number}
use Rattle.game.specs.Game.{same_side, is_shootout, is_unpenalized}
use Rattle.game.specs.Players.{player_numbered}
use Rattle.game.specs.declared.Ball.{Ball}
use Rattle.game.specs.declared.FieldDimensions.{FieldDimensions}
use Rattle.game.specs.declared.Game.{Game}
use Rattle.game.specs.declared.Penalty.{Penalty}
use Rattle.game.specs.declared.Player.{Player}
use Rattle.game.specs.declared.PlayerPose.{PlayerPose}
use Rattle.game.specs.declared.SetPlay.{SetPlay}
use Rattle.game.specs.declared.SetPlay.TheVariants.{NoSetPlay, KickOff, DirectFreeKick, IndirectFreeKick, PenaltyKick, ThrowIn, GoalKick, CornerKick}
use Rattle.game.specs.declared.Side.{Side}
use Rattle.game.specs.declared.SideMapping.{SideMapping}
use Rattle.game.specs.declared.Team.{Team}
use Rattle.geometry.specs.Geometry.{side_to_sign, team_x, is_on_own_goal_line, mark_x}
use Rattle.game.specs.declared.Placement.{Placement}
use Rattle.game.specs.declared.Placement.TheVariants.{NoPlace, BallAt, PlayerAt}

-- ---- the middles of lines; the sizes of the field reach to their outer edges
-- of a goal line
abbrev pub goal_line_x : FieldDimensions → Float
goal_line_x f = f.length *₃₂ half -₃₂ f.line_width *₃₂ half

-- of a touchline
abbrev pub touchline_y : FieldDimensions → Float
touchline_y f = f.width *₃₂ half -₃₂ f.line_width *₃₂ half

-- of the line of an area of this length that is parallel to the goal line
abbrev pub area_line_x : FieldDimensions → Float → Float
area_line_x f length = f.length *₃₂ half -₃₂ length +₃₂ f.line_width *₃₂ half

-- of the lines of an area of this width that are parallel to the touchlines
abbrev pub area_line_y : FieldDimensions → Float → Float
area_line_y f width = width *₃₂ half -₃₂ f.line_width *₃₂ half

-- ---- the ball in a set play that starts during Playing
-- the corner of the goal area that is on the ball's side either way
abbrev pub goal_kick_place : FieldDimensions → Ball → Placement
goal_kick_place f b = BallAt (copysign (area_line_x f f.goal_area_length) b.x) (copysign (area_line_y f f.goal_area_width) b.y) f.ball_radius

-- the corner of the field that is on the ball's side either way
abbrev pub corner_kick_place : FieldDimensions → Ball → Placement
corner_kick_place f b = BallAt (copysign (goal_line_x f) b.x) (copysign (touchline_y f) b.y) f.ball_radius

-- the touchline where the ball left the field, but not beyond the goal lines
abbrev pub throw_in_place : FieldDimensions → Ball → Placement
throw_in_place f b = BallAt (clamp b.x (neg (goal_line_x f)) (goal_line_x f)) (copysign (touchline_y f) b.y) f.ball_radius

-- where the ball is
abbrev pub own_place : FieldDimensions → Ball → Placement
own_place f b = BallAt b.x b.y f.ball_radius

-- the ball is inside the opponents' penalty area of the team with this sign
abbrev pub in_opponent_area : FieldDimensions → Ball → Float → Bool
in_opponent_area f b sign = lt (area_line_x f f.penalty_area_length) (sign *₃₂ b.x) && le (abs b.y) (area_line_y f f.penalty_area_width)

-- inside the opponents' penalty area the nearest point of its line parallel to the goal line, else where the ball is
abbrev pub area_free_kick_place : FieldDimensions → Ball → Float → Placement
area_free_kick_place f b sign = cond (in_opponent_area f b sign) (BallAt (sign *₃₂ area_line_x f f.penalty_area_length) b.y f.ball_radius) (own_place f b)

-- an indirect free kick, where the ball is if it is no side's
abbrev pub free_kick_place : FieldDimensions → Ball → Option Side → SideMapping → Placement
free_kick_place f b None sides = own_place f b
free_kick_place f b (Some side) sides = area_free_kick_place f b (side_to_sign side sides)

-- by the set play
abbrev pub restart_place : SetPlay → Option Side → SideMapping → FieldDimensions → Ball → Placement
restart_place NoSetPlay kicking sides f b = NoPlace
restart_place KickOff kicking sides f b = NoPlace
restart_place DirectFreeKick kicking sides f b = own_place f b
restart_place IndirectFreeKick kicking sides f b = free_kick_place f b kicking sides
restart_place PenaltyKick kicking sides f b = NoPlace
restart_place ThrowIn kicking sides f b = throw_in_place f b
restart_place GoalKick kicking sides f b = goal_kick_place f b
restart_place CornerKick kicking sides f b = corner_kick_place f b

-- the ball's place in a set play that starts during Playing
unfoldable pub ball_at_restart : Game → FieldDimensions → Ball → Placement
ball_at_restart g f b = restart_place g.set_play g.kicking_side g.sides f b

-- ---- the ball when Set is entered
-- the penalty mark that a side kicks from
abbrev pub mark_place : FieldDimensions → Side → SideMapping → Placement
mark_place f side sides = BallAt (side_to_sign side sides *₃₂ mark_x f) zero32 f.ball_radius

-- the center mark
abbrev pub center_place : FieldDimensions → Placement
center_place f = BallAt zero32 zero32 f.ball_radius

-- the mark of the kicking side, another place without one
abbrev pub mark_or : FieldDimensions → Option Side → SideMapping → Placement → Placement
mark_or f None sides other = other
mark_or f (Some side) sides other = mark_place f side sides

-- outside a shoot-out only kick-offs and penalty kicks are placed in Set; without a kicking side both are at the center mark
abbrev pub set_play_place : SetPlay → FieldDimensions → Option Side → SideMapping → Placement
set_play_place NoSetPlay f kicking sides = NoPlace
set_play_place KickOff f kicking sides = center_place f
set_play_place DirectFreeKick f kicking sides = NoPlace
set_play_place IndirectFreeKick f kicking sides = NoPlace
set_play_place PenaltyKick f kicking sides = mark_or f kicking sides (center_place f)
set_play_place ThrowIn f kicking sides = NoPlace
set_play_place GoalKick f kicking sides = NoPlace
set_play_place CornerKick f kicking sides = NoPlace

-- the ball's place when Set is entered: in a shoot-out the mark of the kicking side
unfoldable pub ball_in_set : Game → FieldDimensions → Placement
ball_in_set g f = cond (is_shootout g.phase) (mark_or f g.kicking_side g.sides NoPlace) (set_play_place g.set_play f g.kicking_side g.sides)

-- ---- a player in a penalty shot
-- towards the opponents' goal
abbrev pub heading : Float → Float
heading sign = cond (lt zero32 sign) zero32 pi

-- in its team's x: the striker is on the line of the opponents' penalty area, the goalkeeper on its own goal line
abbrev pub shot_x : FieldDimensions → Bool → Float
shot_x f true = area_line_x f f.penalty_area_length
shot_x f false = neg (goal_line_x f)

-- the place, where it is known which side kicks
abbrev pub shot_place : SideMapping → FieldDimensions → Side → ℕ → Side → Placement
shot_place sides f side number kicking = PlayerAt side number (side_to_sign side sides *₃₂ shot_x f (same_side side kicking)) zero32 (heading (side_to_sign side sides))

-- none without a kicking side and for an absent player
abbrev pub seen_shot_place : Option Side → Option PlayerPose → SideMapping → FieldDimensions → Side → ℕ → Placement
seen_shot_place None pose sides f side number = NoPlace
seen_shot_place (Some kicking) None sides f side number = NoPlace
seen_shot_place (Some kicking) (Some p) sides f side number = shot_place sides f side number kicking

-- the place of a player that is selected for a penalty shot
unfoldable pub penalty_shot_place : Game → FieldDimensions → Side → ℕ → Player → Placement
penalty_shot_place g f side number player = seen_shot_place g.kicking_side player.pose g.sides f side number

-- ---- the goalkeeper in a penalty kick
-- how far a player may stand from the middle of the goal
abbrev pub post_y : FieldDimensions → PlayerPose → Float
post_y f p = maximum_number (f.goal_width *₃₂ half -₃₂ p.radius) zero32

-- the point of the goal line that is nearest to the player and free of the goal posts, its heading kept
unfoldable pub keeper_place : FieldDimensions → Side → ℕ → Float → PlayerPose → Placement
keeper_place f side number sign p = PlayerAt side number (sign *₃₂ neg (goal_line_x f)) (clamp p.y (neg (post_y f p)) (post_y f p)) p.theta

-- none for a penalised goalkeeper and for one that is on its goal line already
abbrev pub checked_keeper_place : FieldDimensions → Side → ℕ → Float → Bool → PlayerPose → Placement
checked_keeper_place f side number sign unpenalized p = cond (unpenalized && not (is_on_own_goal_line (team_x sign p) p f)) (keeper_place f side number sign p) NoPlace

-- none for an absent one
abbrev pub seen_keeper_place : Option PlayerPose → SideMapping → FieldDimensions → Side → ℕ → Penalty → Placement
seen_keeper_place None sides f side number status = NoPlace
seen_keeper_place (Some p) sides f side number status = checked_keeper_place f side number (side_to_sign side sides) (is_unpenalized status) p

-- the place of the player with this number
abbrev pub numbered_keeper_place : ℕ → SideMapping → FieldDimensions → Side → Team → Placement
numbered_keeper_place number sides f side t = seen_keeper_place (player_numbered t number).pose sides f side number (player_numbered t number).penalty

-- none without a goalkeeper
abbrev pub maybe_keeper_place : Option ℕ → SideMapping → FieldDimensions → Side → Team → Placement
maybe_keeper_place None sides f side t = NoPlace
maybe_keeper_place (Some number) sides f side t = numbered_keeper_place number sides f side t

-- the place of a side's goalkeeper when Set is entered for a penalty kick
unfoldable pub penalty_goalkeeper_place : Game → FieldDimensions → Side → Team → Placement
unfolding keeper_place
penalty_goalkeeper_place g f side t = maybe_keeper_place t.goalkeeper g.sides f side t
