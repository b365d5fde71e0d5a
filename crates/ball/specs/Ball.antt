-- What is called when the ball leaves the field: binary32, each operation rounded once. Definitions only.
use Rattle.std.specs.Prelude.{Bool, true, false, not, cond, ◌&&◌, ◌||◌, ℕ, leb, Float, Option, None, Some}
use Rattle.std.specs.Float.Ieee.{lt}
use Rattle.floats.specs.Arithmetic.{◌+₃₂◌, ◌*₃₂◌, zero32, half}
use Rattle.floats.specs.Leaves.{abs}
use Rattle.game.specs.Game.{opponent, same_side, is_side, is_shootout, is_playing}
use Rattle.game.specs.declared.Ball.{Ball}
use Rattle.game.specs.declared.FieldDimensions.{FieldDimensions}
use Rattle.game.specs.declared.Game.{Game}
use Rattle.game.specs.declared.Restart.{Restart}
use Rattle.game.specs.declared.RestartKind.{RestartKind}
use Rattle.game.specs.declared.RestartKind.TheVariants.{KickOff, Indirect, Direct, PenaltyShot}
use Rattle.game.specs.declared.Side.{Side}
use Rattle.game.specs.declared.Side.TheVariants.{Home, Away}
use Rattle.game.specs.declared.SideMapping.{SideMapping}
use Rattle.game.specs.declared.SideMapping.TheVariants.{HomeDefendsLeftGoal, HomeDefendsRightGoal}
use Rattle.geometry.specs.Geometry.{side_to_sign}
use Rattle.game.specs.declared.BallJudgment.{BallJudgment}
use Rattle.game.specs.declared.BallJudgment.TheVariants.{NoJudgment, Goal, GoalKick, CornerKick, ThrowIn, EndOfPenaltyShot}

-- ---- goals
-- A team may score before another player has touched the ball: from a kick-off with at most two players on the field, once its kicker touched the ball outside the center circle,
-- be it with the first touch; from an indirect restart once the Restart record says that its kicker touched the ball again far from the kick.
abbrev pub may_score : RestartKind → Restart → ℕ → Bool
may_score KickOff r players = r.kicker_touched_outside_center_circle && leb players 2
may_score Indirect r players = r.kicker_touched_far_from_kick
may_score Direct r players = true
may_score PenaltyShot r players = true

-- the restart is a penalty shot
abbrev pub is_penalty_shot : RestartKind → Bool
is_penalty_shot KickOff = false
is_penalty_shot Indirect = false
is_penalty_shot Direct = false
is_penalty_shot PenaltyShot = true

-- a team may not score an own goal directly from its restart: the other side has a corner kick. None is a goal that counts, at a penalty shot
abbrev pub judge_own_goal : RestartKind → Side → Option BallJudgment
judge_own_goal kind scoring = cond (is_penalty_shot kind) None (Some (CornerKick scoring))

-- None is a goal that counts. Once another player has touched the ball, every goal counts. Before, an own goal and a goal of a team that may not score do not.
unfoldable pub judge_restart_goal : Restart → Side → ℕ → Option BallJudgment
judge_restart_goal r scoring players =
    cond r.other_touch None
    (cond (same_side r.side (opponent scoring)) (judge_own_goal r.kind scoring)
    (cond (may_score r.kind r players) None (Some (GoalKick (opponent scoring)))))

-- a goal for a side, where the Bool tells whether invalid goals are judged at all; None is a goal that counts
abbrev pub judge_goal : Bool → Option Restart → Side → ℕ → Option BallJudgment
judge_goal false r scoring players = None
judge_goal true None scoring players = None
judge_goal true (Some r) scoring players = judge_restart_goal r scoring players

-- a goal, or what is called in its stead
abbrev pub goal_or_instead : Option BallJudgment → Side → BallJudgment
goal_or_instead None scoring = Goal scoring
goal_or_instead (Some j) scoring = j

-- ---- where the ball is
-- the whole ball is past a goal line: strictly beyond half the length and the ball's radius
abbrev pub past_goal_line : FieldDimensions → Ball → Bool
past_goal_line f b = lt (f.length *₃₂ half +₃₂ f.ball_radius) (abs b.x)

-- the whole ball is past a touchline, by half the width
abbrev pub past_touchline : FieldDimensions → Ball → Bool
past_touchline f b = lt (f.width *₃₂ half +₃₂ f.ball_radius) (abs b.y)

-- the whole ball is between the goal posts and under the crossbar
abbrev pub in_goal : FieldDimensions → Ball → Bool
in_goal f b = lt (abs b.y +₃₂ f.ball_radius) (f.goal_width *₃₂ half) && lt (b.z +₃₂ f.ball_radius) f.goal_height

-- the side that defends the left goal, or the right one
abbrev pub defender_of : SideMapping → Bool → Side
defender_of HomeDefendsLeftGoal true = Home
defender_of HomeDefendsLeftGoal false = Away
defender_of HomeDefendsRightGoal true = Away
defender_of HomeDefendsRightGoal false = Home

-- the side in whose half the ball is; the left half is that of positive x, and x zero is in the right one
abbrev pub defending_side : SideMapping → Ball → Side
defending_side sides b = defender_of sides (lt zero32 b.x)

-- ---- in a penalty shoot-out
-- somebody has kicked
abbrev pub has_kicker : Option ℕ → Bool
has_kicker None = false
has_kicker (Some n) = true

-- a penalty shot that was taken
abbrev pub is_taken_shot : Restart → Bool
is_taken_shot r = is_penalty_shot r.kind && has_kicker r.kicker

-- a penalty shot is in effect, and it was taken
abbrev pub shot_taken : Option Restart → Bool
shot_taken None = false
shot_taken (Some r) = is_taken_shot r

-- A goal for the kicking side if the ball is in the goal that it kicks at, which is at positive x of its team. Else the shot ends once the ball is out or the shot is over.
unfoldable pub judge_shot : Side → Float → FieldDimensions → Ball → Bool → BallJudgment
judge_shot kicking sign f b over =
    cond (past_goal_line f b && lt zero32 (sign *₃₂ b.x) && in_goal f b) (Goal kicking) (cond (past_goal_line f b || past_touchline f b || over) EndOfPenaltyShot NoJudgment)

-- none without a kicking side; a shot is over when the ball has rested after it was taken
abbrev pub judge_shootout : Option Side → SideMapping → FieldDimensions → Ball → Option Restart → Bool → BallJudgment
judge_shootout None sides f b r rested = NoJudgment
judge_shootout (Some kicking) sides f b r rested = judge_shot kicking (side_to_sign kicking sides) f b (shot_taken r && rested)

-- ---- in play
-- the players of a side on the field
abbrev pub players_of : Side → ℕ → ℕ → ℕ
players_of Home home away = home
players_of Away home away = away

-- past the goal line beside the goal: a corner kick if the defending side touched the ball last, else a goal kick
abbrev pub goal_line_restart : Option Side → Side → BallJudgment
goal_line_restart contact defending = cond (is_side contact defending) (CornerKick (opponent defending)) (GoalKick defending)

-- the opponents of the side that touched the ball last throw in; if none did, the side in whose half the ball is
abbrev pub throw_in_side : Option Side → Side → Side
throw_in_side None defending = defending
throw_in_side (Some side) defending = opponent side

-- past the goal line: in the goal, which counts for the opponents of the defending side, or beside it
abbrev pub judge_goal_line : Bool → Option BallJudgment → Option Side → Side → BallJudgment
judge_goal_line inside goal contact defending = cond inside (goal_or_instead goal (opponent defending)) (goal_line_restart contact defending)

-- past the goal line, else past a touchline, else nothing
unfoldable pub judge_half : FieldDimensions → Ball → Option BallJudgment → Option Side → Side → BallJudgment
judge_half f b goal contact defending =
    cond (past_goal_line f b) (judge_goal_line (in_goal f b) goal contact defending) (cond (past_touchline f b) (ThrowIn (throw_in_side contact defending)) NoJudgment)

-- by the side in whose half the ball is
abbrev pub judge_play : Side → FieldDimensions → Ball → Option Side → Option Restart → Bool → ℕ → ℕ → BallJudgment
judge_play defending f b contact restart judged home away =
    judge_half f b (judge_goal judged restart (opponent defending) (players_of (opponent defending) home away)) contact defending

-- ---- in every phase
-- in Playing, and not stopped
abbrev pub is_running : Game → Bool
is_running g = is_playing g.state && not g.stopped

-- what is called; `judged` tells whether invalid goals are judged, `rested` whether the ball has rested since the kick
unfoldable pub ball_judgment : Game → FieldDimensions → Ball → Option Side → Option Restart → Bool → Bool → ℕ → ℕ → BallJudgment
unfolding judge_shot judge_half judge_restart_goal
ball_judgment g f b contact restart judged rested home away =
    cond (is_running g) (cond (is_shootout g.phase) (judge_shootout g.kicking_side g.sides f b restart rested) (judge_play (defending_side g.sides b) f b contact restart judged home away)) NoJudgment
