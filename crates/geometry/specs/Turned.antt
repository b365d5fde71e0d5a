-- The field turned half round, and its mirror image in y, as one change: x changes its sign where a is true, and y where b is; the signs of zeros too.
-- Where x changes its sign, each side defends the other goal. Definitions only.
use Rattle.std.specs.Prelude.{Bool, true, false, map, Float, Option, None, Some}
use Rattle.std.specs.Float.Ieee.{neg}
use Rattle.game.specs.declared.Ball.{Ball}
use Rattle.game.specs.declared.Game.{Game}
use Rattle.game.specs.declared.Player.{Player}
use Rattle.game.specs.declared.PlayerPose.{PlayerPose}
use Rattle.game.specs.declared.SideMapping.{SideMapping}
use Rattle.game.specs.declared.SideMapping.TheVariants.{HomeDefendsLeftGoal, HomeDefendsRightGoal}
use Rattle.game.specs.declared.Team.{Team}

-- the value, its sign changed where a is true
abbrev pub signed : Bool → Float → Float
signed true x = neg x
signed false x = x

-- a pose, its heading kept
abbrev pub changed_pose : Bool → Bool → PlayerPose → PlayerPose
changed_pose a b p = record { x = signed a p.x; y = signed b p.y; theta = p.theta; radius = p.radius }

-- a pose that may be missing, seen or for motion
abbrev pub changed_maybe_pose : Bool → Bool → Option PlayerPose → Option PlayerPose
changed_maybe_pose a b None = None
changed_maybe_pose a b (Some p) = Some (changed_pose a b p)

-- both poses of a player
abbrev pub changed_player : Bool → Bool → Player → Player
changed_player a b q =
    record {
      pose = changed_maybe_pose a b q.pose;
      reference = changed_maybe_pose a b q.reference;
      penalty = q.penalty;
      allowance = q.allowance;
      previously_inside = q.previously_inside;
    }

-- all players of a team
abbrev pub changed_team : Bool → Bool → Team → Team
changed_team a b t = record { players = map (changed_player a b) t.players; goalkeeper = t.goalkeeper }

-- the ball, its height kept
abbrev pub changed_ball : Bool → Bool → Ball → Ball
changed_ball a b ball = record { x = signed a ball.x; y = signed b ball.y; z = ball.z }

-- each side defends the other goal
abbrev pub exchanged : SideMapping → SideMapping
exchanged HomeDefendsLeftGoal = HomeDefendsRightGoal
exchanged HomeDefendsRightGoal = HomeDefendsLeftGoal

-- the ends, exchanged where a is true
abbrev pub changed_ends : Bool → SideMapping → SideMapping
changed_ends true sides = exchanged sides
changed_ends false sides = sides

-- the game, its ends exchanged where a is true
abbrev pub changed_game : Bool → Game → Game
changed_game a g =
    record {
      sides = changed_ends a g.sides;
      stopped = g.stopped;
      phase = g.phase;
      state = g.state;
      set_play = g.set_play;
      kicking_side = g.kicking_side;
    }
