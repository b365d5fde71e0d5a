-- The field of case A in document 01, and situations on it. A float is written as a fraction of whole numbers. Definitions only.
use Rattle.std.specs.Prelude.{Bool, false, List, [], ℕ, replicate, Float, Option, None, Some}
use Rattle.std.specs.Float.{binary32}
use Rattle.std.specs.Float.Ieee.{div}
use Rattle.lists.specs.Put.{fronted}
use Rattle.floats.specs.Arithmetic.{zero32}
use Rattle.floats.specs.Leaves.{of_count}
use Rattle.game.specs.declared.Ball.{Ball}
use Rattle.game.specs.declared.FieldDimensions.{FieldDimensions}
use Rattle.game.specs.declared.Game.{Game}
use Rattle.game.specs.declared.Penalty.{Penalty}
use Rattle.game.specs.declared.Penalty.TheVariants.{NoPenalty}
use Rattle.game.specs.declared.Phase.TheVariants.{FirstHalf}
use Rattle.game.specs.declared.Player.{Player}
use Rattle.game.specs.declared.SetPlay.{SetPlay}
use Rattle.game.specs.declared.SideMapping.TheVariants.{HomeDefendsLeftGoal}
use Rattle.game.specs.declared.Situation.{Situation}
use Rattle.game.specs.declared.State.{State}
use Rattle.game.specs.declared.Team.{Team}
use Rattle.game.specs.declared.Wish.{Wish}
use Rattle.game.specs.declared.Side.{Side}
use Rattle.game.specs.declared.PlayerPose.{PlayerPose}

infix 8 ◌over◌
-- the binary32 of a fraction
abbrev pub ◌over◌ : ℕ → ℕ → Float
n over d = div binary32 (of_count n) (of_count d)

-- 14, 9, goal 2.5 wide and 1.75 high, goal area 1 by 4, penalty area 3 by 6, mark 2, circle 1.5, border 1, mark radius and line width 1/16, and this ball radius
abbrev pub field_with : Float → FieldDimensions
field_with radius =
    record {
      length = 14 over 1;
      width = 9 over 1;
      goal_width = 5 over 2;
      goal_height = 7 over 4;
      goal_area_length = 1 over 1;
      goal_area_width = 4 over 1;
      penalty_area_length = 3 over 1;
      penalty_area_width = 6 over 1;
      penalty_mark_distance = 2 over 1;
      center_circle_radius = 3 over 2;
      border_strip_width = 1 over 1;
      mark_radius = 1 over 16;
      line_width = 1 over 16;
      ball_radius = radius;
    }

-- with ball radius 1/8
abbrev pub field_a : FieldDimensions
field_a = field_with (1 over 8)

-- FirstHalf, not stopped, HomeDefendsLeftGoal
abbrev pub game_in : State → SetPlay → Option Side → Game
game_in state play kicking = record { sides = HomeDefendsLeftGoal; stopped = false; phase = FirstHalf; state = state; set_play = play; kicking_side = kicking }

-- allowance 0, no reference pose; the Bool tells whether the player was inside
abbrev pub player_with : Option PlayerPose → Penalty → Bool → Player
player_with pose penalty was = record { pose = pose; reference = None; penalty = penalty; allowance = zero32; previously_inside = was }

-- a pose of this radius at (x, y), heading 0
abbrev pub seen_of : Float → Float → Float → Option PlayerPose
seen_of radius x y = Some (record { x = x; y = y; theta = zero32; radius = radius })

-- of radius 0.25
abbrev pub seen_at : Float → Float → Option PlayerPose
seen_at = seen_of (1 over 4)

-- an unpenalised player there, who was not inside
abbrev pub at : Float → Float → Player
at x y = player_with (seen_at x y) NoPenalty false

-- one who is not there
abbrev pub absent : Player
absent = player_with None NoPenalty false

-- the first players of a team without a goalkeeper; the others are absent
abbrev pub team : List Player → Team
team l = record { players = fronted l (replicate 20 absent); goalkeeper = None }

-- Away absent, this distance, no restart, without which the two flags after it make no difference: document 01 leaves them open, and they are false
abbrev pub situation_apart : Float → FieldDimensions → Game → Team → Ball → Option Side → Wish → Situation
situation_apart distance f g home ball contact wish =
    record {
      field = f;
      penalty_placement_distance = distance;
      game = g;
      home = home;
      away = team [];
      ball = ball;
      last_contact = contact;
      restart = None;
      invalid_goals_judged = false;
      ball_rested = false;
      wish = wish;
    }

-- distance 1
abbrev pub situation_on : FieldDimensions → Game → Team → Ball → Option Side → Wish → Situation
situation_on = situation_apart (1 over 1)

-- on the field of A
abbrev pub situation : Game → Team → Ball → Option Side → Wish → Situation
situation = situation_on field_a
