-- The situation that words of 32 bits are, by the layout of the crate `columns`. Definitions only.
use Rattle.std.specs.Prelude.{Bool, cond, List, [], ◌∷◌, ℕ, ◌+◌, ◌*◌, ltb, eqb, get_or, Float, Option, None, Some}
use Rattle.std.specs.Float.{binary32}
use Rattle.std.specs.Float.Ieee.{of_bits}
use Rattle.lists.specs.Table.{table}
use Rattle.columns.specs.Layout as At
use Rattle.game.specs.declared.Side.{Side}
use Rattle.game.specs.declared.Side.TheVariants.{Home, Away}
use Rattle.game.specs.declared.SideMapping.{SideMapping}
use Rattle.game.specs.declared.SideMapping.TheVariants.{HomeDefendsLeftGoal, HomeDefendsRightGoal}
use Rattle.game.specs.declared.Phase.{Phase}
use Rattle.game.specs.declared.Phase.TheVariants.{FirstHalf, SecondHalf, FirstExtraHalf, SecondExtraHalf, PenaltyShootout}
use Rattle.game.specs.declared.State.{State}
use Rattle.game.specs.declared.State.TheVariants.{Initial, Ready, Set, Playing, Finished, Timeout}
use Rattle.game.specs.declared.SetPlay.{SetPlay}
use Rattle.game.specs.declared.SetPlay.TheVariants.{NoSetPlay, KickOff, DirectFreeKick, IndirectFreeKick, PenaltyKick, ThrowIn, GoalKick, CornerKick}
use Rattle.game.specs.declared.Penalty.{Penalty}
use Rattle.game.specs.declared.Penalty.TheVariants.{NoPenalty, IllegalPositioning, MotionInSet, MotionInStop, LocalGameStuck, IncapableRobot, PickedUp, BallHolding, LeavingTheField, PlayingWithArmsHands, Pushing, Cautioned, SentOff, Substitute}
use Rattle.game.specs.declared.FieldDimensions.{FieldDimensions}
use Rattle.game.specs.declared.PlayerPose.{PlayerPose}
use Rattle.game.specs.declared.Player.{Player}
use Rattle.game.specs.declared.Team.{Team}
use Rattle.game.specs.declared.Game.{Game}
use Rattle.game.specs.declared.Ball.{Ball}
use Rattle.game.specs.declared.RestartKind.{RestartKind}
use Rattle.game.specs.declared.RestartKind.TheVariants as kind
use Rattle.game.specs.declared.Restart.{Restart}
use Rattle.game.specs.declared.Wish.{Wish}
use Rattle.game.specs.declared.Wish.TheVariants.{Nothing, BallAtRestart, BallInSet, ForPenalty, ForPenaltyShot, Goalkeeper}
use Rattle.game.specs.declared.Situation.{Situation}

-- the word at a place, and 0 past the end
unfoldable pub word_at : List ℕ → ℕ → ℕ
word_at ws i = get_or ws i 0

-- ---- the value of a word; one that is none of its column's values gives the first of them, or none
-- 0 Home, 1 Away
unfoldable pub side_of : ℕ → Side
side_of w = cond (eqb w 1) Away Home

-- 0 HomeDefendsLeftGoal, 1 HomeDefendsRightGoal
unfoldable pub sides_of : ℕ → SideMapping
sides_of w = cond (eqb w 1) HomeDefendsRightGoal HomeDefendsLeftGoal

-- the enums in the order of types.rs
abbrev pub phases : List Phase
phases = FirstHalf ∷ SecondHalf ∷ FirstExtraHalf ∷ SecondExtraHalf ∷ PenaltyShootout ∷ []

unfoldable pub phase_of : ℕ → Phase
phase_of w = get_or phases w FirstHalf

abbrev pub states : List State
states = Initial ∷ Ready ∷ Set ∷ Playing ∷ Finished ∷ Timeout ∷ []

unfoldable pub state_of : ℕ → State
state_of w = get_or states w Initial

abbrev pub set_plays : List SetPlay
set_plays = NoSetPlay ∷ KickOff ∷ DirectFreeKick ∷ IndirectFreeKick ∷ PenaltyKick ∷ ThrowIn ∷ GoalKick ∷ CornerKick ∷ []

unfoldable pub set_play_of : ℕ → SetPlay
set_play_of w = get_or set_plays w NoSetPlay

abbrev pub penalties : List Penalty
penalties =
    NoPenalty
    ∷ IllegalPositioning
    ∷ MotionInSet
    ∷ MotionInStop
    ∷ LocalGameStuck
    ∷ IncapableRobot
    ∷ PickedUp
    ∷ BallHolding
    ∷ LeavingTheField
    ∷ PlayingWithArmsHands
    ∷ Pushing
    ∷ Cautioned
    ∷ SentOff
    ∷ Substitute
    ∷ []

unfoldable pub penalty_of : ℕ → Penalty
penalty_of w = get_or penalties w NoPenalty

abbrev pub restart_kinds : List RestartKind
restart_kinds = kind.KickOff ∷ kind.Indirect ∷ kind.Direct ∷ kind.PenaltyShot ∷ []

unfoldable pub restart_kind_of : ℕ → RestartKind
restart_kind_of w = get_or restart_kinds w kind.KickOff

-- 0 Home, 1 Away, 2 none
unfoldable pub maybe_side_of : ℕ → Option Side
maybe_side_of w = cond (ltb w 2) (Some (side_of w)) None

-- the number, from 256 on none
unfoldable pub maybe_number_of : ℕ → Option ℕ
maybe_number_of w = cond (ltb w 256) (Some w) None

-- the number, from 256 on 0
unfoldable pub number_of : ℕ → ℕ
number_of w = cond (ltb w 256) w 0

-- ---- the records, from their places
-- any pattern is a float
unfoldable pub float_at : List ℕ → ℕ → Float
float_at ws i = of_bits binary32 (word_at ws i)

-- 1 is true
unfoldable pub flag_at : List ℕ → ℕ → Bool
flag_at ws i = eqb (word_at ws i) 1

-- the sizes of the field
unfoldable pub field_of : List ℕ → FieldDimensions
field_of ws =
    record {
      length = float_at ws At.field_length;
      width = float_at ws At.field_width;
      goal_width = float_at ws At.goal_width;
      goal_height = float_at ws At.goal_height;
      goal_area_length = float_at ws At.goal_area_length;
      goal_area_width = float_at ws At.goal_area_width;
      penalty_area_length = float_at ws At.penalty_area_length;
      penalty_area_width = float_at ws At.penalty_area_width;
      penalty_mark_distance = float_at ws At.penalty_mark_distance;
      center_circle_radius = float_at ws At.center_circle_radius;
      border_strip_width = float_at ws At.border_strip_width;
      mark_radius = float_at ws At.mark_radius;
      line_width = float_at ws At.line_width;
      ball_radius = float_at ws At.ball_radius;
    }

-- the game without its teams
unfoldable pub game_of : List ℕ → Game
game_of ws =
    record {
      sides = sides_of (word_at ws At.sides);
      stopped = flag_at ws At.stopped;
      phase = phase_of (word_at ws At.phase);
      state = state_of (word_at ws At.state);
      set_play = set_play_of (word_at ws At.set_play);
      kicking_side = maybe_side_of (word_at ws At.kicking_side);
    }

-- the four words of a pose
unfoldable pub pose_at : List ℕ → ℕ → PlayerPose
pose_at ws i = record { x = float_at ws i; y = float_at ws (i + 1); theta = float_at ws (i + 2); radius = float_at ws (i + 3) }

-- a pose with the word before it, which says whether it is there
unfoldable pub pose_if_at : List ℕ → ℕ → Option PlayerPose
pose_if_at ws i = cond (flag_at ws i) (Some (pose_at ws (i + 1))) None

-- the player k of the 40
unfoldable pub player_of : List ℕ → ℕ → Player
player_of ws k =
    record {
      pose = pose_if_at ws (At.poses + At.pose_words * k);
      reference = pose_if_at ws (At.references + At.pose_words * k);
      penalty = penalty_of (word_at ws (At.penalties + k));
      allowance = float_at ws (At.allowances + k);
      previously_inside = flag_at ws (At.previously_inside + k);
    }

-- the players and the goalkeeper of Home (0) or Away (1), whose players are the 20 from 20 on
unfoldable pub team_in : List ℕ → ℕ → Team
team_in ws side = record { players = table 20 (λ k. player_of ws (20 * side + k)); goalkeeper = maybe_number_of (word_at ws (At.goalkeepers + side)) }

-- the ball
unfoldable pub ball_of : List ℕ → Ball
ball_of ws = record { x = float_at ws At.ball; y = float_at ws (At.ball + 1); z = float_at ws (At.ball + 2) }

-- the Restart record
unfoldable pub restart_of : List ℕ → Restart
restart_of ws =
    record {
      kind = restart_kind_of (word_at ws At.restart_kind);
      set_play = set_play_of (word_at ws At.restart_set_play);
      side = side_of (word_at ws At.restart_side);
      kicker = maybe_number_of (word_at ws At.restart_kicker);
      kick_x = float_at ws At.kick_position;
      kick_y = float_at ws (At.kick_position + 1);
      other_touch = flag_at ws At.other_touch;
      kicker_touched_outside_center_circle = flag_at ws At.kicker_touched_outside_center_circle;
      kicker_touched_far_from_kick = flag_at ws At.kicker_touched_far_from_kick;
      ball_moved_since_kick = flag_at ws At.ball_moved_since_kick;
    }

-- the record, where it is there
unfoldable pub maybe_restart_of : List ℕ → Option Restart
maybe_restart_of ws = cond (flag_at ws At.restart) (Some (restart_of ws)) None

-- the wishes in their order, each with the side and the number that it names
abbrev pub wishes : Side → ℕ → List Wish
wishes side number = Nothing ∷ BallAtRestart ∷ BallInSet ∷ ForPenalty side number ∷ ForPenaltyShot side number ∷ Goalkeeper side ∷ []

unfoldable pub wish_from : ℕ → Side → ℕ → Wish
wish_from w side number = get_or (wishes side number) w Nothing

-- the wish
unfoldable pub wish_of : List ℕ → Wish
wish_of ws = wish_from (word_at ws At.wish) (side_of (word_at ws At.wished_side)) (number_of (word_at ws At.wished_player))

-- the situation that the words are
unfoldable pub situation_of : List ℕ → Situation
situation_of ws =
    record {
      field = field_of ws;
      penalty_placement_distance = float_at ws At.penalty_placement_distance;
      game = game_of ws;
      home = team_in ws 0;
      away = team_in ws 1;
      ball = ball_of ws;
      last_contact = maybe_side_of (word_at ws At.last_contact);
      restart = maybe_restart_of ws;
      invalid_goals_judged = flag_at ws At.invalid_goals_judged;
      ball_rested = flag_at ws At.ball_rested;
      wish = wish_of ws;
    }
