-- The words of a situation: their names, where each begins, and the greatest value of each. Definitions only.
-- tools/words/make reads this file: docs/WORDS.md, include/referee_words.h, src/layout.rt and the tables of the tools are written from it.
use Rattle.std.specs.Prelude.{List, [], ◌∷◌, ◌++◌, ℕ}
use Rattle.lists.specs.Gather.{flat_to}

-- ---- the first word of each run, by its name; what it holds, and in brackets of which type the values are
-- the length of the field (float)
abbrev pub field_length : ℕ
field_length = 0

-- the width of the field (float)
abbrev pub field_width : ℕ
field_width = 1

-- the width of a goal (float)
abbrev pub goal_width : ℕ
goal_width = 2

-- the height of a goal (float)
abbrev pub goal_height : ℕ
goal_height = 3

-- the length of a goal area (float)
abbrev pub goal_area_length : ℕ
goal_area_length = 4

-- the width of a goal area (float)
abbrev pub goal_area_width : ℕ
goal_area_width = 5

-- the length of a penalty area (float)
abbrev pub penalty_area_length : ℕ
penalty_area_length = 6

-- the width of a penalty area (float)
abbrev pub penalty_area_width : ℕ
penalty_area_width = 7

-- the distance of a penalty mark from its goal line (float)
abbrev pub penalty_mark_distance : ℕ
penalty_mark_distance = 8

-- the radius of the centre circle (float)
abbrev pub center_circle_radius : ℕ
center_circle_radius = 9

-- the width of the border strip (float)
abbrev pub border_strip_width : ℕ
border_strip_width = 10

-- the radius of a mark (float)
abbrev pub mark_radius : ℕ
mark_radius = 11

-- the width of a line (float)
abbrev pub line_width : ℕ
line_width = 12

-- the radius of the ball (float)
abbrev pub ball_radius : ℕ
ball_radius = 13

-- the distance between placed players (float)
abbrev pub penalty_placement_distance : ℕ
penalty_placement_distance = 14

-- which goal Home defends (SideMapping)
abbrev pub sides : ℕ
sides = 15

-- the game is stopped (flag)
abbrev pub stopped : ℕ
stopped = 16

-- the phase (Phase)
abbrev pub phase : ℕ
phase = 17

-- the state (State)
abbrev pub state : ℕ
state = 18

-- the set play (SetPlay)
abbrev pub set_play : ℕ
set_play = 19

-- the kicking side (SideOrNone)
abbrev pub kicking_side : ℕ
kicking_side = 20

-- the goalkeepers of Home and of Away (NumberOrNone)
abbrev pub goalkeepers : ℕ
goalkeepers = 21

-- the penalties of the 40 players (Penalty)
abbrev pub penalties : ℕ
penalties = 23

-- the poses of the 40 players (pose)
abbrev pub poses : ℕ
poses = 63

-- the reference poses of the 40 players, for motion (pose)
abbrev pub references : ℕ
references = 263

-- the allowances of the 40 players (float)
abbrev pub allowances : ℕ
allowances = 463

-- which of the 40 players were inside their goal area (flag)
abbrev pub previously_inside : ℕ
previously_inside = 503

-- the ball: x, y, z (float)
abbrev pub ball : ℕ
ball = 543

-- the side that touched the ball last (SideOrNone)
abbrev pub last_contact : ℕ
last_contact = 546

-- a Restart record is present (flag)
abbrev pub restart : ℕ
restart = 547

-- the kind of the Restart (RestartKind)
abbrev pub restart_kind : ℕ
restart_kind = 548

-- the set play of the Restart (SetPlay)
abbrev pub restart_set_play : ℕ
restart_set_play = 549

-- the side of the Restart (Side)
abbrev pub restart_side : ℕ
restart_side = 550

-- the kicker of the Restart (NumberOrNone)
abbrev pub restart_kicker : ℕ
restart_kicker = 551

-- the kick position of the Restart: x, y (float)
abbrev pub kick_position : ℕ
kick_position = 552

-- other_touch of the Restart (flag)
abbrev pub other_touch : ℕ
other_touch = 554

-- kicker_touched_outside_center_circle of the Restart (flag)
abbrev pub kicker_touched_outside_center_circle : ℕ
kicker_touched_outside_center_circle = 555

-- kicker_touched_far_from_kick of the Restart (flag)
abbrev pub kicker_touched_far_from_kick : ℕ
kicker_touched_far_from_kick = 556

-- ball_moved_since_kick of the Restart (flag)
abbrev pub ball_moved_since_kick : ℕ
ball_moved_since_kick = 557

-- invalid goals are judged (flag)
abbrev pub invalid_goals_judged : ℕ
invalid_goals_judged = 558

-- the ball has rested since the kick (flag)
abbrev pub ball_rested : ℕ
ball_rested = 559

-- what is wished (Wish)
abbrev pub wish : ℕ
wish = 560

-- the wished side (wishes 3, 4, 5) (Side)
abbrev pub wished_side : ℕ
wished_side = 561

-- the wished player (wishes 3, 4) (number)
abbrev pub wished_player : ℕ
wished_player = 562

-- how many words a situation has
abbrev pub word_count : ℕ
word_count = 563

-- how many words a pose has: present, x, y, theta, radius
abbrev pub pose_words : ℕ
pose_words = 5

-- ---- the runs
-- the words of a group by their greatest values: one word, of which the least is 0; a float, which is any pattern; 0 or 1; a pose
abbrev pub up_to : ℕ → List ℕ
up_to n = n ∷ []

abbrev pub any_word : ℕ
any_word = 0xffff_ffff

abbrev pub float : List ℕ
float = up_to any_word

abbrev pub flag : List ℕ
flag = up_to 1

abbrev pub pose : List ℕ
pose = 1 ∷ any_word ∷ any_word ∷ any_word ∷ any_word ∷ []

-- a run: its first word, how many groups it has, and what a group is. Players are in the order Home 1 to 20, then Away 1 to 20
pub data Run : Type 0 where
  run : ℕ → ℕ → List ℕ → Run

-- the words of a situation
unfoldable pub layout : List Run
layout =
    run field_length 1 float
    ∷ run field_width 1 float
    ∷ run goal_width 1 float
    ∷ run goal_height 1 float
    ∷ run goal_area_length 1 float
    ∷ run goal_area_width 1 float
    ∷ run penalty_area_length 1 float
    ∷ run penalty_area_width 1 float
    ∷ run penalty_mark_distance 1 float
    ∷ run center_circle_radius 1 float
    ∷ run border_strip_width 1 float
    ∷ run mark_radius 1 float
    ∷ run line_width 1 float
    ∷ run ball_radius 1 float
    ∷ run penalty_placement_distance 1 float
    ∷ run sides 1 (up_to 1)
    ∷ run stopped 1 flag
    ∷ run phase 1 (up_to 4)
    ∷ run state 1 (up_to 5)
    ∷ run set_play 1 (up_to 7)
    ∷ run kicking_side 1 (up_to 2)
    ∷ run goalkeepers 2 (up_to 256)
    ∷ run penalties 40 (up_to 13)
    ∷ run poses 40 pose
    ∷ run references 40 pose
    ∷ run allowances 40 float
    ∷ run previously_inside 40 flag
    ∷ run ball 3 float
    ∷ run last_contact 1 (up_to 2)
    ∷ run restart 1 flag
    ∷ run restart_kind 1 (up_to 3)
    ∷ run restart_set_play 1 (up_to 7)
    ∷ run restart_side 1 (up_to 1)
    ∷ run restart_kicker 1 (up_to 256)
    ∷ run kick_position 2 float
    ∷ run other_touch 1 flag
    ∷ run kicker_touched_outside_center_circle 1 flag
    ∷ run kicker_touched_far_from_kick 1 flag
    ∷ run ball_moved_since_kick 1 flag
    ∷ run invalid_goals_judged 1 flag
    ∷ run ball_rested 1 flag
    ∷ run wish 1 (up_to 5)
    ∷ run wished_side 1 (up_to 1)
    ∷ run wished_player 1 (up_to 255)
    ∷ []

-- the greatest value of each word of some runs
unfoldable pub columns_of : List Run → List ℕ
columns_of [] = []
columns_of (run first groups group ∷ runs) = flat_to groups (λ k. group) ++ columns_of runs

-- the greatest value of each word of a situation
unfoldable pub columns : List ℕ
columns = columns_of layout
