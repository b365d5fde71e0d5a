-- The names of a situation's words, run by run. Definitions only.
-- Made by tools/words/make from crates/columns/specs/Layout.antt. Change that and not this file.
use Rattle.std.specs.Prelude.{List, [], ◌∷◌, ℕ}
use Rattle.columns.specs.Layout.{field_length, field_width, goal_width, goal_height, goal_area_length, goal_area_width, penalty_area_length, penalty_area_width, penalty_mark_distance, center_circle_radius, border_strip_width, mark_radius, line_width, ball_radius, penalty_placement_distance, sides, stopped, phase, state, set_play, kicking_side, goalkeepers, penalties, poses, references, allowances, previously_inside, ball, last_contact, restart, restart_kind, restart_set_play, restart_side, restart_kicker, kick_position, other_touch, kicker_touched_outside_center_circle, kicker_touched_far_from_kick, ball_moved_since_kick, invalid_goals_judged, ball_rested, wish, wished_side, wished_player}
use Rattle.replies.specs.Labels.{nobody, side, player, Named, named}

-- "field length"
abbrev pub field_length_name : List ℕ
field_length_name = 102 ∷ 105 ∷ 101 ∷ 108 ∷ 100 ∷ 32 ∷ 108 ∷ 101 ∷ 110 ∷ 103 ∷ 116 ∷ 104 ∷ []

-- "field width"
abbrev pub field_width_name : List ℕ
field_width_name = 102 ∷ 105 ∷ 101 ∷ 108 ∷ 100 ∷ 32 ∷ 119 ∷ 105 ∷ 100 ∷ 116 ∷ 104 ∷ []

-- "goal width"
abbrev pub goal_width_name : List ℕ
goal_width_name = 103 ∷ 111 ∷ 97 ∷ 108 ∷ 32 ∷ 119 ∷ 105 ∷ 100 ∷ 116 ∷ 104 ∷ []

-- "goal height"
abbrev pub goal_height_name : List ℕ
goal_height_name = 103 ∷ 111 ∷ 97 ∷ 108 ∷ 32 ∷ 104 ∷ 101 ∷ 105 ∷ 103 ∷ 104 ∷ 116 ∷ []

-- "goal area length"
abbrev pub goal_area_length_name : List ℕ
goal_area_length_name = 103 ∷ 111 ∷ 97 ∷ 108 ∷ 32 ∷ 97 ∷ 114 ∷ 101 ∷ 97 ∷ 32 ∷ 108 ∷ 101 ∷ 110 ∷ 103 ∷ 116 ∷ 104 ∷ []

-- "goal area width"
abbrev pub goal_area_width_name : List ℕ
goal_area_width_name = 103 ∷ 111 ∷ 97 ∷ 108 ∷ 32 ∷ 97 ∷ 114 ∷ 101 ∷ 97 ∷ 32 ∷ 119 ∷ 105 ∷ 100 ∷ 116 ∷ 104 ∷ []

-- "penalty area length"
abbrev pub penalty_area_length_name : List ℕ
penalty_area_length_name = 112 ∷ 101 ∷ 110 ∷ 97 ∷ 108 ∷ 116 ∷ 121 ∷ 32 ∷ 97 ∷ 114 ∷ 101 ∷ 97 ∷ 32 ∷ 108 ∷ 101 ∷ 110 ∷ 103 ∷ 116 ∷ 104 ∷ []

-- "penalty area width"
abbrev pub penalty_area_width_name : List ℕ
penalty_area_width_name = 112 ∷ 101 ∷ 110 ∷ 97 ∷ 108 ∷ 116 ∷ 121 ∷ 32 ∷ 97 ∷ 114 ∷ 101 ∷ 97 ∷ 32 ∷ 119 ∷ 105 ∷ 100 ∷ 116 ∷ 104 ∷ []

-- "penalty mark distance"
abbrev pub penalty_mark_distance_name : List ℕ
penalty_mark_distance_name = 112 ∷ 101 ∷ 110 ∷ 97 ∷ 108 ∷ 116 ∷ 121 ∷ 32 ∷ 109 ∷ 97 ∷ 114 ∷ 107 ∷ 32 ∷ 100 ∷ 105 ∷ 115 ∷ 116 ∷ 97 ∷ 110 ∷ 99 ∷ 101 ∷ []

-- "center circle radius"
abbrev pub center_circle_radius_name : List ℕ
center_circle_radius_name = 99 ∷ 101 ∷ 110 ∷ 116 ∷ 101 ∷ 114 ∷ 32 ∷ 99 ∷ 105 ∷ 114 ∷ 99 ∷ 108 ∷ 101 ∷ 32 ∷ 114 ∷ 97 ∷ 100 ∷ 105 ∷ 117 ∷ 115 ∷ []

-- "border strip width"
abbrev pub border_strip_width_name : List ℕ
border_strip_width_name = 98 ∷ 111 ∷ 114 ∷ 100 ∷ 101 ∷ 114 ∷ 32 ∷ 115 ∷ 116 ∷ 114 ∷ 105 ∷ 112 ∷ 32 ∷ 119 ∷ 105 ∷ 100 ∷ 116 ∷ 104 ∷ []

-- "mark radius"
abbrev pub mark_radius_name : List ℕ
mark_radius_name = 109 ∷ 97 ∷ 114 ∷ 107 ∷ 32 ∷ 114 ∷ 97 ∷ 100 ∷ 105 ∷ 117 ∷ 115 ∷ []

-- "line width"
abbrev pub line_width_name : List ℕ
line_width_name = 108 ∷ 105 ∷ 110 ∷ 101 ∷ 32 ∷ 119 ∷ 105 ∷ 100 ∷ 116 ∷ 104 ∷ []

-- "ball radius"
abbrev pub ball_radius_name : List ℕ
ball_radius_name = 98 ∷ 97 ∷ 108 ∷ 108 ∷ 32 ∷ 114 ∷ 97 ∷ 100 ∷ 105 ∷ 117 ∷ 115 ∷ []

-- "penalty placement distance"
abbrev pub penalty_placement_distance_name : List ℕ
penalty_placement_distance_name = 112 ∷ 101 ∷ 110 ∷ 97 ∷ 108 ∷ 116 ∷ 121 ∷ 32 ∷ 112 ∷ 108 ∷ 97 ∷ 99 ∷ 101 ∷ 109 ∷ 101 ∷ 110 ∷ 116 ∷ 32 ∷ 100 ∷ 105 ∷ 115 ∷ 116 ∷ 97 ∷ 110 ∷ 99 ∷ 101 ∷ []

-- "sides"
abbrev pub sides_name : List ℕ
sides_name = 115 ∷ 105 ∷ 100 ∷ 101 ∷ 115 ∷ []

-- "stopped"
abbrev pub stopped_name : List ℕ
stopped_name = 115 ∷ 116 ∷ 111 ∷ 112 ∷ 112 ∷ 101 ∷ 100 ∷ []

-- "phase"
abbrev pub phase_name : List ℕ
phase_name = 112 ∷ 104 ∷ 97 ∷ 115 ∷ 101 ∷ []

-- "state"
abbrev pub state_name : List ℕ
state_name = 115 ∷ 116 ∷ 97 ∷ 116 ∷ 101 ∷ []

-- "set play"
abbrev pub set_play_name : List ℕ
set_play_name = 115 ∷ 101 ∷ 116 ∷ 32 ∷ 112 ∷ 108 ∷ 97 ∷ 121 ∷ []

-- "kicking side"
abbrev pub kicking_side_name : List ℕ
kicking_side_name = 107 ∷ 105 ∷ 99 ∷ 107 ∷ 105 ∷ 110 ∷ 103 ∷ 32 ∷ 115 ∷ 105 ∷ 100 ∷ 101 ∷ []

-- "goalkeeper"
abbrev pub goalkeeper_name : List ℕ
goalkeeper_name = 103 ∷ 111 ∷ 97 ∷ 108 ∷ 107 ∷ 101 ∷ 101 ∷ 112 ∷ 101 ∷ 114 ∷ []

-- "penalty"
abbrev pub penalty_name : List ℕ
penalty_name = 112 ∷ 101 ∷ 110 ∷ 97 ∷ 108 ∷ 116 ∷ 121 ∷ []

-- "present"
abbrev pub present_name : List ℕ
present_name = 112 ∷ 114 ∷ 101 ∷ 115 ∷ 101 ∷ 110 ∷ 116 ∷ []

-- "x"
abbrev pub x_name : List ℕ
x_name = 120 ∷ []

-- "y"
abbrev pub y_name : List ℕ
y_name = 121 ∷ []

-- "theta"
abbrev pub theta_name : List ℕ
theta_name = 116 ∷ 104 ∷ 101 ∷ 116 ∷ 97 ∷ []

-- "radius"
abbrev pub radius_name : List ℕ
radius_name = 114 ∷ 97 ∷ 100 ∷ 105 ∷ 117 ∷ 115 ∷ []

-- "reference present"
abbrev pub reference_present_name : List ℕ
reference_present_name = 114 ∷ 101 ∷ 102 ∷ 101 ∷ 114 ∷ 101 ∷ 110 ∷ 99 ∷ 101 ∷ 32 ∷ 112 ∷ 114 ∷ 101 ∷ 115 ∷ 101 ∷ 110 ∷ 116 ∷ []

-- "reference x"
abbrev pub reference_x_name : List ℕ
reference_x_name = 114 ∷ 101 ∷ 102 ∷ 101 ∷ 114 ∷ 101 ∷ 110 ∷ 99 ∷ 101 ∷ 32 ∷ 120 ∷ []

-- "reference y"
abbrev pub reference_y_name : List ℕ
reference_y_name = 114 ∷ 101 ∷ 102 ∷ 101 ∷ 114 ∷ 101 ∷ 110 ∷ 99 ∷ 101 ∷ 32 ∷ 121 ∷ []

-- "reference theta"
abbrev pub reference_theta_name : List ℕ
reference_theta_name = 114 ∷ 101 ∷ 102 ∷ 101 ∷ 114 ∷ 101 ∷ 110 ∷ 99 ∷ 101 ∷ 32 ∷ 116 ∷ 104 ∷ 101 ∷ 116 ∷ 97 ∷ []

-- "reference radius"
abbrev pub reference_radius_name : List ℕ
reference_radius_name = 114 ∷ 101 ∷ 102 ∷ 101 ∷ 114 ∷ 101 ∷ 110 ∷ 99 ∷ 101 ∷ 32 ∷ 114 ∷ 97 ∷ 100 ∷ 105 ∷ 117 ∷ 115 ∷ []

-- "allowance"
abbrev pub allowance_name : List ℕ
allowance_name = 97 ∷ 108 ∷ 108 ∷ 111 ∷ 119 ∷ 97 ∷ 110 ∷ 99 ∷ 101 ∷ []

-- "previously inside"
abbrev pub previously_inside_name : List ℕ
previously_inside_name = 112 ∷ 114 ∷ 101 ∷ 118 ∷ 105 ∷ 111 ∷ 117 ∷ 115 ∷ 108 ∷ 121 ∷ 32 ∷ 105 ∷ 110 ∷ 115 ∷ 105 ∷ 100 ∷ 101 ∷ []

-- "ball x"
abbrev pub ball_x_name : List ℕ
ball_x_name = 98 ∷ 97 ∷ 108 ∷ 108 ∷ 32 ∷ 120 ∷ []

-- "ball y"
abbrev pub ball_y_name : List ℕ
ball_y_name = 98 ∷ 97 ∷ 108 ∷ 108 ∷ 32 ∷ 121 ∷ []

-- "ball z"
abbrev pub ball_z_name : List ℕ
ball_z_name = 98 ∷ 97 ∷ 108 ∷ 108 ∷ 32 ∷ 122 ∷ []

-- "last contact"
abbrev pub last_contact_name : List ℕ
last_contact_name = 108 ∷ 97 ∷ 115 ∷ 116 ∷ 32 ∷ 99 ∷ 111 ∷ 110 ∷ 116 ∷ 97 ∷ 99 ∷ 116 ∷ []

-- "restart"
abbrev pub restart_name : List ℕ
restart_name = 114 ∷ 101 ∷ 115 ∷ 116 ∷ 97 ∷ 114 ∷ 116 ∷ []

-- "restart kind"
abbrev pub restart_kind_name : List ℕ
restart_kind_name = 114 ∷ 101 ∷ 115 ∷ 116 ∷ 97 ∷ 114 ∷ 116 ∷ 32 ∷ 107 ∷ 105 ∷ 110 ∷ 100 ∷ []

-- "restart set play"
abbrev pub restart_set_play_name : List ℕ
restart_set_play_name = 114 ∷ 101 ∷ 115 ∷ 116 ∷ 97 ∷ 114 ∷ 116 ∷ 32 ∷ 115 ∷ 101 ∷ 116 ∷ 32 ∷ 112 ∷ 108 ∷ 97 ∷ 121 ∷ []

-- "restart side"
abbrev pub restart_side_name : List ℕ
restart_side_name = 114 ∷ 101 ∷ 115 ∷ 116 ∷ 97 ∷ 114 ∷ 116 ∷ 32 ∷ 115 ∷ 105 ∷ 100 ∷ 101 ∷ []

-- "restart kicker"
abbrev pub restart_kicker_name : List ℕ
restart_kicker_name = 114 ∷ 101 ∷ 115 ∷ 116 ∷ 97 ∷ 114 ∷ 116 ∷ 32 ∷ 107 ∷ 105 ∷ 99 ∷ 107 ∷ 101 ∷ 114 ∷ []

-- "kick position x"
abbrev pub kick_position_x_name : List ℕ
kick_position_x_name = 107 ∷ 105 ∷ 99 ∷ 107 ∷ 32 ∷ 112 ∷ 111 ∷ 115 ∷ 105 ∷ 116 ∷ 105 ∷ 111 ∷ 110 ∷ 32 ∷ 120 ∷ []

-- "kick position y"
abbrev pub kick_position_y_name : List ℕ
kick_position_y_name = 107 ∷ 105 ∷ 99 ∷ 107 ∷ 32 ∷ 112 ∷ 111 ∷ 115 ∷ 105 ∷ 116 ∷ 105 ∷ 111 ∷ 110 ∷ 32 ∷ 121 ∷ []

-- "other touch"
abbrev pub other_touch_name : List ℕ
other_touch_name = 111 ∷ 116 ∷ 104 ∷ 101 ∷ 114 ∷ 32 ∷ 116 ∷ 111 ∷ 117 ∷ 99 ∷ 104 ∷ []

-- "kicker touched outside center circle"
abbrev pub kicker_touched_outside_center_circle_name : List ℕ
kicker_touched_outside_center_circle_name = 107 ∷ 105 ∷ 99 ∷ 107 ∷ 101 ∷ 114 ∷ 32 ∷ 116 ∷ 111 ∷ 117 ∷ 99 ∷ 104 ∷ 101 ∷ 100 ∷ 32 ∷ 111 ∷ 117 ∷ 116 ∷ 115 ∷ 105 ∷ 100 ∷ 101 ∷ 32 ∷ 99 ∷ 101 ∷ 110 ∷ 116 ∷ 101 ∷ 114 ∷ 32 ∷ 99 ∷ 105 ∷ 114 ∷ 99 ∷ 108 ∷ 101 ∷ []

-- "kicker touched far from kick"
abbrev pub kicker_touched_far_from_kick_name : List ℕ
kicker_touched_far_from_kick_name = 107 ∷ 105 ∷ 99 ∷ 107 ∷ 101 ∷ 114 ∷ 32 ∷ 116 ∷ 111 ∷ 117 ∷ 99 ∷ 104 ∷ 101 ∷ 100 ∷ 32 ∷ 102 ∷ 97 ∷ 114 ∷ 32 ∷ 102 ∷ 114 ∷ 111 ∷ 109 ∷ 32 ∷ 107 ∷ 105 ∷ 99 ∷ 107 ∷ []

-- "ball moved since kick"
abbrev pub ball_moved_since_kick_name : List ℕ
ball_moved_since_kick_name = 98 ∷ 97 ∷ 108 ∷ 108 ∷ 32 ∷ 109 ∷ 111 ∷ 118 ∷ 101 ∷ 100 ∷ 32 ∷ 115 ∷ 105 ∷ 110 ∷ 99 ∷ 101 ∷ 32 ∷ 107 ∷ 105 ∷ 99 ∷ 107 ∷ []

-- "invalid goals judged"
abbrev pub invalid_goals_judged_name : List ℕ
invalid_goals_judged_name = 105 ∷ 110 ∷ 118 ∷ 97 ∷ 108 ∷ 105 ∷ 100 ∷ 32 ∷ 103 ∷ 111 ∷ 97 ∷ 108 ∷ 115 ∷ 32 ∷ 106 ∷ 117 ∷ 100 ∷ 103 ∷ 101 ∷ 100 ∷ []

-- "ball rested"
abbrev pub ball_rested_name : List ℕ
ball_rested_name = 98 ∷ 97 ∷ 108 ∷ 108 ∷ 32 ∷ 114 ∷ 101 ∷ 115 ∷ 116 ∷ 101 ∷ 100 ∷ []

-- "wish"
abbrev pub wish_name : List ℕ
wish_name = 119 ∷ 105 ∷ 115 ∷ 104 ∷ []

-- "wished side"
abbrev pub wished_side_name : List ℕ
wished_side_name = 119 ∷ 105 ∷ 115 ∷ 104 ∷ 101 ∷ 100 ∷ 32 ∷ 115 ∷ 105 ∷ 100 ∷ 101 ∷ []

-- "wished player"
abbrev pub wished_player_name : List ℕ
wished_player_name = 119 ∷ 105 ∷ 115 ∷ 104 ∷ 101 ∷ 100 ∷ 32 ∷ 112 ∷ 108 ∷ 97 ∷ 121 ∷ 101 ∷ 114 ∷ []

-- the names of all words
unfoldable pub names : List Named
names =
    named field_length nobody (field_length_name ∷ [])
    ∷ named field_width nobody (field_width_name ∷ [])
    ∷ named goal_width nobody (goal_width_name ∷ [])
    ∷ named goal_height nobody (goal_height_name ∷ [])
    ∷ named goal_area_length nobody (goal_area_length_name ∷ [])
    ∷ named goal_area_width nobody (goal_area_width_name ∷ [])
    ∷ named penalty_area_length nobody (penalty_area_length_name ∷ [])
    ∷ named penalty_area_width nobody (penalty_area_width_name ∷ [])
    ∷ named penalty_mark_distance nobody (penalty_mark_distance_name ∷ [])
    ∷ named center_circle_radius nobody (center_circle_radius_name ∷ [])
    ∷ named border_strip_width nobody (border_strip_width_name ∷ [])
    ∷ named mark_radius nobody (mark_radius_name ∷ [])
    ∷ named line_width nobody (line_width_name ∷ [])
    ∷ named ball_radius nobody (ball_radius_name ∷ [])
    ∷ named penalty_placement_distance nobody (penalty_placement_distance_name ∷ [])
    ∷ named sides nobody (sides_name ∷ [])
    ∷ named stopped nobody (stopped_name ∷ [])
    ∷ named phase nobody (phase_name ∷ [])
    ∷ named state nobody (state_name ∷ [])
    ∷ named set_play nobody (set_play_name ∷ [])
    ∷ named kicking_side nobody (kicking_side_name ∷ [])
    ∷ named goalkeepers side (goalkeeper_name ∷ [])
    ∷ named penalties player (penalty_name ∷ [])
    ∷ named poses player (present_name ∷ x_name ∷ y_name ∷ theta_name ∷ radius_name ∷ [])
    ∷ named references player (reference_present_name ∷ reference_x_name ∷ reference_y_name ∷ reference_theta_name ∷ reference_radius_name ∷ [])
    ∷ named allowances player (allowance_name ∷ [])
    ∷ named previously_inside player (previously_inside_name ∷ [])
    ∷ named ball nobody (ball_x_name ∷ ball_y_name ∷ ball_z_name ∷ [])
    ∷ named last_contact nobody (last_contact_name ∷ [])
    ∷ named restart nobody (restart_name ∷ [])
    ∷ named restart_kind nobody (restart_kind_name ∷ [])
    ∷ named restart_set_play nobody (restart_set_play_name ∷ [])
    ∷ named restart_side nobody (restart_side_name ∷ [])
    ∷ named restart_kicker nobody (restart_kicker_name ∷ [])
    ∷ named kick_position nobody (kick_position_x_name ∷ kick_position_y_name ∷ [])
    ∷ named other_touch nobody (other_touch_name ∷ [])
    ∷ named kicker_touched_outside_center_circle nobody (kicker_touched_outside_center_circle_name ∷ [])
    ∷ named kicker_touched_far_from_kick nobody (kicker_touched_far_from_kick_name ∷ [])
    ∷ named ball_moved_since_kick nobody (ball_moved_since_kick_name ∷ [])
    ∷ named invalid_goals_judged nobody (invalid_goals_judged_name ∷ [])
    ∷ named ball_rested nobody (ball_rested_name ∷ [])
    ∷ named wish nobody (wish_name ∷ [])
    ∷ named wished_side nobody (wished_side_name ∷ [])
    ∷ named wished_player nobody (wished_player_name ∷ [])
    ∷ []
