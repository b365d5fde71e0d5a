-- Definitions that an evaluation sees through. To unfold one of the names below is to unfold all that its line names.
use lib.Ieee.{neg, add, sub, mul, div, lt, le, eq, is_nan, fits, of_int, of_bits, to_bits}
use Rattle.lists.specs.Every.{every_to}
use Rattle.lists.specs.Gather.{flat_to}
use Rattle.lists.specs.Put.{fronted}
use Rattle.hypot.specs.Hypot.{hypot}
use Rattle.floats.specs.Leaves.{negative, with_sign, minimum_number, maximum_number, clamp, total_key}
use Rattle.game.specs.Players.{listed, numbers_where}
use Rattle.geometry.specs.Geometry.{margins_of, compute_margins}
use Rattle.avoidance.specs.Avoidance.{is_avoidance_region_active, region_condition, avoidance_condition}
use Rattle.positioning.specs.Positioning.{is_illegally_positioned, condition_of, kick_off_condition, attack_condition, defence_condition, penalty_kick_condition}
use Rattle.tries.specs.Tries.{crossed, candidates_to, unfit, first_candidate}
use Rattle.lists.specs.Counting.{count_to, first_to}
use Rattle.counts.specs.Counts.{players_on_field}
use Rattle.excess.specs.Excess.{goal_area_excess}
use Rattle.kicker.specs.Kicker.{determine_kicking_player}
use Rattle.motion.specs.Motion.{moved_players, references_after}
use Rattle.ball.specs.Ball.{ball_judgment}
use Rattle.places.specs.Places.{ball_at_restart, ball_in_set, penalty_shot_place, penalty_goalkeeper_place}
use Rattle.penalty.specs.Penalty.{place_for_penalty}
use Rattle.refusals.specs.Refusals.{pose_fits, refusal_of}
use Rattle.decision.specs.Decision.{team_verdicts, empty_list, team_excess, kicking_player, leaving_players, ball_called_among, ball_called, wished_place, team_margins, team_decision, side_margins, side_decision, decision_of, answer_of}
use Rattle.lines.specs.Line.{column_byte, columns_of, line_of, lines_of}
use Rattle.sheet.specs.Rows.{verdict_rows, list_rows, ball_rows, placed_value, place_rows, rows_of, sheet_rows}
use Rattle.sheet.specs.Sheet.{text_of}
use Rattle.call.specs.Call.{sheet_answer, sheet_after}

-- floats and the functions on them
unfoldable pub floats : Unit {0}
unfolding neg add sub mul div lt le eq is_nan fits of_int of_bits to_bits negative with_sign minimum_number maximum_number clamp total_key hypot
floats = tt

-- an answer, down to the floats
unfoldable pub answers : Unit {0}
unfolding floats every_to flat_to fronted listed numbers_where margins_of compute_margins is_illegally_positioned condition_of avoidance_condition region_condition is_avoidance_region_active kick_off_condition attack_condition defence_condition penalty_kick_condition crossed candidates_to unfit first_candidate count_to first_to players_on_field goal_area_excess determine_kicking_player moved_players references_after ball_judgment ball_at_restart ball_in_set penalty_shot_place penalty_goalkeeper_place place_for_penalty pose_fits refusal_of team_verdicts empty_list team_excess kicking_player leaving_players ball_called_among ball_called wished_place team_margins team_decision side_margins side_decision decision_of answer_of
answers = tt

-- a sheet, down to the floats
unfoldable pub sheets : Unit {0}
unfolding answers column_byte columns_of line_of lines_of verdict_rows list_rows ball_rows placed_value place_rows rows_of sheet_rows text_of sheet_answer sheet_after
sheets = tt
