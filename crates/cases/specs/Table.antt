-- The table of document 01's cases marked with *, in the document's order, on the field of its case A, and after them the cases of document 02's requests. Above the claims of a case
-- stands its line of the document, or what is asked. Each claim is of the answer to a situation, or of the leaf or entry that the line names. Definitions only.
use Rattle.std.specs.Prelude.{◌≡◌, [], ◌∷◌, ◌++◌, ◌+◌, ◌^◌, replicate, Float, None, Some, Ok, Err}
use Rattle.std.specs.Float.{binary32}
use Rattle.std.specs.Float.Ieee.{neg, of_bits, to_bits}
use Rattle.floats.specs.Arithmetic.{◌+₃₂◌, ◌*₃₂◌, zero32, half, pi}
use Rattle.hypot.specs.Hypot.{hypot}
use Rattle.game.specs.declared.BallJudgment.TheVariants.{NoJudgment, Goal, GoalKick, CornerKick, ThrowIn}
use Rattle.game.specs.declared.Placement.TheVariants.{BallAt, PlayerAt}
use Rattle.game.specs.declared.Positioning.TheVariants.{Illegal, IllegalUnlessKicker}
use Rattle.game.specs.declared.Side.TheVariants.{Home, Away}
use Rattle.game.specs.declared.State.TheVariants.{Set, Playing}
use Rattle.candidates.specs.Candidates.{answer_of as candidates_answer}
use Rattle.refusal.specs.declared.Refusal.TheVariants.{Distance, SheetRoom, Display as MoreLines}
use Rattle.refusals.specs.Refusals.{refusal_of}
use Rattle.decision.specs.Decision.{side_margins, decision_of, answer_of}
use Rattle.decision.specs.HalfTurn.{turned}
use Rattle.sheet.specs.Sheet.{text_of}
use Rattle.call.specs.declared.SheetFor.TheVariants.{Desk, Display}
use Rattle.call.specs.Call.{sheet_answer, sheet_after}
use Rattle.cases.specs.Field.{◌over◌}
use Rattle.cases.specs.CaseA.{ball_at, with_ball, case_a, case_a_set, four_absent, untouched, throw_in, alone, kick_off_in, free_kick, keeper_heading, least, reaching, at_end, past_end, at_side, past_side, crowd, crowd_refused, crowd_and_place}
use Rattle.cases.specs.Answers.{none, only, only2, answered, leavers, own_goal_areas, lines_for, only_place, sheet_a}

-- every case, each with its claims
pub record Table : Type 0 where
  -- * A whole.
  pub a_whole : answer_of case_a [] [] ≡ answered (only 5) (Goal Away)
  -- its sheet
  pub a_sheet : text_of (decision_of case_a [] []) ≡ sheet_a
  -- 135 bytes lent do; refusal 7: 135 needed, 134 lent
  pub a_written : (sheet_answer Desk case_a [] [] 135 ≡ Ok 135) × (sheet_answer Desk case_a [] [] 134 ≡ Err SheetRoom)
  -- bytes after the last line are kept, and all of them where there is no room
  pub a_after : (sheet_after Desk case_a [] [] (replicate 137 7) ≡ sheet_a ++ (7 ∷ 7 ∷ [])) × (sheet_after Desk case_a [] [] (replicate 134 7) ≡ replicate 134 7)
  -- * A in Set: excess 4.
  pub a_in_set : answer_of case_a_set [] [] ≡ answered (only 4) NoJudgment
  -- * A in Set with 4 absent and Home 6 added at (6.75, -0.5): margins of 2, 3, 5, 6 are 0.75, 0.75, 1, 1; excess 3.
  pub four_absent_margins : own_goal_areas (side_margins four_absent Home) ≡ (3 over 4) ∷ (3 over 4) ∷ (1 over 1) ∷ (1 over 1) ∷ []
  pub four_absent_holds : answer_of four_absent [] [] ≡ answered (only 3) NoJudgment
  -- * hypot(3, 4) = 5; hypot(0, -0) = +0.
  pub hypot_3_4 : hypot (3 over 1) (4 over 1) ≡ 5 over 1
  pub hypot_zeros : hypot zero32 (neg zero32) ≡ zero32
  -- * Ball x 7.125, y 0: no judgment. 7.125 + 2^-21: goal.
  pub on_goal_line : answer_of (with_ball (ball_at (57 over 8) zero32) None) [] [] ≡ answered (only 5) NoJudgment
  pub past_goal_line : answer_of (with_ball (ball_at (57 over 8 +₃₂ 1 over (2 ^ 21)) zero32) None) [] [] ≡ answered (only 5) (Goal Away)
  -- * Ball (7.25, 1.125, 0.125): goal kick Home; last contact Home: corner Away.
  pub beside_goal : answer_of (with_ball (ball_at (29 over 4) (9 over 8)) None) [] [] ≡ answered (only 5) (GoalKick Home)
  pub beside_goal_by_home : answer_of (with_ball (ball_at (29 over 4) (9 over 8)) (Some Home)) [] [] ≡ answered (only 5) (CornerKick Away)
  -- * Ball (0, 4.75, 0.125), no contact: throw-in Away; turned: Home.
  pub between_halves : answer_of untouched [] [] ≡ answered (only 5) (ThrowIn Away)
  pub between_halves_turned : answer_of (turned untouched) [] [] ≡ answered (only 5) (ThrowIn Home)
  -- * Throw-in place for ball (8, 4.75): (6.96875, 4.46875).
  pub throw_in_place : (answer_of throw_in [] []).decision.place ≡ BallAt (223 over 32) (143 over 32) (1 over 8)
  -- * Candidates -5, -6.75, -0.25, step 2: -5, -3, -1. Step 1: -5, -6, -4, -3, -2, -1.
  pub candidates_by_2 : candidates_answer (neg (5 over 1)) (neg (27 over 4)) (neg (1 over 4)) (2 over 1) 8200 ≡ neg (5 over 1) ∷ neg (3 over 1) ∷ neg (1 over 1) ∷ []
  pub candidates_by_1 : candidates_answer (neg (5 over 1)) (neg (27 over 4)) (neg (1 over 4)) (1 over 1) 8200
      ≡ neg (5 over 1) ∷ neg (6 over 1) ∷ neg (4 over 1) ∷ neg (3 over 1) ∷ neg (2 over 1) ∷ neg (1 over 1) ∷ []
  -- * Candidates 0, 1, -1, 1: only 0.
  pub candidates_crossed : candidates_answer zero32 (1 over 1) (neg (1 over 1)) (1 over 1) 8200 ≡ zero32 ∷ []
  -- * Penalty place, Home 2, radius 0.25, y -0, nobody else: x 5, y -5.25. Wherever its x is; at x 0 the situation is accepted.
  pub penalty_place : (x : Float) → (decision_of (alone x) [] []).place ≡ PlayerAt Home 2 (5 over 1) (neg (21 over 4)) (pi *₃₂ half)
  pub penalty_place_accepted : refusal_of (alone zero32) [] [] ≡ 0
  -- * KickOff, Home kicks, Home 2 of radius 0.25 at (0, 0.25): Set Illegal, Playing IllegalUnlessKicker.
  pub kick_off_in_set : (answer_of (kick_off_in Set) [] []).decision.home.verdicts ≡ only2 Illegal
  pub kick_off_in_playing : (answer_of (kick_off_in Playing) [] []).decision.home.verdicts ≡ only2 IllegalUnlessKicker
  -- Document 02, request 2. A direct free kick, the ball at (+0, +0): 0 and 0 on the sheet; 1040187392 is the pattern of the radius, 0.125.
  pub zeros_on_sheet : lines_for (free_kick (1 over 8) zero32 zero32) ≡ only_place 2 0 0 0 1040187392
  -- The ball at (-0, -0) with the ends exchanged: 0 and 0 too, and the decision still has -0.
  pub zeros_turned_on_sheet : lines_for (turned (free_kick (1 over 8) zero32 zero32)) ≡ only_place 2 0 0 0 1040187392
  pub zeros_decided : (answer_of (turned (free_kick (1 over 8) zero32 zero32)) [] []).decision.place ≡ BallAt (neg zero32) (neg zero32) (1 over 8)
  -- A ball radius of -0: 0 on the line of kind 9, and -0 in the decision.
  pub radius_on_sheet : lines_for (free_kick (neg zero32) zero32 zero32) ≡ only_place 2 0 0 0 0
  pub radius_decided : (answer_of (free_kick (neg zero32) zero32 zero32) [] []).decision.place ≡ BallAt zero32 zero32 (neg zero32)
  -- A goalkeeper's heading of -0 is 0; 1088356352 and 1056964608 are the patterns of its place, 6.96875 and 0.5.
  pub heading_on_sheet : lines_for (keeper_heading (neg zero32)) ≡ only_place 0 1 1088356352 1056964608 0
  pub heading_decided : (answer_of (keeper_heading (neg zero32)) [] []).decision.place ≡ PlayerAt Home 1 (223 over 32) (1 over 2) (neg zero32)
  -- -2^-149, the value nearest to zero, stays 2147483649 on each of the three lines.
  pub least_x : lines_for (free_kick (1 over 8) least zero32) ≡ only_place 2 0 2147483649 0 1040187392
  pub least_y : lines_for (free_kick (1 over 8) zero32 least) ≡ only_place 2 0 0 2147483649 1040187392
  pub least_heading : lines_for (keeper_heading least) ≡ only_place 0 1 1088356352 1056964608 2147483649
  -- Request 4. On the field of A with radius 0.25 and allowance 0: x 8.25 is not leaving, and the next value is.
  pub at_end_holds : answer_of (reaching (1 over 4) at_end zero32) [] [] ≡ leavers none
  pub past_end_holds : answer_of (reaching (1 over 4) past_end zero32) [] [] ≡ leavers (only 2)
  pub end_next : to_bits binary32 past_end ≡ 1 + to_bits binary32 at_end
  -- y 5.75 and the next value.
  pub at_side_holds : answer_of (reaching (1 over 4) zero32 at_side) [] [] ≡ leavers none
  pub past_side_holds : answer_of (reaching (1 over 4) zero32 past_side) [] [] ≡ leavers (only 2)
  pub side_next : to_bits binary32 past_side ≡ 1 + to_bits binary32 at_side
  -- The same negated.
  pub at_other_end : answer_of (reaching (1 over 4) (neg at_end) zero32) [] [] ≡ leavers none
  pub past_other_end : answer_of (reaching (1 over 4) (neg past_end) zero32) [] [] ≡ leavers (only 2)
  pub at_other_side : answer_of (reaching (1 over 4) zero32 (neg at_side)) [] [] ≡ leavers none
  pub past_other_side : answer_of (reaching (1 over 4) zero32 (neg past_side)) [] [] ≡ leavers (only 2)
  -- A corner: the greater of x and y decides, and not the distance from the corner, which is 0.35 at (8.25, 5.75).
  pub at_corner : answer_of (reaching (1 over 4) at_end at_side) [] [] ≡ leavers none
  pub corner_past_end : answer_of (reaching (1 over 4) past_end at_side) [] [] ≡ leavers (only 2)
  pub corner_past_side : answer_of (reaching (1 over 4) at_end past_side) [] [] ≡ leavers (only 2)
  -- x of the pattern 0x4101999a and the radius of 0x3dcccccd, about 8.1 and 0.1: leaving. With the radius added to the edge first, 8 + 0.1 is rounded to x, and it would not be.
  pub rounded_last : answer_of (reaching (of_bits binary32 0x3dcccccd) (of_bits binary32 0x4101999a) zero32) [] [] ≡ leavers (only 2)
  pub edge_would_be : (8 over 1) +₃₂ of_bits binary32 0x3dcccccd ≡ of_bits binary32 0x4101999a
  -- Request 5. A's sheet for the display is the same.
  pub a_displayed : sheet_after Display case_a [] [] (replicate 137 7) ≡ sheet_a ++ (7 ∷ 7 ∷ [])
  -- Twelve lines after the header, 585 bytes with it: shown, and with a byte fewer refused with 7.
  pub twelve_shown : (sheet_answer Display (crowd 12) [] [] 585 ≡ Ok 585) × (sheet_answer Display (crowd 12) [] [] 584 ≡ Err SheetRoom)
  -- Thirteen, 630 bytes: refused with 12, with ample room, with a byte too few and with none, and every byte is kept.
  pub thirteen_refused : (sheet_answer Display (crowd 13) [] [] 1000 ≡ Err MoreLines) × (sheet_answer Display (crowd 13) [] [] 629 ≡ Err MoreLines) × (sheet_answer Display (crowd 13) [] [] 0 ≡ Err MoreLines)
  pub thirteen_kept : sheet_after Display (crowd 13) [] [] (replicate 630 7) ≡ replicate 630 7
  -- A distance of 0.01 besides: 5, before 12.
  pub five_first : sheet_answer Display (crowd_refused 13) [] [] 1000 ≡ Err Distance
  -- For the desk thirteen are written, by the length that it lends.
  pub thirteen_for_desk : (sheet_answer Desk (crowd 13) [] [] 630 ≡ Ok 630) × (sheet_answer Desk (crowd 13) [] [] 629 ≡ Err SheetRoom)
  -- Nine lines and the three of a place are twelve; ten and three are refused.
  pub nine_and_three : sheet_answer Display (crowd_and_place 9) [] [] 585 ≡ Ok 585
  pub ten_and_three : sheet_answer Display (crowd_and_place 10) [] [] 630 ≡ Err MoreLines
