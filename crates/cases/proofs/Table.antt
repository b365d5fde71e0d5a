-- The table of document 01's cases: each claim by evaluation of the definitions, the candidates' by the lists of proofs/Candidates.antt.
use mathlib.Core.Path.{◌≡◌, refl}
use Rattle.hypot.specs.Hypot.{hypot}
use Rattle.cases.specs.Field.{◌over◌}
use Rattle.cases.specs.Table.{Table}
use Rattle.cases.proofs.Opened.{sheets}
use Rattle.cases.proofs.Candidates.{lent_by_2, lent_by_1, lent_crossed}

-- by itself, so that another number for it is refused at once
three_four : hypot (3 over 1) (4 over 1) ≡ 5 over 1
unfolding sheets
three_four = refl

pub table : Table
unfolding sheets
table =
    record {
      a_whole = refl;
      a_sheet = refl;
      a_written = (refl, refl);
      a_after = (refl, refl);
      a_in_set = refl;
      four_absent_margins = refl;
      four_absent_holds = refl;
      hypot_3_4 = three_four;
      hypot_zeros = refl;
      on_goal_line = refl;
      past_goal_line = refl;
      beside_goal = refl;
      beside_goal_by_home = refl;
      between_halves = refl;
      between_halves_turned = refl;
      throw_in_place = refl;
      candidates_by_2 = lent_by_2;
      candidates_by_1 = lent_by_1;
      candidates_crossed = lent_crossed;
      penalty_place = λ x. refl;
      penalty_place_accepted = refl;
      kick_off_in_set = refl;
      kick_off_in_playing = refl;
      zeros_on_sheet = refl;
      zeros_turned_on_sheet = refl;
      zeros_decided = refl;
      radius_on_sheet = refl;
      radius_decided = refl;
      heading_on_sheet = refl;
      heading_decided = refl;
      least_x = refl;
      least_y = refl;
      least_heading = refl;
      at_end_holds = refl;
      past_end_holds = refl;
      end_next = refl;
      at_side_holds = refl;
      past_side_holds = refl;
      side_next = refl;
      at_other_end = refl;
      past_other_end = refl;
      at_other_side = refl;
      past_other_side = refl;
      at_corner = refl;
      corner_past_end = refl;
      corner_past_side = refl;
      rounded_last = refl;
      edge_would_be = refl;
      a_displayed = refl;
      twelve_shown = (refl, refl);
      thirteen_refused = (refl, refl, refl);
      thirteen_kept = refl;
      five_first = refl;
      thirteen_for_desk = (refl, refl);
      nine_and_three = refl;
      ten_and_three = refl;
    }
