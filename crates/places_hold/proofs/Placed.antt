-- The place of an accepted situation, by its wish. Assumes nothing.
use mathlib.Core.Path.{◌≡◌, refl, sym, ap, subst, ◌∙◌}
use mathlib.Core.Bool.{Bool, true, false, not, cond, ◌&&◌, ◌||◌}
use mathlib.Core.List.{List}
use Prim.Native.Nat.{ℕ, zero, suc}
use lib.Dec.{T, eqb}
use lib.Ieee.{Float, binary32, neg, mul, lt, le, fits, is_nan, of_bits}
use lib.Ieee.Fits.{neg-fits, add-fits, sub-fits, mul-fits}
use lib.ListN.{length}
use Rattle.lists.proofs.Bools.{both_true, left_true, right_true}
use Rattle.floats.specs.Arithmetic.{◌+₃₂◌, ◌-₃₂◌, ◌*₃₂◌, zero32, half, pi, sixty_four}
use Rattle.floats.specs.Leaves.{negative, copysign}
use Rattle.floats.specs.Values.{Finite}
use Rattle.floats.proofs.Laws.Constants.{bits_finite, zero_finite, sixty_four_finite}
use Rattle.floats.proofs.Laws.Order.{le→≤, ≤→nlt, number}
use Rattle.floats.proofs.Laws.Rounding.{neg_finite}
use Rattle.game.specs.Game.{same_side, is_shootout, is_unpenalized}
use Rattle.game.specs.Players.{player_at, player_numbered, team_of_side, team_of}
use Rattle.game.specs.declared.Ball.{Ball}
use Rattle.game.specs.declared.FieldDimensions.{FieldDimensions}
use Rattle.game.specs.declared.Penalty.{Penalty}
use Rattle.game.specs.declared.Placement.{Placement}
use Rattle.game.specs.declared.Placement.TheVariants.{NoPlace, BallAt, PlayerAt}
use Rattle.game.specs.declared.PlayerPose.{PlayerPose}
use Rattle.game.specs.declared.SetPlay.{SetPlay}
use Rattle.game.specs.declared.SetPlay.TheVariants.{NoSetPlay, KickOff, DirectFreeKick, IndirectFreeKick, PenaltyKick, ThrowIn, GoalKick, CornerKick}
use Rattle.game.specs.declared.Side.{Side}
use Rattle.game.specs.declared.Side.TheVariants.{Home, Away}
use Rattle.game.specs.declared.SideMapping.{SideMapping}
use Rattle.game.specs.declared.Situation.{Situation}
use Rattle.game.specs.declared.Team.{Team}
use Rattle.game.specs.declared.Wish.{Wish}
use Rattle.game.specs.declared.Wish.TheVariants.{Nothing, BallAtRestart, BallInSet, ForPenalty, ForPenaltyShot, Goalkeeper}
use Rattle.geometry.specs.Geometry.{side_to_sign, team_x, is_on_own_goal_line, mark_x}
use Rattle.tries.specs.Tries.{crossed}
use Rattle.tries.proofs.CandidatesList.{Held}
use Rattle.places.specs.Places.{goal_line_x, touchline_y, area_line_x, area_line_y, in_opponent_area, free_kick_place, restart_place, ball_at_restart, mark_or, set_play_place, ball_in_set, heading, shot_x, seen_shot_place, penalty_shot_place, post_y, keeper_place, seen_keeper_place, maybe_keeper_place, penalty_goalkeeper_place}
use Rattle.clearance.specs.Clearance.{occupied}
use Rattle.penalty.specs.Penalty.{start_of, lowest_of, highest_of, edge_of, inward, seen_place, place_for_penalty}
use Rattle.refusals.specs.Refusals.{is_size, is_coordinate, is_radius, is_player_number, pose_fits, maybe_pose_fits, number_fits, restart_fits, wish_fits, ball_fits, numbers_fit, refusal_of}
use Rattle.refusals.proofs.Accepted.{Accepted, accepted, Ranges, field_ranges, numbered_fits, team_fits_holds, wished_fits}
use Rattle.decision.specs.Decision.{place_for, wished_place, decision_of}
use Rattle.bounds_hold.specs.Bounds.{InOrder, PenaltyBounds, PlacedAmongAll, space_at, BoundsHold, FloatsFit}
use Rattle.bounds_hold.proofs.Hold.{holds_of_accepted}
use Rattle.places_hold.specs.Claims.{Placed, nowhere, ball_at, player_at_holds, PoseFits, SeenFits, SizesFit, PlaceFloats, PlacedClaim}
use Rattle.places_hold.proofs.Under.{Under, under_finite, coordinate_under, radius_under, cond_finite, clamp_finite, sign_finite, signed_finite}
use Rattle.places_hold.proofs.Candidates.{chosen_finite, candidates_finite}
use Rattle.places_hold.proofs.Lines.{goal_line_finite, touchline_finite, area_x_finite, area_y_finite, mark_finite, ball_finite, post_finite, edge_finite, lowest_finite}
use Rattle.std.specs.Prelude.{Option, None, Some}

chosen : (b : Bool) {p q : Placement} → Placed p → Placed q → Placed (cond b p q)
chosen true hp hq = hp
chosen false hp hq = hq

coordinate_finite : (v : Float) → T (fits binary32 v) → is_coordinate v ≡ true → Finite binary32 v
coordinate_finite v q e = under_finite sixty_four sixty_four_finite v (coordinate_under v q e)

-- ---- headings that are given
pi_finite : Finite binary32 pi
pi_finite = bits_finite 0x4049_0fdb (unfold of_bits in tt)

heading_finite : (sign : Float) → Finite binary32 (heading sign)
heading_finite sign = cond_finite (lt zero32 sign) zero32 pi zero_finite pi_finite

inward_finite : (y : Float) → Finite binary32 (inward y)
inward_finite y =
    cond_finite (lt zero32 y) (neg pi *₃₂ half) (pi *₃₂ half) (record { fit = mul-fits binary32 (neg pi) half; finite = unfold mul neg of_bits in tt }) (record { fit = mul-fits binary32 pi half; finite = unfold mul of_bits in tt })

-- ---- the ball
module _ (f : FieldDimensions) (fit : SizesFit f) (r : Ranges f) where
  z : Finite binary32 f.ball_radius
  z = ball_finite f fit r

  module _ (b : Ball) (fx : Finite binary32 b.x) (fy : Finite binary32 b.y) where
    touchline : Finite binary32 (copysign (touchline_y f) b.y)
    touchline = sign_finite (negative b.y) (touchline_y f) (touchline_finite f fit r)

    free_kick_placed : (kicking : Option Side) (sides : SideMapping) → Placed (free_kick_place f b kicking sides)
    free_kick_placed None sides = ball_at fx fy z
    free_kick_placed (Some side) sides =
        chosen (in_opponent_area f b (side_to_sign side sides))
        (ball_at (signed_finite side sides (area_line_x f f.penalty_area_length) (area_x_finite f fit r f.penalty_area_length fit.penalty_area_length r.penalty_area_length_range)) fy z) (ball_at fx fy z)

    restart_placed : (play : SetPlay) (kicking : Option Side) (sides : SideMapping) → Placed (restart_place play kicking sides f b)
    restart_placed NoSetPlay kicking sides = nowhere
    restart_placed KickOff kicking sides = nowhere
    restart_placed DirectFreeKick kicking sides = ball_at fx fy z
    restart_placed IndirectFreeKick kicking sides = free_kick_placed kicking sides
    restart_placed PenaltyKick kicking sides = nowhere
    restart_placed ThrowIn kicking sides =
        let line = goal_line_finite f fit r in
        ball_at (clamp_finite b.x (neg (goal_line_x f)) (goal_line_x f) fx (neg_finite binary32 (goal_line_x f) line) line) touchline z
    restart_placed GoalKick kicking sides =
        ball_at (sign_finite (negative b.x) (area_line_x f f.goal_area_length) (area_x_finite f fit r f.goal_area_length fit.goal_area_length r.goal_area_length_range))
        (sign_finite (negative b.y) (area_line_y f f.goal_area_width) (area_y_finite f fit r f.goal_area_width fit.goal_area_width r.goal_area_width_range)) z
    restart_placed CornerKick kicking sides = ball_at (sign_finite (negative b.x) (goal_line_x f) (goal_line_finite f fit r)) touchline z

  mark_placed : (kicking : Option Side) (sides : SideMapping) {other : Placement} → Placed other → Placed (mark_or f kicking sides other)
  mark_placed None sides h = h
  mark_placed (Some side) sides h = ball_at (signed_finite side sides (mark_x f) (mark_finite f fit r)) zero_finite z

  set_play_placed : (play : SetPlay) (kicking : Option Side) (sides : SideMapping) → Placed (set_play_place play f kicking sides)
  set_play_placed NoSetPlay kicking sides = nowhere
  set_play_placed KickOff kicking sides = ball_at zero_finite zero_finite z
  set_play_placed DirectFreeKick kicking sides = nowhere
  set_play_placed IndirectFreeKick kicking sides = nowhere
  set_play_placed PenaltyKick kicking sides = mark_placed kicking sides (ball_at zero_finite zero_finite z)
  set_play_placed ThrowIn kicking sides = nowhere
  set_play_placed GoalKick kicking sides = nowhere
  set_play_placed CornerKick kicking sides = nowhere

  -- ---- players
  shot_finite : (striker : Bool) → Finite binary32 (shot_x f striker)
  shot_finite true = area_x_finite f fit r f.penalty_area_length fit.penalty_area_length r.penalty_area_length_range
  shot_finite false = neg_finite binary32 (goal_line_x f) (goal_line_finite f fit r)

  shot_placed : (kicking : Option Side) (pose : Option PlayerPose) (sides : SideMapping) (side : Side) (number : ℕ) → is_player_number number ≡ true → Placed (seen_shot_place kicking pose sides f side number)
  shot_placed None pose sides side number h = nowhere
  shot_placed (Some k) None sides side number h = nowhere
  shot_placed (Some k) (Some p) sides side number h = player_at_holds h (signed_finite side sides (shot_x f (same_side side k)) (shot_finite (same_side side k))) zero_finite (heading_finite (side_to_sign side sides))

  keeper_placed : (pose : Option PlayerPose) → SeenFits pose → maybe_pose_fits pose ≡ true → (sides : SideMapping) (side : Side) (number : ℕ) (penalty : Penalty) → is_player_number number ≡ true → Placed (seen_keeper_place pose sides f side number penalty)
  unfolding keeper_place pose_fits
  keeper_placed None q e sides side number penalty h = nowhere
  keeper_placed (Some p) q e sides side number penalty h =
      let a = both_true (is_coordinate p.x && is_coordinate p.y && is_coordinate p.theta) (is_radius p.radius) e in
      let b = both_true (is_coordinate p.x && is_coordinate p.y) (is_coordinate p.theta) a.0 in
      let y = right_true (is_coordinate p.x) (is_coordinate p.y) b.0 in
      let line = neg_finite binary32 (goal_line_x f) (goal_line_finite f fit r) in
      let post = post_finite f fit r p (radius_under p.radius q.radius a.1) in
      chosen (is_unpenalized penalty && not (is_on_own_goal_line (team_x (side_to_sign side sides) p) p f))
      (player_at_holds h (signed_finite side sides (neg (goal_line_x f)) line)
      (clamp_finite p.y (neg (post_y f p)) (post_y f p) (coordinate_finite p.y q.y y) (neg_finite binary32 (post_y f p) post) post) (coordinate_finite p.theta q.theta b.1))
      nowhere

-- bounds that are in order are not crossed
uncrossed : (lo hi : Float) → Finite binary32 lo → Finite binary32 hi → InOrder lo hi → crossed lo hi ≡ false
unfolding crossed
uncrossed lo hi fl fh o =
    let n = number binary32 lo fl.fit o.lower in
    let m = number binary32 hi fh.fit o.upper in
    let below : lt hi lo ≡ false = ≤→nlt binary32 hi lo m n (le→≤ binary32 lo hi n m o.order) in
    cc (o.lower, o.upper, below)

numbered_seen : (t : Team) → ((i : ℕ) → SeenFits (player_at t i).pose) → (n : ℕ) → SeenFits (player_numbered t n).pose
numbered_seen t h zero = tt
numbered_seen t h (suc i) = h i

-- ---- an accepted situation
module _ (s : Situation) (xs ys : List Float) (fit : PlaceFloats s) (e : refusal_of s xs ys ≡ 0) where
  a : Accepted s xs ys
  a = accepted s xs ys e

  r : Ranges s.field
  r = field_ranges s.field a.field_fits_holds

  coordinates : (is_coordinate s.ball.x ≡ true) × (is_coordinate s.ball.y ≡ true)
  coordinates = both_true (is_coordinate s.ball.x) (is_coordinate s.ball.y) (left_true (is_coordinate s.ball.x && is_coordinate s.ball.y) (is_coordinate s.ball.z) a.ball_fits_holds)

  seen : (side : Side) (n : ℕ) → SeenFits (player_numbered (team_of s side) n).pose
  seen side n = numbered_seen (team_of s side) (fit.poses side) n

  in_range : (side : Side) (n : ℕ) → is_player_number n ≡ true → maybe_pose_fits (player_numbered (team_of s side) n).pose ≡ true
  in_range side n h = numbered_fits (team_of s side) (team_fits_holds s xs ys a side) n h

  -- ---- the goalkeeper
  keepers : (number_fits s.home.goalkeeper ≡ true) × (number_fits s.away.goalkeeper ≡ true)
  keepers =
      both_true (number_fits s.home.goalkeeper) (number_fits s.away.goalkeeper)
      (left_true (number_fits s.home.goalkeeper && number_fits s.away.goalkeeper) (restart_fits s.restart)
      (unfold numbers_fit in left_true (number_fits s.home.goalkeeper && number_fits s.away.goalkeeper && restart_fits s.restart) (wish_fits s.wish) a.numbers_fit_holds))

  keeper_number : (side : Side) → number_fits (team_of s side).goalkeeper ≡ true
  keeper_number Home = keepers.0
  keeper_number Away = keepers.1

  maybe_keeper_placed : (side : Side) (keeper : Option ℕ) → number_fits keeper ≡ true → Placed (maybe_keeper_place keeper s.game.sides s.field side (team_of s side))
  maybe_keeper_placed side None h = nowhere
  maybe_keeper_placed side (Some n) h = keeper_placed s.field fit.field r (player_numbered (team_of s side) n).pose (seen side n) (in_range side n h) s.game.sides side n (player_numbered (team_of s side) n).penalty h

  -- ---- a penalised player
  bounds_fit : FloatsFit s
  bounds_fit =
      record {
        length = fit.field.length;
        mark = fit.field.mark;
        line = fit.field.line;
        distance = fit.distance;
        radius = λ side number p h. (subst SeenFits h (seen side number)).radius;
      }

  bounds : BoundsHold s xs ys
  bounds = holds_of_accepted s xs ys bounds_fit e

  module _ (side : Side) (number : ℕ) (w : s.wish ≡ ForPenalty side number) where
    player_number : is_player_number number ≡ true
    player_number = subst (λ (v : Wish). wish_fits v ≡ true) w (wished_fits s xs ys a)

    present_placed : (p : PlayerPose) → (player_numbered (team_of s side) number).pose ≡ Some p
        → Placed (place_for_penalty s.game.sides s.field s.penalty_placement_distance s.home s.away xs ys side number)
    unfolding pose_fits
    present_placed p h =
        let f = s.field in
        let d = s.penalty_placement_distance in
        let q = subst SeenFits h (seen side number) in
        let radius = right_true (is_coordinate p.x && is_coordinate p.y && is_coordinate p.theta) (is_radius p.radius) (subst (λ (v : Option PlayerPose). maybe_pose_fits v ≡ true) h (in_range side number player_number)) in
        let u = radius_under p.radius q.radius radius in
        let order = bounds.candidates side number p w h in
        let among = bounds.place side number p w h in
        let lowest = lowest_finite f fit.field r p u in
        let highest = neg_finite binary32 p.radius (under_finite sixty_four sixty_four_finite p.radius u) in
        let start = neg_finite binary32 (mark_x f) (mark_finite f fit.field r) in
        let held : Held (start_of f) (lowest_of f p.radius) (highest_of p.radius) d = record { fits_start = start.fit; fits_min = lowest.fit; fits_max = highest.fit; fits_step = fit.distance } in
        let all = candidates_finite (start_of f) (lowest_of f p.radius) (highest_of p.radius) d held start lowest highest (uncrossed (lowest_of f p.radius) (highest_of p.radius) lowest highest order.in_order) order.not_refused in
        subst Placed (sym among.placed)
        (player_at_holds player_number (signed_finite side s.game.sides among.x (chosen_finite d (space_at s xs ys side number p) _ among.x all among.meant)) (edge_finite f fit.field r p u) (inward_finite (edge_of f p)))

    penalty_placed : Placed (place_for_penalty s.game.sides s.field s.penalty_placement_distance s.home s.away xs ys side number)
    unfolding place_for_penalty
    penalty_placed = go (player_numbered (team_of s side) number).pose refl
      where
        go : (q : Option PlayerPose) → (player_numbered (team_of s side) number).pose ≡ q → Placed (place_for_penalty s.game.sides s.field s.penalty_placement_distance s.home s.away xs ys side number)
        go None h =
            chosen (eqb (length xs) (length ys))
            (subst (λ (v : Option PlayerPose). Placed (seen_place s.field s.penalty_placement_distance (side_to_sign side s.game.sides) v (occupied s.home s.away side number xs ys) side number)) (sym h) nowhere) nowhere
        go (Some p) h = present_placed p h

  -- ---- the place wished for
  for_placed : (w : Wish) → s.wish ≡ w → Placed (place_for w s xs ys)
  unfolding ball_at_restart ball_in_set penalty_shot_place penalty_goalkeeper_place
  for_placed Nothing h = nowhere
  for_placed BallAtRestart h =
      restart_placed s.field fit.field r s.ball (coordinate_finite s.ball.x fit.ball_x coordinates.0) (coordinate_finite s.ball.y fit.ball_y coordinates.1) s.game.set_play s.game.kicking_side s.game.sides
  for_placed BallInSet h =
      chosen (is_shootout s.game.phase) (mark_placed s.field fit.field r s.game.kicking_side s.game.sides nowhere) (set_play_placed s.field fit.field r s.game.set_play s.game.kicking_side s.game.sides)
  for_placed (ForPenalty side number) h = penalty_placed side number h
  for_placed (ForPenaltyShot side number) h =
      shot_placed s.field fit.field r s.game.kicking_side (player_numbered (team_of s side) number).pose s.game.sides side number (subst (λ (v : Wish). wish_fits v ≡ true) h (wished_fits s xs ys a))
  for_placed (Goalkeeper side) h = maybe_keeper_placed side (team_of s side).goalkeeper (keeper_number side)

  decided : Placed (decision_of s xs ys).place
  unfolding decision_of wished_place
  decided = for_placed s.wish refl

pub placed : PlacedClaim
placed = decided
