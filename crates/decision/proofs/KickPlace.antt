-- The judgment of the ball reads the Restart's kind, side, kicker and touches, and no other item reads the record. Assumes nothing.
use mathlib.Core.Path.{◌≡◌, refl, ap, ap₂}
use mathlib.Core.Bool.{Bool, true, false, cond, ◌&&◌}
use mathlib.Core.List.{List}
use Prim.Native.Nat.{ℕ}
use lib.Ieee.{Float}
use Rattle.game.specs.Game.{opponent, same_side, is_shootout}
use Rattle.game.specs.declared.Ball.{Ball}
use Rattle.game.specs.declared.BallJudgment.{BallJudgment}
use Rattle.game.specs.declared.BallJudgment.TheVariants.{NoJudgment, GoalKick}
use Rattle.game.specs.declared.FieldDimensions.{FieldDimensions}
use Rattle.game.specs.declared.Game.{Game}
use Rattle.game.specs.declared.Placement.{Placement}
use Rattle.game.specs.declared.Restart.{Restart}
use Rattle.game.specs.declared.RestartKind.{RestartKind}
use Rattle.game.specs.declared.RestartKind.TheVariants.{KickOff, Indirect, Direct, PenaltyShot}
use Rattle.game.specs.declared.Side.{Side}
use Rattle.game.specs.declared.Side.TheVariants.{Home, Away}
use Rattle.game.specs.declared.SideMapping.{SideMapping}
use Rattle.game.specs.declared.Situation.{Situation}
use Rattle.game.specs.declared.Wish.{Wish}
use Rattle.game.specs.declared.Wish.TheVariants.{Nothing, BallAtRestart, BallInSet, ForPenalty, ForPenaltyShot, Goalkeeper}
use Rattle.geometry.specs.Geometry.{side_to_sign}
use Rattle.counts.specs.Counts.{players_on_field}
use Rattle.ball.specs.Ball.{may_score, judge_own_goal, judge_restart_goal, judge_goal, shot_taken, judge_shot, judge_shootout, players_of, judge_half, defending_side, is_running, ball_judgment}
use Rattle.decision.specs.Decision.{ball_called_among, ball_called, place_for, wished_place, side_margins, side_decision, kicking_player, decision_of}
use Rattle.decision.specs.KickPlace.{kicked_at, restart_kicked_at, with_kick_at, KickPlaceClaim}
use Rattle.std.specs.Prelude.{Option, None, Some}

module _ (x y : Float) where
  -- ---- the judgment of the ball
  may_score_kept : (kind : RestartKind) (r : Restart) (players : ℕ) → may_score kind (kicked_at x y r) players ≡ may_score kind r players
  may_score_kept KickOff r players = refl
  may_score_kept Indirect r players = refl
  may_score_kept Direct r players = refl
  may_score_kept PenaltyShot r players = refl

  goal_kept : (judged : Bool) (restart : Option Restart) (scoring : Side) (players : ℕ) → judge_goal judged (restart_kicked_at x y restart) scoring players ≡ judge_goal judged restart scoring players
  unfolding judge_restart_goal
  goal_kept false restart scoring players = refl
  goal_kept true None scoring players = refl
  goal_kept true (Some r) scoring players =
      ap (λ (may : Bool). cond r.other_touch None (cond (same_side r.side (opponent scoring)) (judge_own_goal r.kind scoring) (cond may None (Some (GoalKick (opponent scoring))))))
      (may_score_kept r.kind r players)

  taken_kept : (restart : Option Restart) → shot_taken (restart_kicked_at x y restart) ≡ shot_taken restart
  taken_kept None = refl
  taken_kept (Some r) = refl

  shootout_kept : (kicking : Option Side) (sides : SideMapping) (f : FieldDimensions) (ball : Ball) (restart : Option Restart) (rested : Bool) → judge_shootout kicking sides f ball (restart_kicked_at x y restart) rested ≡ judge_shootout kicking sides f ball restart rested
  shootout_kept None sides f ball restart rested = refl
  shootout_kept (Some side) sides f ball restart rested = ap (λ (taken : Bool). judge_shot side (side_to_sign side sides) f ball (taken && rested)) (taken_kept restart)

  judgment_kept : (g : Game) (f : FieldDimensions) (ball : Ball) (contact : Option Side) (restart : Option Restart) (judged rested : Bool) (home away : ℕ) → ball_judgment g f ball contact (restart_kicked_at x y restart) judged rested home away ≡ ball_judgment g f ball contact restart judged rested home away
  unfolding ball_judgment
  judgment_kept g f ball contact restart judged rested home away =
      let d = defending_side g.sides ball in
      ap₂ (λ (shot play : BallJudgment). cond (is_running g) (cond (is_shootout g.phase) shot play) NoJudgment) (shootout_kept g.kicking_side g.sides f ball restart rested)
      (ap (λ (goal : Option BallJudgment). judge_half f ball goal contact d) (goal_kept judged restart (opponent d) (players_of (opponent d) home away)))

  -- ---- the place
  place_kept : (w : Wish) (s : Situation) (xs ys : List Float) → place_for w (with_kick_at x y s) xs ys ≡ place_for w s xs ys
  place_kept Nothing s xs ys = refl
  place_kept BallAtRestart s xs ys = refl
  place_kept BallInSet s xs ys = refl
  place_kept (ForPenalty side number) s xs ys = refl
  place_kept (ForPenaltyShot Home number) s xs ys = refl
  place_kept (ForPenaltyShot Away number) s xs ys = refl
  place_kept (Goalkeeper Home) s xs ys = refl
  place_kept (Goalkeeper Away) s xs ys = refl

pub kick_place : KickPlaceClaim
unfolding decision_of side_decision side_margins ball_called ball_called_among wished_place
kick_place x y s xs ys =
    ap₂ (λ (ball : BallJudgment) (place : Placement). record { home = side_decision s Home; away = side_decision s Away; kicker = kicking_player s.game s.home s.away s.field (side_margins s Home) (side_margins s Away); ball = ball; place = place })
    (judgment_kept x y s.game s.field s.ball s.last_contact s.restart s.invalid_goals_judged s.ball_rested (players_on_field s.home) (players_on_field s.away))
    (place_kept x y s.wish s xs ys)
