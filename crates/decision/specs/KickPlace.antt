-- No decision reads the kick place of the Restart record. Definitions only.
use Rattle.std.specs.Prelude.{◌≡◌, List, Float, Option, None, Some}
use Rattle.game.specs.declared.Restart.{Restart}
use Rattle.game.specs.declared.Situation.{Situation}
use Rattle.decision.specs.Decision.{decision_of}

-- the record with another kick place
abbrev pub kicked_at : Float → Float → Restart → Restart
kicked_at x y r =
    record {
      kind = r.kind;
      set_play = r.set_play;
      side = r.side;
      kicker = r.kicker;
      kick_x = x;
      kick_y = y;
      other_touch = r.other_touch;
      kicker_touched_outside_center_circle = r.kicker_touched_outside_center_circle;
      kicker_touched_far_from_kick = r.kicker_touched_far_from_kick;
      ball_moved_since_kick = r.ball_moved_since_kick;
    }

-- where there is a record
abbrev pub restart_kicked_at : Float → Float → Option Restart → Option Restart
restart_kicked_at x y None = None
restart_kicked_at x y (Some r) = Some (kicked_at x y r)

-- the situation with it
abbrev pub with_kick_at : Float → Float → Situation → Situation
with_kick_at x y s =
    record {
      field = s.field;
      penalty_placement_distance = s.penalty_placement_distance;
      game = s.game;
      home = s.home;
      away = s.away;
      ball = s.ball;
      last_contact = s.last_contact;
      restart = restart_kicked_at x y s.restart;
      invalid_goals_judged = s.invalid_goals_judged;
      ball_rested = s.ball_rested;
      wish = s.wish;
    }

-- the claim: any other kick place gives the same decision
abbrev pub KickPlaceClaim : Type 0
KickPlaceClaim = (x y : Float) (s : Situation) (xs ys : List Float) → decision_of (with_kick_at x y s) xs ys ≡ decision_of s xs ys
