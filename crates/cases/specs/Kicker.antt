-- Who kicks at a kick-off, a throw-in and a penalty kick on the field of case A. At the edge of the mark both sides are shown, at that of the circle only the outer one. Definitions only.
use Rattle.std.specs.Prelude.{◌≡◌, [], ◌∷◌, ◌^◌, Float, None, Some, Option}
use Rattle.std.specs.Float.Ieee.{neg}
use Rattle.floats.specs.Arithmetic.{◌-₃₂◌, zero32}
use Rattle.game.specs.declared.KickingPlayer.{KickingPlayer}
use Rattle.game.specs.declared.Player.{Player}
use Rattle.game.specs.declared.SetPlay.{SetPlay}
use Rattle.game.specs.declared.SetPlay.TheVariants.{KickOff, PenaltyKick, ThrowIn}
use Rattle.game.specs.declared.Side.TheVariants.{Home}
use Rattle.game.specs.declared.State.TheVariants.{Set}
use Rattle.game.specs.declared.Wish.TheVariants.{Nothing}
use Rattle.decision.specs.Decision.{answer_of}
use Rattle.cases.specs.Field.{◌over◌, game_in, at, absent, team, situation}
use Rattle.cases.specs.CaseA.{ball_at}

-- in Set, Home kicks, and 2 and 3 alone are there
abbrev pub kicks : SetPlay → Player → Player → Option KickingPlayer
kicks play second third = (answer_of (situation (game_in Set play (Some Home)) (team (absent ∷ second ∷ third ∷ [])) (ball_at zero32 zero32) None Nothing) [] []).decision.kicker

-- 2 and 3 stand on the halfway line, as far from the center as their y
abbrev pub kicker : SetPlay → Float → Float → Option KickingPlayer
kicker play y2 y3 = kicks play (at zero32 y2) (at zero32 y3)

-- who kicks
pub record KickerCases : Type 0 where
  -- as near: the lower number
  pub as_near : kicker KickOff (1 over 1) (neg (1 over 1)) ≡ Some (record { side = Home; number = 2 })
  -- the nearer one
  pub nearer : kicker KickOff (1 over 1) (1 over 2) ≡ Some (record { side = Home; number = 3 })
  -- 3 touches the mark's edge, at 1/16 + 0.25, and is not on it
  pub at_mark : kicker KickOff (1 over 1) (5 over 16) ≡ Some (record { side = Home; number = 3 })
  -- a bit nearer, by 2^-25, it is
  pub on_mark : kicker KickOff (1 over 1) (5 over 16 -₃₂ 1 over (2 ^ 25)) ≡ Some (record { side = Home; number = 2 })
  -- both touch the circle's edge, at 1.5 + 0.25, from outside: nobody
  pub out_of_circle : kicker KickOff (7 over 4) (neg (7 over 4)) ≡ None
  -- at a throw-in nobody is designated
  pub throw_in : kicker ThrowIn (1 over 1) (1 over 2) ≡ None
  -- a penalty kick: the left goal is Home's, so the mark is at x -5; 2 is 1 away from it, and 3, at 0.5, is nearer
  pub penalty : kicks PenaltyKick (at (neg (4 over 1)) zero32) (at (neg (9 over 2)) zero32) ≡ Some (record { side = Home; number = 3 })
