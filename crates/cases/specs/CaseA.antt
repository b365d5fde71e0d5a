-- Case A of document 01, its variants, and the situations of the document's other cases. Definitions only.
use Rattle.std.specs.Prelude.{true, false, List, [], ◌∷◌, ℕ, ◌^◌, Float, replicate, Option, None, Some}
use Rattle.std.specs.Float.{binary32}
use Rattle.std.specs.Float.Ieee.{neg, of_bits}
use Rattle.lists.specs.Put.{fronted}
use Rattle.floats.specs.Arithmetic.{◌+₃₂◌, zero32}
use Rattle.game.specs.declared.Ball.{Ball}
use Rattle.game.specs.declared.Penalty.{Penalty}
use Rattle.game.specs.declared.Penalty.TheVariants.{NoPenalty}
use Rattle.game.specs.declared.Player.{Player}
use Rattle.game.specs.declared.SetPlay.{SetPlay}
use Rattle.game.specs.declared.SetPlay.TheVariants.{NoSetPlay, KickOff, DirectFreeKick, ThrowIn}
use Rattle.game.specs.declared.Side.TheVariants.{Home}
use Rattle.game.specs.declared.Situation.{Situation}
use Rattle.game.specs.declared.State.{State}
use Rattle.game.specs.declared.State.TheVariants.{Set, Playing}
use Rattle.game.specs.declared.Team.{Team}
use Rattle.game.specs.declared.Wish.{Wish}
use Rattle.game.specs.declared.Wish.TheVariants.{Nothing, BallAtRestart, ForPenalty, Goalkeeper}
use Rattle.cases.specs.Field.{◌over◌, field_with, field_a, game_in, player_with, seen_of, seen_at, at, absent, team, situation_apart, situation_on, situation}
use Rattle.game.specs.declared.Side.{Side}
use Rattle.game.specs.declared.PlayerPose.{PlayerPose}

-- ---- case A
-- Home: 2 at (6.5, 0), 3 at (6.5, 1), 4 as given, 5 at (6.75, 0.5), and those from 6 on; 2, 3 and 4 were inside
abbrev pub home_with : Option PlayerPose → Penalty → List Player → Team
home_with pose penalty from6 =
    team
    (absent
    ∷ player_with (seen_at (13 over 2) zero32) NoPenalty true
    ∷ player_with (seen_at (13 over 2) (1 over 1)) NoPenalty true
    ∷ player_with pose penalty true
    ∷ at (27 over 4) (1 over 2)
    ∷ from6)

-- where 4 is in A: at (6.25, -1)
abbrev pub four : Option PlayerPose
four = seen_at (25 over 4) (neg (1 over 1))

-- the ball at (x, y, 0.125)
abbrev pub ball_at : Float → Float → Ball
ball_at x y = record { x = x; y = y; z = 1 over 8 }

-- FirstHalf, Playing, NoSetPlay, no kicking side, no wish: A with this ball and last contact
abbrev pub with_ball : Ball → Option Side → Situation
with_ball ball contact = situation (game_in Playing NoSetPlay None) (home_with four NoPenalty []) ball contact Nothing

-- A: the ball at (7.25, 1, 0.125), no contact
abbrev pub case_a : Situation
case_a = with_ball (ball_at (29 over 4) (1 over 1)) None

-- ---- its variants
-- A in Set with other players of Home
abbrev pub in_set : Team → Situation
in_set home = situation (game_in Set NoSetPlay None) home (ball_at (29 over 4) (1 over 1)) None Nothing

-- A in Set
abbrev pub case_a_set : Situation
case_a_set = in_set (home_with four NoPenalty [])

-- A in Set with 4 absent and Home 6 added at (6.75, -0.5)
abbrev pub four_absent : Situation
four_absent = in_set (home_with None NoPenalty (at (27 over 4) (neg (1 over 2)) ∷ []))

-- A with the ball at (0, 4.75, 0.125)
abbrev pub untouched : Situation
untouched = with_ball (ball_at zero32 (19 over 4)) None

-- ---- others on its field
-- nobody there, a throw-in with the ball at (8, 4.75), and its place at the restart wished for
abbrev pub throw_in : Situation
throw_in = situation (game_in Playing ThrowIn None) (team []) (ball_at (8 over 1) (19 over 4)) None BallAtRestart

-- Home 2 alone, radius 0.25, at (x, -0), and its penalty place wished for
abbrev pub alone : Float → Situation
alone x = situation (game_in Playing NoSetPlay None) (team (absent ∷ at x (neg zero32) ∷ [])) (ball_at zero32 zero32) None (ForPenalty Home 2)

-- KickOff, Home kicks, Home 2 of radius 0.25 at (0, 0.25)
abbrev pub kick_off_in : State → Situation
kick_off_in state = situation (game_in state KickOff (Some Home)) (team (absent ∷ at zero32 (1 over 4) ∷ [])) (ball_at zero32 zero32) None Nothing

-- ---- zeros of both signs in a place
-- nobody there, Home's direct free kick with the ball at (x, y) and a ball of this radius, and the ball's place at the restart wished for
abbrev pub free_kick : Float → Float → Float → Situation
free_kick radius x y = situation_on (field_with radius) (game_in Playing DirectFreeKick (Some Home)) (team []) (ball_at x y) None BallAtRestart

-- Home 1 alone, its goalkeeper, radius 0.25, at (6, 0.5) with this heading, and the goalkeeper's place wished for
abbrev pub keeper_heading : Float → Situation
keeper_heading theta =
    situation (game_in Playing NoSetPlay None)
    (record { players = fronted (player_with (Some (record { x = 6 over 1; y = 1 over 2; theta = theta; radius = 1 over 4 })) NoPenalty false ∷ []) (replicate 20 absent); goalkeeper = Some 1 })
    (ball_at zero32 zero32) None (Goalkeeper Home)

-- -2^-149: of the values below zero the nearest to it
abbrev pub least : Float
least = of_bits binary32 2147483649

-- ---- the near edge
-- Home 2 alone, of this radius, at (x, y), with the ball at the center; its allowance is 0
abbrev pub reaching : Float → Float → Float → Situation
reaching radius x y = situation (game_in Playing NoSetPlay None) (team (absent ∷ player_with (seen_of radius x y) NoPenalty false ∷ [])) (ball_at zero32 zero32) None Nothing

-- x 8.25, where a robot of radius 0.25 touches the end of the carpet, at 7 + 1, from outside
abbrev pub at_end : Float
at_end = 33 over 4

-- the next value
abbrev pub past_end : Float
past_end = at_end +₃₂ 1 over (2 ^ 20)

-- y 5.75, where it touches the side, at 4.5 + 1
abbrev pub at_side : Float
at_side = 23 over 4

-- the next value
abbrev pub past_side : Float
past_side = at_side +₃₂ 1 over (2 ^ 21)

-- ---- the display
-- Home 1 to n at (0, 7), where each leaves the field and nothing else is said of it, with the ball at the center: n lines after the header
abbrev pub leaving_by : Float → ℕ → SetPlay → Wish → Situation
leaving_by distance n play wish = situation_apart distance field_a (game_in Playing play None) (team (replicate n (at zero32 (7 over 1)))) (ball_at zero32 zero32) None wish

-- those lines alone
abbrev pub crowd : ℕ → Situation
crowd n = leaving_by (1 over 1) n NoSetPlay Nothing

-- the same with a distance that is refused, 0.01
abbrev pub crowd_refused : ℕ → Situation
crowd_refused n = leaving_by (1 over 100) n NoSetPlay Nothing

-- those lines, and the three of the ball's place at a free kick
abbrev pub crowd_and_place : ℕ → Situation
crowd_and_place n = leaving_by (1 over 1) n DirectFreeKick BallAtRestart
