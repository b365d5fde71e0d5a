-- The items of a decision, as document 01 names them: each player's verdict; each side's excess list; the kicking player; the lists of players leaving
-- and moved; the reference poses after motion; the ball judgment; the place wished for. Definitions only.
use Rattle.std.specs.Prelude.{Bool, cond, List, [], ℕ, eqb, replicate, Float, Option, None, Some, Result}
use Rattle.lists.specs.Table.{table}
use Rattle.game.specs.Game.{is_playing}
use Rattle.game.specs.Players.{player_at, player_numbered, margins_at, team_of, listed, number_at, numbers_where}
use Rattle.game.specs.declared.Ball.{Ball}
use Rattle.game.specs.declared.FieldDimensions.{FieldDimensions}
use Rattle.game.specs.declared.Game.{Game}
use Rattle.game.specs.declared.Player.{Player}
use Rattle.game.specs.declared.PlayerList.{PlayerList}
use Rattle.game.specs.declared.Side.{Side}
use Rattle.game.specs.declared.Side.TheVariants.{Home, Away}
use Rattle.game.specs.declared.Situation.{Situation}
use Rattle.game.specs.declared.Team.{Team}
use Rattle.game.specs.declared.Wish.{Wish}
use Rattle.game.specs.declared.Wish.TheVariants.{Nothing, BallAtRestart, BallInSet, ForPenalty, ForPenaltyShot, Goalkeeper}
use Rattle.geometry.specs.Geometry.{side_to_sign, compute_margins, is_leaving_the_field}
use Rattle.positioning.specs.Positioning.{is_set_or_playing, is_illegally_positioned}
use Rattle.game.specs.declared.Positioning.TheVariants.{Legal}
use Rattle.counts.specs.Counts.{players_on_field}
use Rattle.excess.specs.Excess.{goal_area_excess}
use Rattle.kicker.specs.Kicker.{determine_kicking_player}
use Rattle.motion.specs.Motion.{moved_players, references_after}
use Rattle.ball.specs.Ball.{ball_judgment}
use Rattle.places.specs.Places.{ball_at_restart, ball_in_set, penalty_shot_place, penalty_goalkeeper_place}
use Rattle.game.specs.declared.BallJudgment.{BallJudgment}
use Rattle.game.specs.declared.BallJudgment.TheVariants.{NoJudgment}
use Rattle.game.specs.declared.Placement.{Placement}
use Rattle.game.specs.declared.Placement.TheVariants.{NoPlace}
use Rattle.penalty.specs.Penalty.{place_for_penalty}
use Rattle.refusals.specs.Refusals.{refusal_of}
use Rattle.game.specs.declared.KickingPlayer.{KickingPlayer}
use Rattle.game.specs.declared.SideDecision.{SideDecision}
use Rattle.game.specs.declared.Decision.{Decision}
use Rattle.refusal.specs.Refusal.{unless_refused}
use Rattle.refusal.specs.declared.Refusal.{Refusal}
use Rattle.game.specs.declared.Margins.{Margins}
use Rattle.game.specs.declared.Positioning.{Positioning}

-- ---- each player's verdict, Legal too
-- the verdict on the player at the place i, whose number is i + 1
abbrev pub verdict_at : Game → FieldDimensions → Ball → Side → Team → List (Option Margins) → ℕ → Positioning
verdict_at g f b side t margins i = is_illegally_positioned g f b side t.goalkeeper (number_at i) (player_at t i) (margins_at margins i)

-- the verdicts on a side's players by their places
unfoldable pub team_verdicts : Game → FieldDimensions → Ball → Side → Team → List (Option Margins) → List Positioning
team_verdicts g f b side t margins = table 20 (verdict_at g f b side t margins)

-- ---- a side's excess list, empty where it is not asked
-- outside the shoot-out in Set or Playing
abbrev pub is_excess_asked : Game → Bool
is_excess_asked g = is_set_or_playing g

-- no player
unfoldable pub empty_list : PlayerList
empty_list = listed []

-- newcomers come first in Playing only
unfoldable pub team_excess : Game → Team → List (Option Margins) → PlayerList
team_excess g t margins = cond (is_excess_asked g) (goal_area_excess t margins (is_playing g.state)) empty_list

-- ---- the kicking player or none
-- the player of a side with this number, where there is one
abbrev pub kicker_numbered : Side → Option ℕ → Option KickingPlayer
kicker_numbered side None = None
kicker_numbered side (Some n) = Some (record { side = side; number = n })

-- by the side that kicks
abbrev pub kicker_of : Side → Game → Team → Team → FieldDimensions → List (Option Margins) → List (Option Margins) → Option KickingPlayer
kicker_of Home g home away f homeMargins awayMargins = kicker_numbered Home (determine_kicking_player g home f homeMargins Home)
kicker_of Away g home away f homeMargins awayMargins = kicker_numbered Away (determine_kicking_player g away f awayMargins Away)

-- none without a kicking side
abbrev pub kicker_if_any : Option Side → Game → Team → Team → FieldDimensions → List (Option Margins) → List (Option Margins) → Option KickingPlayer
kicker_if_any None g home away f homeMargins awayMargins = None
kicker_if_any (Some side) g home away f homeMargins awayMargins = kicker_of side g home away f homeMargins awayMargins

-- the kicking player, given both teams with their margins
unfoldable pub kicking_player : Game → Team → Team → FieldDimensions → List (Option Margins) → List (Option Margins) → Option KickingPlayer
kicking_player g home away f homeMargins awayMargins = kicker_if_any g.kicking_side g home away f homeMargins awayMargins

-- ---- the players leaving the field
-- a player leaves the field, by its own allowance
abbrev pub is_leaving : Player → FieldDimensions → Bool
is_leaving p f = is_leaving_the_field p f p.allowance

-- the numbers of those of a team's players that leave the field, ascending
unfoldable pub leaving_players : Team → FieldDimensions → PlayerList
leaving_players t f = numbers_where (λ i. is_leaving (player_at t i) f)

-- ---- the ball judgment, or none
-- where so many players of Home and of Away are on the field
unfoldable pub ball_called_among : Situation → ℕ → ℕ → BallJudgment
ball_called_among s home away = ball_judgment s.game s.field s.ball s.last_contact s.restart s.invalid_goals_judged s.ball_rested home away

-- by the players that both sides have there
unfoldable pub ball_called : Situation → BallJudgment
ball_called s = ball_called_among s (players_on_field s.home) (players_on_field s.away)

-- ---- the place wished for, or none
-- of a player selected for a penalty shot
abbrev pub shot_place_of : Situation → Side → ℕ → Placement
shot_place_of s side number = penalty_shot_place s.game s.field side number (player_numbered (team_of s side) number)

-- of a side's goalkeeper
abbrev pub goalkeeper_place_of : Situation → Side → Placement
goalkeeper_place_of s side = penalty_goalkeeper_place s.game s.field side (team_of s side)

-- by the wish, the earlier places of the batch given
abbrev pub place_for : Wish → Situation → List Float → List Float → Placement
place_for Nothing s xs ys = NoPlace
place_for BallAtRestart s xs ys = ball_at_restart s.game s.field s.ball
place_for BallInSet s xs ys = ball_in_set s.game s.field
place_for (ForPenalty side number) s xs ys = place_for_penalty s.game.sides s.field s.penalty_placement_distance s.home s.away xs ys side number
place_for (ForPenaltyShot side number) s xs ys = shot_place_of s side number
place_for (Goalkeeper side) s xs ys = goalkeeper_place_of s side

-- the place that the situation's wish asks for
unfoldable pub wished_place : Situation → List Float → List Float → Placement
wished_place s xs ys = place_for s.wish s xs ys

-- ---- the decision
-- the margins of a side's players
unfoldable pub team_margins : Game → FieldDimensions → Side → Team → List (Option Margins)
team_margins g f side t = compute_margins t f (side_to_sign side g.sides)

-- the items of one side, by its margins
unfoldable pub team_decision : Game → FieldDimensions → Ball → Side → Team → List (Option Margins) → SideDecision
team_decision g f b side t margins =
    record {
      verdicts = team_verdicts g f b side t margins;
      excess = team_excess g t margins;
      leaving = leaving_players t f;
      moved = moved_players t;
      references = references_after t;
    }

-- the margins of a side's players in a situation
unfoldable pub side_margins : Situation → Side → List (Option Margins)
side_margins s side = team_margins s.game s.field side (team_of s side)

-- the items of one side
unfoldable pub side_decision : Situation → Side → SideDecision
side_decision s side = team_decision s.game s.field s.ball side (team_of s side) (side_margins s side)

-- the items of a decision, the earlier places of the batch given
unfoldable pub decision_of : Situation → List Float → List Float → Decision
decision_of s xs ys =
    record {
      home = side_decision s Home;
      away = side_decision s Away;
      kicker = kicking_player s.game s.home s.away s.field (side_margins s Home) (side_margins s Away);
      ball = ball_called s;
      place = wished_place s xs ys;
    }

-- every verdict Legal, no lists and no references
unfoldable pub empty_side : SideDecision
empty_side =
    record {
      verdicts = replicate 20 Legal;
      excess = empty_list;
      leaving = empty_list;
      moved = empty_list;
      references = replicate 20 None;
    }

-- the decision beside a refusal
unfoldable pub empty_decision : Decision
empty_decision = record { home = empty_side; away = empty_side; kicker = None; ball = NoJudgment; place = NoPlace }

-- the number of the refusal, or 0 beside the decision
pub record Answer : Type 0 where
  pub refusal : ℕ
  pub decision : Decision

-- a refusal gives its number only
unfoldable pub answer_of : Situation → List Float → List Float → Answer
answer_of s xs ys =
    record { refusal = refusal_of s xs ys; decision = cond (eqb (refusal_of s xs ys) 0) (decision_of s xs ys) empty_decision }

-- an answer by its number: the decision beside 0, otherwise the refusal alone
abbrev pub answered : Answer → Result Decision Refusal
answered a = unless_refused a.refusal a.decision
