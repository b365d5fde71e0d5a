-- Where a player may stand in a set play: the test of the rules that settles the verdict on its position, and the verdict. The test is the innermost one that leads to the verdict; of several
-- joined by `or` it is the first that holds. Definitions only.
use Rattle.std.specs.Prelude.{Bool, true, false, not, ◌&&◌, ◌||◌, List, ℕ, Float, Option, None, Some}
use Rattle.std.specs.Float.Ieee.{neg, lt}
use Rattle.floats.specs.Arithmetic.{◌-₃₂◌}
use Rattle.lists.specs.Table.{table}
use Rattle.hypot.specs.Hypot.{hypot}
use Rattle.game.specs.Game.{is_side, is_number, is_shootout, is_set, is_playing, is_unpenalized}
use Rattle.game.specs.Players.{player_at, margins_at, number_at}
use Rattle.game.specs.declared.Ball.{Ball}
use Rattle.game.specs.declared.FieldDimensions.{FieldDimensions}
use Rattle.game.specs.declared.Game.{Game}
use Rattle.game.specs.declared.Margins.{Margins}
use Rattle.game.specs.declared.Penalty.{Penalty}
use Rattle.game.specs.declared.Player.{Player}
use Rattle.game.specs.declared.PlayerPose.{PlayerPose}
use Rattle.game.specs.declared.Positioning.{Positioning}
use Rattle.game.specs.declared.SetPlay.{SetPlay}
use Rattle.game.specs.declared.SetPlay.TheVariants.{NoSetPlay, KickOff, DirectFreeKick, IndirectFreeKick, PenaltyKick, ThrowIn, GoalKick, CornerKick}
use Rattle.game.specs.declared.Side.{Side}
use Rattle.game.specs.declared.State.{State}
use Rattle.game.specs.declared.Team.{Team}
use Rattle.geometry.specs.Geometry.{side_to_sign, team_x, in_circle, on_mark, is_inside, in_opponent_half, mark_x}
use Rattle.conditions.specs.Conditions.{first_of, verdict_of}
use Rattle.conditions.specs.declared.Condition.{Condition}
use Rattle.conditions.specs.declared.Condition.TheVariants.{NoCondition, OnCenterMark, OutsideCircle, InCircle, InOpponentHalf, InCenterCircle, OnPenaltyMark, BeyondPenaltyMark, InOpponentPenaltyArea, NearPenaltyMark, InOwnPenaltyArea, BehindOwnMark, NearOwnMark}
use Rattle.avoidance.specs.Avoidance.{avoidance_condition}

-- ---- kick-off
-- by four tests. The kicking side: on the mark in Set; of those in the other half who is not in the circle, and who is. The others: in the other half; in the circle.
abbrev pub kick_off_tests : Bool → Bool → Bool → Bool → Condition
kick_off_tests kicking mark half circle =
    first_of kicking
    (first_of mark OnCenterMark (first_of (not half) NoCondition (first_of (not circle) OutsideCircle InCircle)))
    (first_of half InOpponentHalf (first_of circle InCenterCircle NoCondition))

-- the mark is forbidden in Set alone: in Playing the kicker goes to the ball
unfoldable pub kick_off_condition : Game → FieldDimensions → Side → PlayerPose → Condition
kick_off_condition g f side p =
    let center = hypot p.x p.y in
    kick_off_tests (is_side g.kicking_side side) (is_set g.state && on_mark center f p) (in_opponent_half p f (team_x (side_to_sign side g.sides) p)) (in_circle center f p)

-- ---- penalty kick
-- the kicking side: on the mark in Set; beyond it; in the penalty area; near the mark
unfoldable pub attack_condition : State → FieldDimensions → Float → PlayerPose → Margins → Condition
attack_condition state f x p m =
    let mark = hypot (x -₃₂ mark_x f) p.y in
    first_of (is_set state && on_mark mark f p) OnPenaltyMark
    (first_of (lt (mark_x f) x) BeyondPenaltyMark
    (first_of (is_inside m.opponent_penalty_area) InOpponentPenaltyArea
    (first_of (in_circle mark f p) NearPenaltyMark NoCondition)))

-- the others: in their own penalty area; behind their mark; near it
unfoldable pub defence_condition : FieldDimensions → Float → PlayerPose → Margins → Condition
defence_condition f x p m =
    first_of (is_inside m.own_penalty_area) InOwnPenaltyArea
    (first_of (lt x (neg (mark_x f))) BehindOwnMark
    (first_of (in_circle (hypot (x -₃₂ neg (mark_x f)) p.y) f p) NearOwnMark NoCondition))

-- the goalkeeper of a side that does not kick is exempt, the kicking side's is not
unfoldable pub penalty_kick_condition : Game → FieldDimensions → Side → Bool → PlayerPose → Margins → Condition
penalty_kick_condition g f side goalkeeper p m =
    let x = team_x (side_to_sign side g.sides) p in
    first_of (is_side g.kicking_side side) (attack_condition g.state f x p m) (first_of goalkeeper NoCondition (defence_condition f x p m))

-- ---- every set play
-- by the set play, where `avoidance` is the condition by which the player is in an avoidance region
abbrev pub set_play_condition : SetPlay → Game → FieldDimensions → Side → Bool → Condition → PlayerPose → Margins → Condition
set_play_condition NoSetPlay g f side goalkeeper avoidance p m = NoCondition
set_play_condition KickOff g f side goalkeeper avoidance p m = kick_off_condition g f side p
set_play_condition DirectFreeKick g f side goalkeeper avoidance p m = avoidance
set_play_condition IndirectFreeKick g f side goalkeeper avoidance p m = avoidance
set_play_condition PenaltyKick g f side goalkeeper avoidance p m = penalty_kick_condition g f side goalkeeper p m
set_play_condition ThrowIn g f side goalkeeper avoidance p m = avoidance
set_play_condition GoalKick g f side goalkeeper avoidance p m = avoidance
set_play_condition CornerKick g f side goalkeeper avoidance p m = avoidance

-- the same where pose and margins are there; an absent player has none
abbrev pub seen_condition : Option PlayerPose → Option Margins → Game → FieldDimensions → Side → Bool → Condition → Condition
seen_condition None m g f side goalkeeper avoidance = NoCondition
seen_condition (Some p) None g f side goalkeeper avoidance = NoCondition
seen_condition (Some p) (Some m) g f side goalkeeper avoidance = set_play_condition g.set_play g f side goalkeeper avoidance p m

-- in Set or Playing outside the shoot-out
abbrev pub is_set_or_playing : Game → Bool
is_set_or_playing g = not (is_shootout g.phase) && (is_set g.state || is_playing g.state)

-- an unpenalised player in Set or Playing outside the shoot-out
abbrev pub is_judged : Game → Penalty → Bool
is_judged g penalty = is_set_or_playing g && is_unpenalized penalty

-- the condition that settles the verdict on the player with this number, given its team's goalkeeper
unfoldable pub condition_of : Game → FieldDimensions → Ball → Side → Option ℕ → ℕ → Player → Option Margins → Condition
condition_of g f b side goalkeeper number player m =
    first_of (is_judged g player.penalty) (seen_condition player.pose m g f side (is_number goalkeeper number) (avoidance_condition g f b side player m)) NoCondition

-- the condition on the player at the place i, whose number is i + 1
abbrev pub condition_at : Game → FieldDimensions → Ball → Side → Team → List (Option Margins) → ℕ → Condition
condition_at g f b side t margins i = condition_of g f b side t.goalkeeper (number_at i) (player_at t i) (margins_at margins i)

-- the conditions on a team's players by their places
unfoldable pub team_conditions : Game → FieldDimensions → Ball → Side → Team → List (Option Margins) → List Condition
team_conditions g f b side t margins = table 20 (condition_at g f b side t margins)

-- ---- whether anybody can have a condition
-- a set play is on
abbrev pub is_set_play : SetPlay → Bool
is_set_play NoSetPlay = false
is_set_play KickOff = true
is_set_play DirectFreeKick = true
is_set_play IndirectFreeKick = true
is_set_play PenaltyKick = true
is_set_play ThrowIn = true
is_set_play GoalKick = true
is_set_play CornerKick = true

-- in Set or Playing outside the shoot-out while a set play is on; otherwise nobody has a condition
abbrev pub is_judging : Game → Bool
is_judging g = is_set_play g.set_play && is_set_or_playing g

-- ---- the verdict
-- the verdict on the player with this number, given its team's goalkeeper: that which the condition settles
unfoldable pub is_illegally_positioned : Game → FieldDimensions → Ball → Side → Option ℕ → ℕ → Player → Option Margins → Positioning
is_illegally_positioned g f b side goalkeeper number player m = verdict_of (condition_of g f b side goalkeeper number player m)
