-- Who is penalised in a frame, as penalize_players and the method is_illegally_positioned. Definitions only.
use Rattle.std.specs.Prelude.{Bool, false, not, cond, ◌&&◌, ◌||◌, List, ℕ, zero, suc, ltb, eqb, get_or, Option, None, Some}
use Rattle.lists.specs.Table.{table}
use Rattle.lists.specs.Fold.{fold_to}
use Rattle.game.specs.Game as Game
use Rattle.game.specs.Game.{is_number, is_shootout, is_set, is_unpenalized}
use Rattle.game.specs.Players.{player_at, margins_at, number_at}
use Rattle.game.specs.declared.FieldDimensions.{FieldDimensions}
use Rattle.game.specs.declared.Game.{Game}
use Rattle.game.specs.declared.Player.{Player}
use Rattle.game.specs.declared.PlayerList.{PlayerList}
use Rattle.game.specs.declared.Positioning.{Positioning}
use Rattle.game.specs.declared.Positioning.TheVariants.{Legal, Illegal, IllegalUnlessKicker, InAvoidanceRegion}
use Rattle.game.specs.declared.State.{State}
use Rattle.game.specs.declared.Team.{Team}
use Rattle.geometry.specs.Geometry.{is_outside_field, is_leaving_the_field}
use Rattle.excess.specs.Excess.{is_in_goal_area}
use Rattle.remembered.specs.declared.Remembered.{Remembered}
use Rattle.penalties.specs.declared.PlayerCall.{PlayerCall}
use Rattle.penalties.specs.declared.PlayerCall.TheVariants.{LeavingTheField, IllegalPosition}
use Rattle.penalties.specs.declared.Asked.{Asked}
use Rattle.penalties.specs.declared.Penalized.{Penalized}
use Rattle.remembered.specs.Remembered.{remembered_at}
use Rattle.game.specs.declared.Margins.{Margins}
use Rattle.game.specs.declared.PlayerPose.{PlayerPose}

-- ---- the method is_illegally_positioned
-- a player is there, and no part of it is on the field of play
abbrev pub is_seen_outside : Option PlayerPose → FieldDimensions → Bool
is_seen_outside None f = false
is_seen_outside (Some p) f = is_outside_field p f

-- in Set outside a shoot-out an unpenalised player must be on the field, unless it is still returning from a penalty
abbrev pub is_outside_in_set : Game → FieldDimensions → Player → Bool → Bool
is_outside_in_set g f p returning = not (is_shootout g.phase) && is_set g.state && is_unpenalized p.penalty && not returning && is_seen_outside p.pose f

abbrev pub is_playing : State → Bool
is_playing = Game.is_playing

-- the kicking player once a player that may stand there only as the kicker is asked: where nobody is named yet, the first that is asked in Playing
abbrev pub first_kicker : Bool → ℕ → Option ℕ → Option ℕ
first_kicker playing n None = cond playing (Some n) None
first_kicker playing n (Some k) = Some k

abbrev pub position_call : Bool → Option PlayerCall
position_call illegal = cond illegal (Some IllegalPosition) None

-- the call for a verdict, and the kicking player after it. In the avoidance region a player is called once it has been outside, or the time to leave is over
abbrev pub judged_position : State → Positioning → Bool → Bool → ℕ → Option ℕ → Asked
judged_position state Legal left grace n k = record { call = None; kicking_player = k }
judged_position state Illegal left grace n k = record { call = Some IllegalPosition; kicking_player = k }
judged_position state IllegalUnlessKicker left grace n k = record { call = position_call (not (is_number (first_kicker (is_playing state) n k) n)); kicking_player = first_kicker (is_playing state) n k }
judged_position state InAvoidanceRegion left grace n k = record { call = position_call (left || grace); kicking_player = k }

-- ---- penalize_players
-- one player: leaving, then excess in the goal area, then the method, which is asked of nobody else and so names no kicker before it
unfoldable pub asked_player : Game → FieldDimensions → Player → Remembered → Positioning → Bool → Bool → ℕ → Option ℕ → Asked
asked_player g f p r verdict excess grace n k =
    cond (is_leaving_the_field p f p.allowance) (record { call = Some LeavingTheField; kicking_player = k })
    (cond (excess || is_outside_in_set g f p r.returning) (record { call = Some IllegalPosition; kicking_player = k })
    (judged_position g.state verdict r.left_avoidance grace n k))

-- one of the first n places passes
unfoldable pub some_to : ℕ → (ℕ → Bool) → Bool
some_to zero P = false
some_to (suc n) P = some_to n P || P n

-- the number is in the list
unfoldable pub is_listed : PlayerList → ℕ → Bool
unfolding some_to
is_listed l n = some_to 20 (λ i. ltb i l.count && eqb (get_or l.numbers i 0) n)

-- the verdict at a place
abbrev pub verdict_in : List Positioning → ℕ → Positioning
verdict_in l i = get_or l i Legal

-- the player at the place i, where k is the kicking player before it. The verdicts and the excess are those of the frame's decision
abbrev pub asked_at : Game → FieldDimensions → Team → List Positioning → PlayerList → List Remembered → Bool → ℕ → Option ℕ → Asked
asked_at g f t verdicts excess l grace i k =
    asked_player g f (player_at t i) (remembered_at l i) (verdict_in verdicts i) (is_listed excess (number_at i)) grace (number_at i) k

-- the kicking player before the place i is asked: each player before it in turn, from k on
unfoldable pub kicking_before : Game → FieldDimensions → Team → List Positioning → PlayerList → List Remembered → Bool → Option ℕ → ℕ → Option ℕ
kicking_before g f t verdicts excess l grace k i = fold_to i (λ j now. (asked_at g f t verdicts excess l grace j now).kicking_player) k

-- the call on the player at the place i
abbrev pub called_at : Game → FieldDimensions → Team → List Positioning → PlayerList → List Remembered → Bool → Option ℕ → ℕ → Option PlayerCall
called_at g f t verdicts excess l grace k i = (asked_at g f t verdicts excess l grace i (kicking_before g f t verdicts excess l grace k i)).call

-- the calls on a side's players, and the kicking player after them
unfoldable pub penalize_players : Game → FieldDimensions → Team → List Positioning → PlayerList → List Remembered → Bool → Option ℕ → Penalized
penalize_players g f t verdicts excess l grace k =
    record { calls = table 20 (called_at g f t verdicts excess l grace k); kicking_player = kicking_before g f t verdicts excess l grace k 20 }

-- who is in its own goal area, for the next frame
abbrev pub inside_player : Player → Option Margins → Remembered → Remembered
inside_player p m r =
    record { returning = r.returning; return_allowance = r.return_allowance; left_avoidance = r.left_avoidance; in_goal_area = is_in_goal_area p m; present = r.present }

unfoldable pub inside_players : Team → List (Option Margins) → List Remembered → List Remembered
inside_players t margins l = table 20 (λ i. inside_player (player_at t i) (margins_at margins i) (remembered_at l i))

-- ---- of the private functions
-- which of a side's players are in a list, by their places
abbrev pub listed_flags : PlayerList → List Bool
listed_flags l = table 20 (λ i. is_listed l (number_at i))
