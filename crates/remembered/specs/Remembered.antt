-- What is remembered of the players of a side between frames, and what a frame makes of it. Each part has the name of the function of the original that it is from. Definitions only.
use Rattle.std.specs.Prelude.{◌≡◌, Bool, true, false, not, cond, ◌&&◌, ◌||◌, List, ℕ, get_or, Float, Option, None, Some}
use Rattle.std.specs.Float.{binary32}
use Rattle.std.specs.Float.Ieee.{of_bits}
use Rattle.lists.specs.Table.{table}
use Rattle.floats.specs.Arithmetic.{◌+₃₂◌, zero32}
use Rattle.floats.specs.Leaves.{maximum_number}
use Rattle.game.specs.Game.{is_unpenalized, is_present}
use Rattle.game.specs.Players.{player_at, margins_at}
use Rattle.game.specs.declared.Ball.{Ball}
use Rattle.game.specs.declared.FieldDimensions.{FieldDimensions}
use Rattle.game.specs.declared.Game.{Game}
use Rattle.game.specs.declared.Player.{Player}
use Rattle.game.specs.declared.PlayerPose.{PlayerPose}
use Rattle.game.specs.declared.Side.{Side}
use Rattle.game.specs.declared.Team.{Team}
use Rattle.geometry.specs.Geometry.{is_outside_field, carpet_excess}
use Rattle.avoidance.specs.Avoidance.{is_avoidance_region_active, is_in_avoidance_region}
use Rattle.remembered.specs.declared.Remembered.{Remembered}
use Rattle.game.specs.declared.Margins.{Margins}

-- nothing, of a player past the last one
abbrev pub nothing : Remembered
nothing = record { returning = false; return_allowance = None; left_avoidance = false; in_goal_area = false; present = false }

-- of the player at the place i
abbrev pub remembered_at : List Remembered → ℕ → Remembered
remembered_at l i = get_or l i nothing

-- ---- observe: a set play that has just begun has been left by nobody
abbrev pub observe_player : Bool → Remembered → Remembered
observe_player began r =
    record { returning = r.returning; return_allowance = r.return_allowance; left_avoidance = r.left_avoidance && not began; in_goal_area = r.in_goal_area; present = r.present }

unfoldable pub observe_players : Bool → List Remembered → List Remembered
observe_players began l = table 20 (λ i. observe_player began (remembered_at l i))

-- ---- detect_movement: who is present
abbrev pub detect_player : Player → Remembered → Remembered
detect_player p r =
    record { returning = r.returning; return_allowance = r.return_allowance; left_avoidance = r.left_avoidance; in_goal_area = r.in_goal_area; present = is_present p.pose }

unfoldable pub detect_movement : Team → List Remembered → List Remembered
detect_movement t l = table 20 (λ i. detect_player (player_at t i) (remembered_at l i))

-- ---- update_returning: who has been penalised and not been on the field since, and how far beyond the carpet's edge it was when it was unpenalised
-- a player is there, and a part of it is on the field of play
abbrev pub is_on_field_of_play : Option PlayerPose → FieldDimensions → Bool
is_on_field_of_play None f = false
is_on_field_of_play (Some p) f = not (is_outside_field p f)

-- how far a player is beyond the edge of the carpet, at least 0; none where it is absent
abbrev pub allowance_at : Option PlayerPose → FieldDimensions → Option Float
allowance_at None f = None
allowance_at (Some p) f = Some (maximum_number (carpet_excess p f) zero32)

abbrev pub has_allowance : Option Float → Bool
has_allowance None = false
has_allowance (Some a) = true

-- with these two
abbrev pub returning_with : Remembered → Bool → Option Float → Remembered
returning_with r returning allowance =
    record { returning = returning; return_allowance = allowance; left_avoidance = r.left_avoidance; in_goal_area = r.in_goal_area; present = r.present }

-- a penalised player is returning; on the field it no longer is; and the first frame in which it is returning, unpenalised and present gives its allowance
unfoldable pub update_returning : FieldDimensions → Player → Remembered → Remembered
update_returning f p r =
    cond (not (is_unpenalized p.penalty)) (returning_with r true None)
    (cond (is_on_field_of_play p.pose f) (returning_with r false None)
    (cond (r.returning && not (has_allowance r.return_allowance)) (returning_with r true (allowance_at p.pose f)) r))

unfoldable pub returning_players : Team → FieldDimensions → List Remembered → List Remembered
returning_players t f l = table 20 (λ i. update_returning f (player_at t i) (remembered_at l i))

-- ---- update_avoidance: who has been outside the avoidance region since the set play began; while it is not in effect nobody can leave it
-- `active` tells that it is in effect, `left` that the player has been outside before
abbrev pub left_avoidance : Bool → Game → FieldDimensions → Ball → Side → Player → Option Margins → Bool → Bool
left_avoidance active g f b side p m left = cond active (left || not (is_in_avoidance_region g f b side p m)) left

abbrev pub avoidance_player : Bool → Game → FieldDimensions → Ball → Side → Player → Option Margins → Remembered → Remembered
avoidance_player active g f b side p m r =
    record {
      returning = r.returning;
      return_allowance = r.return_allowance;
      left_avoidance = left_avoidance active g f b side p m r.left_avoidance;
      in_goal_area = r.in_goal_area;
      present = r.present;
    }

unfoldable pub avoidance_players : Game → FieldDimensions → Ball → Side → Team → List (Option Margins) → List Remembered → List Remembered
avoidance_players g f b side t margins l = table 20 (λ i. avoidance_player (is_avoidance_region_active g) g f b side (player_at t i) (margins_at margins i) (remembered_at l i))

-- ---- the four, one after the other
unfoldable pub framed_players : Bool → Game → FieldDimensions → Ball → Side → Team → List (Option Margins) → List Remembered → List Remembered
framed_players began g f b side t margins l = avoidance_players g f b side t margins (returning_players t f (detect_movement t (observe_players began l)))

-- ---- the frame as it is judged
-- 0.05, how much further than when it was unpenalised a returning player may be beyond the edge of the carpet
abbrev pub return_tolerance : Float
return_tolerance = of_bits binary32 0x3d4c_cccd

-- the allowance by which a player is judged
abbrev pub tolerated : Option Float → Float
tolerated None = zero32
tolerated (Some a) = a +₃₂ return_tolerance

-- a player with its allowance and whether it was inside its goal area as they are remembered
abbrev pub judged_player : Player → Remembered → Player
judged_player p r = record { pose = p.pose; reference = p.reference; penalty = p.penalty; allowance = tolerated r.return_allowance; previously_inside = r.in_goal_area }

unfoldable pub judged_team : Team → List Remembered → Team
judged_team t l = record { players = table 20 (λ i. judged_player (player_at t i) (remembered_at l i)); goalkeeper = t.goalkeeper }

-- ---- the last frame as a touch sees it
-- some pose: of the last frame's poses it is remembered only whether they were there
abbrev pub some_pose : PlayerPose
some_pose = record { x = zero32; y = zero32; theta = zero32; radius = zero32 }

abbrev pub last_seen : Bool → Option PlayerPose
last_seen true = Some some_pose
last_seen false = None

-- a player as present as it was in the last frame, its penalty the frame's own
abbrev pub last_seen_player : Player → Remembered → Player
last_seen_player p r = record { pose = last_seen r.present; reference = p.reference; penalty = p.penalty; allowance = p.allowance; previously_inside = p.previously_inside }

unfoldable pub last_seen_team : Team → List Remembered → Team
last_seen_team t l = record { players = table 20 (λ i. last_seen_player (player_at t i) (remembered_at l i)); goalkeeper = t.goalkeeper }

-- ---- of the private functions
-- the four, of one player
unfoldable pub framed_player : Bool → Bool → Game → FieldDimensions → Ball → Side → Player → Option Margins → Remembered → Remembered
framed_player began active g f b side p m r = avoidance_player active g f b side p m (update_returning f p (detect_player p (observe_player began r)))

-- a change of a player, known by what it may give, gives what this function of the player and what is remembered of it does
abbrev pub Gives : (Player → Remembered → Player → Type 0) → (Player → Remembered → Player) → Type 0
Gives post by = (p : Player) (r : Remembered) (q : Player) → post p r q → q ≡ by p r

-- a team whose players are each changed by what is remembered of it
abbrev pub mapped_team : (Player → Remembered → Player) → Team → List Remembered → Team
mapped_team by t l = record { players = table 20 (λ i. by (player_at t i) (remembered_at l i)); goalkeeper = t.goalkeeper }
