-- What is refused: requirements 1 to 5 of document 01's table, in their order. Definitions only.
use Rattle.std.specs.Prelude.{Bool, true, ◌&&◌, ◌||◌, List, [], ◌∷◌, ℕ, leb, eqb, length, get_or, Float, Option, None, Some}
use Rattle.std.specs.Float.{nan}
use Rattle.std.specs.Float.Ieee.{neg, lt, le}
use Rattle.lists.specs.Every.{every_to}
use Rattle.lists.specs.Refusals.{Requirement, first_refusal}
use Rattle.floats.specs.Arithmetic.{zero32, sixty_fourth, one, four, sixty_four}
use Rattle.game.specs.Players.{player_at, min_number, max_number}
use Rattle.game.specs.declared.FieldDimensions.{FieldDimensions}
use Rattle.game.specs.declared.PlayerPose.{PlayerPose}
use Rattle.game.specs.declared.Player.{Player}
use Rattle.game.specs.declared.Team.{Team}
use Rattle.game.specs.declared.Ball.{Ball}
use Rattle.game.specs.declared.Wish.{Wish}
use Rattle.game.specs.declared.Wish.TheVariants.{Nothing, BallAtRestart, BallInSet, ForPenalty, ForPenaltyShot, Goalkeeper}
use Rattle.game.specs.declared.Situation.{Situation}
use Rattle.game.specs.declared.Restart.{Restart}

-- from lo to hi; a NaN is not
abbrev pub within : Float → Float → Float → Bool
within lo x hi = le lo x && le x hi

-- ---- 1: a field size is NaN or out of range
-- from 0 to 64
abbrev pub is_size : Float → Bool
is_size x = within zero32 x sixty_four

-- length and width 4 to 64, line width 0 to 1, the others 0 to 64
unfoldable pub field_fits : FieldDimensions → Bool
field_fits f =
    within four f.length sixty_four
    && within four f.width sixty_four
    && is_size f.goal_width
    && is_size f.goal_height
    && is_size f.goal_area_length
    && is_size f.goal_area_width
    && is_size f.penalty_area_length
    && is_size f.penalty_area_width
    && is_size f.penalty_mark_distance
    && is_size f.center_circle_radius
    && is_size f.border_strip_width
    && is_size f.mark_radius
    && within zero32 f.line_width one
    && is_size f.ball_radius

-- ---- 2: a pose, an allowance or an earlier place out of range, or the lists' lengths
-- at most 64 either way
abbrev pub is_coordinate : Float → Bool
is_coordinate x = within (neg sixty_four) x sixty_four

-- above 0 and at most 1
abbrev pub is_radius : Float → Bool
is_radius r = lt zero32 r && le r one

unfoldable pub pose_fits : PlayerPose → Bool
pose_fits p = is_coordinate p.x && is_coordinate p.y && is_coordinate p.theta && is_radius p.radius

-- the pose that is seen or that motion is measured from, where it is there
abbrev pub maybe_pose_fits : Option PlayerPose → Bool
maybe_pose_fits None = true
maybe_pose_fits (Some p) = pose_fits p

-- the allowance of an absent player too
abbrev pub player_fits : Player → Bool
player_fits p = maybe_pose_fits p.pose && maybe_pose_fits p.reference && is_coordinate p.allowance

-- each of the 20 players
unfoldable pub team_fits : Team → Bool
unfolding every_to
team_fits t = every_to 20 (λ i. player_fits (player_at t i))

unfoldable pub places_fit : List Float → Bool
unfolding every_to
places_fit l = every_to (length l) (λ i. is_coordinate (get_or l i nan))

-- of one length, at most 4,096 each
unfoldable pub lists_fit : List Float → List Float → Bool
unfolding places_fit
lists_fit xs ys = eqb (length xs) (length ys) && leb (length xs) 4096 && places_fit xs && places_fit ys

unfoldable pub poses_fit : Team → Team → List Float → List Float → Bool
unfolding team_fits lists_fit
poses_fit home away xs ys = team_fits home && team_fits away && lists_fit xs ys

-- ---- 3: a ball coordinate out of range
abbrev pub ball_fits : Ball → Bool
ball_fits b = is_coordinate b.x && is_coordinate b.y && is_coordinate b.z

-- ---- 4: a player number (goalkeeper, kicker, wished player) out of range
-- PlayerNumber::MIN to MAX
abbrev pub is_player_number : ℕ → Bool
is_player_number n = leb min_number n && leb n max_number

abbrev pub number_fits : Option ℕ → Bool
number_fits None = true
number_fits (Some n) = is_player_number n

abbrev pub restart_fits : Option Restart → Bool
restart_fits None = true
restart_fits (Some r) = number_fits r.kicker

abbrev pub wish_fits : Wish → Bool
wish_fits Nothing = true
wish_fits BallAtRestart = true
wish_fits BallInSet = true
wish_fits (ForPenalty s n) = is_player_number n
wish_fits (ForPenaltyShot s n) = is_player_number n
wish_fits (Goalkeeper s) = true

unfoldable pub numbers_fit : Option ℕ → Option ℕ → Option Restart → Wish → Bool
numbers_fit home away restart wish = number_fits home && number_fits away && restart_fits restart && wish_fits wish

-- ---- 5: the distance is NaN, or above 0 and below 1/64
abbrev pub distance_fits : Float → Bool
distance_fits d = le d zero32 || le sixty_fourth d

-- ---- the table
-- what must hold, in the order of the numbers, so that the lowest wins
abbrev pub five : Bool → Bool → Bool → Bool → Bool → List Requirement
five field poses ball numbers distance =
    record { holds = field; number = 1 }
    ∷ record { holds = poses; number = 2 }
    ∷ record { holds = ball; number = 3 }
    ∷ record { holds = numbers; number = 4 }
    ∷ record { holds = distance; number = 5 }
    ∷ []

-- of a situation and the earlier places of the batch
unfoldable pub requirements_of : Situation → List Float → List Float → List Requirement
unfolding field_fits poses_fit numbers_fit
requirements_of s xs ys =
    five
    (field_fits s.field)
    (poses_fit s.home s.away xs ys)
    (ball_fits s.ball)
    (numbers_fit s.home.goalkeeper s.away.goalkeeper s.restart s.wish)
    (distance_fits s.penalty_placement_distance)

-- the number of the refusal, or 0 for none
unfoldable pub refusal_of : Situation → List Float → List Float → ℕ
unfolding requirements_of
refusal_of s xs ys = first_refusal (requirements_of s xs ys)
