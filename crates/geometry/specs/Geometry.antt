-- Where a player stands, by the dimensions of the field: binary32, each operation rounded once. Definitions only.
use Rattle.std.specs.Prelude.{Bool, false, ◌&&◌, ◌||◌, List, Float, Option, None, Some}
use Rattle.std.specs.Float.Ieee.{neg, lt, le}
use Rattle.floats.specs.Arithmetic.{◌+₃₂◌, ◌-₃₂◌, ◌*₃₂◌, zero32, half, one, two, pi}
use Rattle.floats.specs.Leaves.{abs, minimum_number, maximum_number, rem_euclid}
use Rattle.lists.specs.Table.{table}
use Rattle.game.specs.Game.{is_unpenalized}
use Rattle.game.specs.Players.{player_at}
use Rattle.game.specs.declared.Side.{Side}
use Rattle.game.specs.declared.Side.TheVariants.{Home, Away}
use Rattle.game.specs.declared.SideMapping.{SideMapping}
use Rattle.game.specs.declared.SideMapping.TheVariants.{HomeDefendsLeftGoal, HomeDefendsRightGoal}
use Rattle.game.specs.declared.FieldDimensions.{FieldDimensions}
use Rattle.game.specs.declared.PlayerPose.{PlayerPose}
use Rattle.game.specs.declared.Player.{Player}
use Rattle.game.specs.declared.Team.{Team}
use Rattle.game.specs.declared.Margins.{Margins}

-- the factor between global x and a team's x, in which the own goal is at negative x; the left goal is at positive global x
abbrev pub side_to_sign : Side → SideMapping → Float
side_to_sign Home HomeDefendsLeftGoal = neg one
side_to_sign Home HomeDefendsRightGoal = one
side_to_sign Away HomeDefendsLeftGoal = one
side_to_sign Away HomeDefendsRightGoal = neg one

-- the angle less whole turns, so that it lies between -pi and pi
abbrev pub normalize_angle : Float → Float
normalize_angle angle = rem_euclid (angle +₃₂ pi) (two *₃₂ pi) -₃₂ pi

-- the x of a pose as its team sees it, its own goal at negative x
abbrev pub team_x : Float → PlayerPose → Float
team_x sign p = sign *₃₂ p.x

-- how far a player is inside the strip of this width about the x axis: the nearer edge decides
abbrev pub strip_margin : Float → PlayerPose → Float
strip_margin width p = minimum_number (width *₃₂ half +₃₂ p.radius -₃₂ p.y) (width *₃₂ half +₃₂ p.radius +₃₂ p.y)

-- how far a player at its team's x is inside the part of the field of this length at its own goal line
abbrev pub own_end_margin : Float → PlayerPose → FieldDimensions → Float → Float
own_end_margin length p f x = (neg f.length *₃₂ half +₃₂ length +₃₂ p.radius) -₃₂ x

-- the same at the opponents' goal line
abbrev pub opponent_end_margin : Float → PlayerPose → FieldDimensions → Float → Float
opponent_end_margin length p f x = x -₃₂ (f.length *₃₂ half -₃₂ length -₃₂ p.radius)

-- how far a player is inside the three areas; below 0 it is outside
unfoldable pub margins_of : PlayerPose → FieldDimensions → Float → Margins
margins_of p f sign =
    record {
      own_goal_area = minimum_number (strip_margin f.goal_area_width p) (own_end_margin f.goal_area_length p f (team_x sign p));
      own_penalty_area = minimum_number (strip_margin f.penalty_area_width p) (own_end_margin f.penalty_area_length p f (team_x sign p));
      opponent_penalty_area = minimum_number (strip_margin f.penalty_area_width p) (opponent_end_margin f.penalty_area_length p f (team_x sign p));
    }

-- the margins of a pose, none where there is no pose
abbrev pub seen_margins : Option PlayerPose → FieldDimensions → Float → Option Margins
seen_margins None f sign = None
seen_margins (Some p) f sign = Some (margins_of p f sign)

-- the margins of a player
abbrev pub player_margins : Player → FieldDimensions → Float → Option Margins
player_margins p f sign = seen_margins p.pose f sign

-- the margins of a team's players by their places
unfoldable pub compute_margins : Team → FieldDimensions → Float → List (Option Margins)
compute_margins t f sign = table 20 (λ i. player_margins (player_at t i) f sign)

-- no part of the player is on the field of play
abbrev pub is_outside_field : PlayerPose → FieldDimensions → Bool
is_outside_field p f = lt (f.length *₃₂ half +₃₂ p.radius) (abs p.x) || lt (f.width *₃₂ half +₃₂ p.radius) (abs p.y)

-- how far the near edge of a player is beyond the edge of the carpet, below 0 if it is inside: how far the centre is, along x or y, and then less the radius
abbrev pub carpet_excess : PlayerPose → FieldDimensions → Float
carpet_excess p f =
    maximum_number (abs p.x -₃₂ (f.length *₃₂ half +₃₂ f.border_strip_width)) (abs p.y -₃₂ (f.width *₃₂ half +₃₂ f.border_strip_width)) -₃₂ p.radius

-- the pose is there, and its near edge is beyond the carpet's edge by more than the allowance
abbrev pub seen_leaving : Option PlayerPose → FieldDimensions → Float → Bool
seen_leaving None f allowance = false
seen_leaving (Some p) f allowance = lt allowance (carpet_excess p f)

-- an unpenalised player whose near edge is off the carpet by more than the allowance
abbrev pub is_leaving_the_field : Player → FieldDimensions → Float → Bool
is_leaving_the_field player f allowance = is_unpenalized player.penalty && seen_leaving player.pose f allowance

-- between the posts of its own goal, and over the middle of the goal line
abbrev pub is_on_own_goal_line : Float → PlayerPose → FieldDimensions → Bool
is_on_own_goal_line x p f = le (abs p.y) (f.goal_width *₃₂ half) && le (abs (x +₃₂ (f.length *₃₂ half -₃₂ f.line_width *₃₂ half))) p.radius

-- a player at this distance from a point reaches into the circle of this radius about it
abbrev pub reaches : Float → Float → PlayerPose → Bool
reaches distance radius p = lt distance (radius +₃₂ p.radius)

-- it reaches into the circle of the centre circle's size about a point at this distance
abbrev pub in_circle : Float → FieldDimensions → PlayerPose → Bool
in_circle distance f p = reaches distance f.center_circle_radius p

-- it stands on the mark at this distance
abbrev pub on_mark : Float → FieldDimensions → PlayerPose → Bool
on_mark distance f p = reaches distance f.mark_radius p

-- the margin is that of a player of whom a part is inside
abbrev pub is_inside : Float → Bool
is_inside margin = lt zero32 margin

-- the player reaches over the halfway line
abbrev pub in_opponent_half : PlayerPose → FieldDimensions → Float → Bool
in_opponent_half p f x = lt (neg (f.line_width *₃₂ half +₃₂ p.radius)) x

-- the x of the mark from which the kicking team shoots, as that team sees it
abbrev pub mark_x : FieldDimensions → Float
mark_x f = f.length *₃₂ half -₃₂ f.penalty_mark_distance
