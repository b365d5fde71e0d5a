-- Who has moved from its reference pose: binary32, each operation rounded once. Definitions only.
use Rattle.std.specs.Prelude.{Bool, true, false, ◌&&◌, ◌||◌, List, get_or, Float, Option, None, Some}
use Rattle.std.specs.Float.{binary32}
use Rattle.std.specs.Float.Ieee.{lt, of_bits}
use Rattle.lists.specs.Table.{table}
use Rattle.floats.specs.Arithmetic.{◌-₃₂◌}
use Rattle.floats.specs.Leaves.{abs}
use Rattle.hypot.specs.Hypot.{hypot}
use Rattle.game.specs.Game.{is_unpenalized}
use Rattle.game.specs.Players.{player_at, numbers_where}
use Rattle.game.specs.declared.Player.{Player}
use Rattle.game.specs.declared.PlayerList.{PlayerList}
use Rattle.game.specs.declared.PlayerPose.{PlayerPose}
use Rattle.game.specs.declared.Team.{Team}
use Rattle.geometry.specs.Geometry.{normalize_angle}
use Rattle.motion.specs.declared.Motion.{Motion}

-- 0.1, the distance a player must move
abbrev pub motion_distance : Float
motion_distance = of_bits binary32 0x3dcc_cccd

-- 0.3, the angle a player must turn
abbrev pub motion_angle : Float
motion_angle = of_bits binary32 0x3e99_999a

-- how far two poses are apart
abbrev pub distance_between : PlayerPose → PlayerPose → Float
distance_between p q = hypot (p.x -₃₂ q.x) (p.y -₃₂ q.y)

-- how far one heading is turned from the other, either way
abbrev pub angle_between : PlayerPose → PlayerPose → Float
angle_between p q = abs (normalize_angle (p.theta -₃₂ q.theta))

-- farther than the distance, or turned by more than the angle
abbrev pub is_away : PlayerPose → PlayerPose → Bool
is_away p q = lt motion_distance (distance_between p q) || lt motion_angle (angle_between p q)

-- both poses are there, and one is away from the other
abbrev pub is_seen_away : Option PlayerPose → Option PlayerPose → Bool
is_seen_away None r = false
is_seen_away (Some p) None = false
is_seen_away (Some p) (Some q) = is_away p q

-- an unpenalised player that is away from its reference pose
abbrev pub has_moved : Player → Bool
has_moved player = is_unpenalized player.penalty && is_seen_away player.pose player.reference

-- the numbers of those of a team's players that have moved, ascending
unfoldable pub moved_players : Team → PlayerList
moved_players t = numbers_where (λ i. has_moved (player_at t i))

-- no reference pose once it has moved
abbrev pub unless_moved : Bool → Option PlayerPose → Option PlayerPose
unless_moved true r = None
unless_moved false r = r

-- the reference pose of a player after the check, given whether it has moved
abbrev pub reference_unless : Bool → Player → Option PlayerPose
reference_unless moved p = unless_moved moved p.reference

-- the same by whether it has
abbrev pub reference_after : Player → Option PlayerPose
reference_after p = reference_unless (has_moved p) p

-- the reference poses after the check, by the players' places
unfoldable pub references_after : Team → List (Option PlayerPose)
references_after t = table 20 (λ i. reference_after (player_at t i))

-- what the check gives for a team
abbrev pub check_motion : Team → Motion
check_motion t = record { moved = moved_players t; references = references_after t }

-- ---- of the private functions
-- which players have moved
abbrev pub moved_flags : Team → List Bool
moved_flags t = table 20 (λ i. has_moved (player_at t i))

-- the reference poses after the check, given which players have moved
abbrev pub references_unless : List Bool → Team → List (Option PlayerPose)
references_unless flags t = table 20 (λ i. reference_unless (get_or flags i false) (player_at t i))
