-- Which player of the kicking team takes a kick-off or a penalty kick: binary32, each operation rounded once. Definitions only.
use Rattle.std.specs.Prelude.{Bool, true, false, ◌&&◌, ◌||◌, cond, List, ltb, Float, Option, None, Some}
use Prim.Native.Nat.{ℕ, compare}
use Rattle.std.specs.Float.{nan}
use Rattle.std.specs.Float.Ieee.{le}
use Rattle.floats.specs.Arithmetic.{◌+₃₂◌, ◌-₃₂◌}
use Rattle.floats.specs.Leaves.{total_order}
use Rattle.hypot.specs.Hypot.{hypot}
use Rattle.game.specs.declared.FieldDimensions.{FieldDimensions}
use Rattle.game.specs.declared.Game.{Game}
use Rattle.game.specs.declared.Margins.{Margins}
use Rattle.game.specs.declared.Player.{Player}
use Rattle.game.specs.declared.PlayerPose.{PlayerPose}
use Rattle.game.specs.declared.SetPlay.{SetPlay}
use Rattle.game.specs.declared.SetPlay.TheVariants.{NoSetPlay, KickOff, DirectFreeKick, IndirectFreeKick, PenaltyKick, ThrowIn, GoalKick, CornerKick}
use Rattle.game.specs.declared.Side.{Side}
use Rattle.game.specs.declared.Team.{Team}
use Rattle.game.specs.Game.{is_unpenalized}
use Rattle.game.specs.Players.{player_at, margins_at, number_at}
use Rattle.geometry.specs.Geometry.{side_to_sign, team_x, in_circle, is_inside, in_opponent_half, mark_x}
use Rattle.lists.specs.Ranking.{and_then, is_less, ranked}

-- ---- one player
-- the distance, where the player qualifies
abbrev pub distance_if : Bool → Float → Option Float
distance_if true d = Some d
distance_if false d = None

-- no part of the player is on the mark
abbrev pub is_off_mark : Float → FieldDimensions → PlayerPose → Bool
is_off_mark d field p = le (field.mark_radius +₃₂ p.radius) d

-- kick-off: over the halfway line, in the centre circle, off the mark
unfoldable pub kick_off_distance : FieldDimensions → Float → PlayerPose → Option Float
unfolding hypot
kick_off_distance field sign p =
    let d = hypot p.x p.y in
    distance_if (in_opponent_half p field (team_x sign p) && in_circle d field p && is_off_mark d field p) d

-- penalty kick: in the opponents' penalty area or near the mark, off the mark
unfoldable pub penalty_kick_distance : FieldDimensions → Float → PlayerPose → Margins → Option Float
unfolding hypot
penalty_kick_distance field sign p m =
    let d = hypot (team_x sign p -₃₂ mark_x field) p.y in
    distance_if ((is_inside m.opponent_penalty_area || in_circle d field p) && is_off_mark d field p) d

-- the distance to the mark of a player who may kick
abbrev pub kicker_distance : SetPlay → FieldDimensions → Float → PlayerPose → Margins → Option Float
kicker_distance NoSetPlay field sign p m = None
kicker_distance KickOff field sign p m = kick_off_distance field sign p
kicker_distance DirectFreeKick field sign p m = None
kicker_distance IndirectFreeKick field sign p m = None
kicker_distance PenaltyKick field sign p m = penalty_kick_distance field sign p m
kicker_distance ThrowIn field sign p m = None
kicker_distance GoalKick field sign p m = None
kicker_distance CornerKick field sign p m = None

-- a player who is absent has none
abbrev pub seen_distance : SetPlay → FieldDimensions → Float → Option PlayerPose → Option Margins → Option Float
seen_distance s field sign None m = None
seen_distance s field sign (Some p) None = None
seen_distance s field sign (Some p) (Some m) = kicker_distance s field sign p m

-- nor has one who is penalised
abbrev pub player_distance : SetPlay → FieldDimensions → Float → Player → Option Margins → Option Float
player_distance s field sign p m = cond (is_unpenalized p.penalty) (seen_distance s field sign p.pose m) None

-- ---- a team
-- the player may kick
abbrev pub qualifies : Option Float → Bool
qualifies None = false
qualifies (Some d) = true

-- the distance itself; a NaN, which is never compared, where there is none
abbrev pub metres : Option Float → Float
metres None = nan
metres (Some d) = d

-- the distance of the player at the place i
unfoldable pub distance_at : SetPlay → FieldDimensions → Float → Team → List (Option Margins) → ℕ → Option Float
unfolding kick_off_distance penalty_kick_distance
distance_at s field sign team margins i = player_distance s field sign (player_at team i) (margins_at margins i)

-- i, at the distance d, comes before j, at e: nearer, or as near with the lower number
abbrev pub comes_before : Option Float → Option Float → ℕ → ℕ → Bool
comes_before d e i j = is_less (and_then (total_order (metres d) (metres e)) (compare i j))

-- the place of the one who qualifies and before whom nobody comes who does; 20 where nobody qualifies
unfoldable pub nearest : SetPlay → FieldDimensions → Float → Team → List (Option Margins) → ℕ
unfolding distance_at ranked
nearest s field sign team margins =
    ranked 20 (λ i. qualifies (distance_at s field sign team margins i)) (λ i j. comes_before (distance_at s field sign team margins i) (distance_at s field sign team margins j) i j) 0

-- the number of the player at a place, none past the last one
abbrev pub kicker_number : ℕ → Option ℕ
kicker_number i = cond (ltb i 20) (Some (number_at i)) None

-- the player of the side, with its team and margins, who is allowed to take the kick
unfoldable pub determine_kicking_player : Game → Team → FieldDimensions → List (Option Margins) → Side → Option ℕ
unfolding nearest
determine_kicking_player game team field margins side = kicker_number (nearest game.set_play field (side_to_sign side game.sides) team margins)
