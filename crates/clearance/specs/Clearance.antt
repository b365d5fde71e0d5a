-- How much space there is at a point: the distance to the nearest spot that is taken. Definitions only.
use Rattle.std.specs.Prelude.{false, cond, List, [], ◌∷◌, ◌++◌, map, ℕ, suc, min, eqb, length, get_or, Float, Option, None, Some}
use Rattle.std.specs.Float.{nan, inf}
use Rattle.lists.specs.Table.{table}
use Rattle.lists.specs.Gather.{flat_to}
use Rattle.floats.specs.Arithmetic.{◌-₃₂◌}
use Rattle.floats.specs.Leaves.{minimum_number}
use Rattle.hypot.specs.Hypot.{hypot}
use Rattle.game.specs.Game.{same_side}
use Rattle.game.specs.Players.{player_at}
use Rattle.game.specs.declared.Side.{Side}
use Rattle.game.specs.declared.Side.TheVariants.{Home, Away}
use Rattle.game.specs.declared.Player.{Player}
use Rattle.game.specs.declared.Team.{Team}
use Rattle.game.specs.declared.PlayerPose.{PlayerPose}

-- ---- who stands where
-- a point of the field that is taken
pub record Spot : Type 0 where
  pub x : Float
  pub y : Float

-- the spot of a player that is present
abbrev pub spot_of : Option PlayerPose → List Spot
spot_of None = []
spot_of (Some p) = record { x = p.x; y = p.y } ∷ []

-- the spot of the player at the place i, unless its number is skip
unfoldable pub spot_unless : ℕ → ℕ → Player → List Spot
spot_unless skip i p = cond (eqb (suc i) skip) [] (spot_of p.pose)

-- the same by the team and the place
abbrev pub spots_at : Team → ℕ → ℕ → List Spot
spots_at t skip i = spot_unless skip i (player_at t i)

-- the spots of a team's present players in their order, without the one with the number skip
abbrev pub team_spots : Team → ℕ → List Spot
team_spots t skip = flat_to 20 (spots_at t skip)

-- the earlier places of the batch in their order, as far as both lists go
abbrev pub earlier_spots : List Float → List Float → List Spot
earlier_spots xs ys = table (min (length xs) (length ys)) (λ k. record { x = get_or xs k nan; y = get_or ys k nan })

-- the number to leave out of a team: the placed player's in its own, and 0, which no player has, in the other
abbrev pub left_out : Side → ℕ → Side → ℕ
left_out side number other = cond (same_side side other) number 0

-- the spots that are taken when a player is placed: every other present player of both sides, penalised ones too, then the earlier places
unfoldable pub occupied : Team → Team → Side → ℕ → List Float → List Float → List Spot
unfolding spot_unless
occupied home away side number xs ys = team_spots home (left_out side number Home) ++ (team_spots away (left_out side number Away) ++ earlier_spots xs ys)

-- ---- how much space there is
-- the distance of a spot from (x, y)
abbrev pub distance_from : Float → Float → Spot → Float
distance_from x y s = hypot (s.x -₃₂ x) (s.y -₃₂ y)

-- the least of a and the distances
abbrev pub least_of : Float → List Float → Float
least_of a [] = a
least_of a (d ∷ ds) = least_of (minimum_number a d) ds

-- the distance of the nearest spot from (x, y), +inf where there is none
unfoldable pub clearance : List Spot → Float → Float → Float
clearance spots x y = least_of (inf false) (map (distance_from x y) spots)

-- ---- of the private functions
-- the lesser of the least distance so far and of that of (dx, dy)
abbrev pub nearer : Float → Float → Float → Float
nearer least dx dy = minimum_number least (hypot dx dy)

-- the least distance after the player at the place i
abbrev pub near_player : Player → ℕ → Float → Float → ℕ → Float → Float
near_player p skip x y i least = least_of least (map (distance_from x y) (spot_unless skip i p))

-- the least distance after the earlier place k
abbrev pub near_place : List Float → List Float → Float → Float → ℕ → Float → Float
near_place xs ys x y k least = nearer least (get_or xs k nan -₃₂ x) (get_or ys k nan -₃₂ y)
