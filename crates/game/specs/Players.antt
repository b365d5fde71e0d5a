-- The players of a side by their place, which is the number less one. Definitions only.
use Rattle.std.specs.Prelude.{Bool, false, List, ℕ, zero, suc, ◌+◌, get_or, length, replicate, Option, None}
use Rattle.std.specs.Float.{nan}
use Rattle.game.specs.declared.Side.{Side}
use Rattle.game.specs.declared.Side.TheVariants.{Home, Away}
use Rattle.game.specs.declared.Penalty.TheVariants.{NoPenalty}
use Rattle.game.specs.declared.Player.{Player}
use Rattle.game.specs.declared.Team.{Team}
use Rattle.game.specs.declared.PlayerList.{PlayerList}
use Rattle.game.specs.declared.Situation.{Situation}
use Rattle.lists.specs.Gather.{flat_to, only_if}
use Rattle.lists.specs.Put.{fronted, count_if, put_if}
use Rattle.game.specs.declared.Margins.{Margins}

-- the player past the last one
abbrev pub nobody : Player
nobody = record { pose = None; reference = None; penalty = NoPenalty; allowance = nan; previously_inside = false }

abbrev pub player_at : Team → ℕ → Player
player_at t i = get_or t.players i nobody

abbrev pub margins_at : List (Option Margins) → ℕ → Option Margins
margins_at ms i = get_or ms i None

-- the least number of a player and the greatest, as PlayerNumber::MIN and MAX
abbrev pub min_number : ℕ
min_number = 1

abbrev pub max_number : ℕ
max_number = 20

-- the player with a number; nobody has the number 0
abbrev pub player_numbered : Team → ℕ → Player
player_numbered t zero = nobody
player_numbered t (suc i) = player_at t i

-- of two teams the one of a side
abbrev pub team_of_side : Team → Team → Side → Team
team_of_side home away Home = home
team_of_side home away Away = away

abbrev pub team_of : Situation → Side → Team
team_of s side = team_of_side s.home s.away side

-- the numbers l as a counted array
unfoldable pub listed : List ℕ → PlayerList
unfolding fronted
listed l = record { count = length l; numbers = fronted l (replicate 20 0) }

-- the number of the player at a place
abbrev pub number_at : ℕ → ℕ
number_at i = i + 1

-- the numbers of the players at the places with a property, ascending
unfoldable pub numbers_where : (ℕ → Bool) → PlayerList
numbers_where b = listed (flat_to 20 (λ i. only_if (b i) (number_at i)))

-- ---- of the private functions
-- a counted array with one more number, or unchanged
abbrev pub append_if : Bool → PlayerList → ℕ → PlayerList
append_if wanted l n = record { count = count_if wanted l.count; numbers = put_if wanted l.numbers l.count n }
