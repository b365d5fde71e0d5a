-- Who is named when a team has more than three players in its own goal area. Places run from 0 to 19, the number less one. Definitions only.
use Rattle.std.specs.Prelude.{Bool, true, false, not, ◌&&◌, List, Float, Option, None, Some}
use Prim.Native.Nat.{ℕ, ◌+◌, ◌-◌, compare, Ordering}
use Rattle.std.specs.Float.{nan}
use Rattle.std.specs.Float.Ieee.{le}
use Rattle.lists.specs.Table.{table}
use Rattle.floats.specs.Arithmetic.{zero32}
use Rattle.floats.specs.Leaves.{total_order}
use Rattle.game.specs.declared.Team.{Team}
use Rattle.game.specs.declared.Player.{Player}
use Rattle.game.specs.declared.PlayerList.{PlayerList}
use Rattle.game.specs.Game.{is_unpenalized}
use Rattle.game.specs.Players.{player_at, margins_at, listed}
use Rattle.lists.specs.Counting.{count_to}
use Rattle.lists.specs.Ranking.{and_then, is_less, ranked}
use Rattle.game.specs.declared.Margins.{Margins}

-- a newcomer comes before one who is none
abbrev pub newcomer_first : Bool → Bool → Ordering
newcomer_first true true = Ordering.eq
newcomer_first true false = Ordering.lt
newcomer_first false true = Ordering.gt
newcomer_first false false = Ordering.eq

-- the margin with respect to the own goal area; a NaN, which is not at least 0, of a player that is absent
abbrev pub own_margin : Option Margins → Float
own_margin None = nan
own_margin (Some m) = m.own_goal_area

-- that of the player at the place i
abbrev pub margin_at : List (Option Margins) → ℕ → Float
margin_at margins i = own_margin (margins_at margins i)

-- unpenalised, with a margin of at least 0
unfoldable pub is_in_goal_area : Player → Option Margins → Bool
is_in_goal_area p m = is_unpenalized p.penalty && le zero32 (own_margin m)

-- the player at the place i is in its own goal area
unfoldable pub in_goal_area : Team → List (Option Margins) → ℕ → Bool
unfolding is_in_goal_area
in_goal_area team margins i = is_in_goal_area (player_at team i) (margins_at margins i)

-- how many are in the area
unfoldable pub inside : Team → List (Option Margins) → ℕ
unfolding in_goal_area count_to
inside team margins = count_to 20 (in_goal_area team margins)

-- newcomers are preferred, and the player was not inside before
abbrev pub is_newcomer : Bool → Player → Bool
is_newcomer prefer p = prefer && not p.previously_inside

-- i is named before j: a newcomer first, then the smaller margin, then the higher number
unfoldable pub named_before : Team → List (Option Margins) → Bool → ℕ → ℕ → Bool
named_before team margins prefer i j =
    is_less
    (and_then (newcomer_first (is_newcomer prefer (player_at team i)) (is_newcomer prefer (player_at team j)))
    (and_then (total_order (margin_at margins i) (margin_at margins j))
    (compare j i)))

-- the place of the k-th to be named, from 0: the player in the area before whom exactly k others in the area come
unfoldable pub named : Team → List (Option Margins) → Bool → ℕ → ℕ
unfolding in_goal_area named_before ranked
named team margins prefer k = ranked 20 (in_goal_area team margins) (named_before team margins prefer) k

-- the most players of a team that may be in its own goal area
abbrev pub allowed : ℕ
allowed = 3

-- as many are named as there are more in the area than are allowed
unfoldable pub goal_area_excess : Team → List (Option Margins) → Bool → PlayerList
unfolding inside named listed
goal_area_excess team margins prefer = listed (table (inside team margins - allowed) (λ k. named team margins prefer k + 1))
