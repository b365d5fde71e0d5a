-- The keys of the order of naming, as the code has them. Definitions only.
use Rattle.std.specs.Prelude.{◌≡◌, Bool, true, cond, List, ℕ, ◌+◌, ◌-◌, ◌*◌, ◌<◌, Option}
use Rattle.std.specs.Float.{binary32}
use Rattle.std.specs.Float.Ieee.{to_bits}
use Rattle.floats.specs.Leaves.{total_key}
use Rattle.game.specs.declared.Player.{Player}
use Rattle.game.specs.declared.Team.{Team}
use Rattle.game.specs.Players.{player_at, margins_at}
use Rattle.keys.specs.Keys.{no_key}
use Rattle.excess.specs.Excess.{own_margin, is_in_goal_area, is_newcomer}
use Rattle.game.specs.declared.Margins.{Margins}

-- the own margin's place in the total order
abbrev pub margin_order : Option Margins → ℕ
margin_order m = total_key (to_bits binary32 (own_margin m))

-- of a player in the area it is a number of 32 bits
abbrev pub Small : Player → Option Margins → Type 0
Small p m = is_in_goal_area p m ≡ true → margin_order m < 0x1_0000_0000

-- that of the player at the place i
abbrev pub SmallAt : Team → List (Option Margins) → ℕ → Type 0
SmallAt team margins i = Small (player_at team i) (margins_at margins i)

-- the part of the key for those who are no newcomers
abbrev pub later_part : Bool → ℕ
later_part newcomer = cond newcomer 0 0x20_0000_0000

-- the key of a player in the area, with the number i + 1. From the lowest bit on: 31 less the number, 5 bits; the margin, 32 bits; no newcomer
abbrev pub inside_key : Bool → ℕ → ℕ → ℕ
inside_key newcomer order i = order * 32 + (30 - i) + later_part newcomer

-- the key of any player
unfoldable pub player_key : Bool → Player → Option Margins → ℕ → ℕ
unfolding is_in_goal_area
player_key prefer p m i = cond (is_in_goal_area p m) (inside_key (is_newcomer prefer p) (margin_order m) i) no_key

-- the key of the player at the place i
abbrev pub naming_key : Team → List (Option Margins) → Bool → ℕ → ℕ
naming_key team margins prefer i = player_key prefer (player_at team i) (margins_at margins i) i
