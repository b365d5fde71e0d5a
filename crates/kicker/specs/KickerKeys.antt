-- The keys of the order of kickers, as the code has them. Definitions only.
use Rattle.std.specs.Prelude.{◌≡◌, true, List, ℕ, ◌+◌, ◌*◌, ◌<◌, Float, Option, None, Some}
use Rattle.std.specs.Float.{binary32}
use Rattle.std.specs.Float.Ieee.{to_bits}
use Rattle.floats.specs.Leaves.{total_key}
use Rattle.game.specs.declared.FieldDimensions.{FieldDimensions}
use Rattle.game.specs.declared.SetPlay.{SetPlay}
use Rattle.game.specs.declared.Team.{Team}
use Rattle.keys.specs.Keys.{no_key}
use Rattle.kicker.specs.Kicker.{qualifies, metres, distance_at}
use Rattle.game.specs.declared.Margins.{Margins}

-- the distance's place in the total order
abbrev pub order_of : Option Float → ℕ
order_of d = total_key (to_bits binary32 (metres d))

-- of a player who qualifies it is a number of 32 bits
abbrev pub Small : Option Float → Type 0
Small d = qualifies d ≡ true → order_of d < 0x1_0000_0000

-- the key of a player with the number i + 1. From the lowest bit on: the number, 5 bits; the distance, 32 bits
abbrev pub distance_key : Option Float → ℕ → ℕ
distance_key None i = no_key
distance_key (Some d) i = order_of (Some d) * 32 + (i + 1)

-- the key of the player at the place i
unfoldable pub kicker_key : SetPlay → FieldDimensions → Float → Team → List (Option Margins) → ℕ → ℕ
unfolding distance_at
kicker_key s field sign team margins i = distance_key (distance_at s field sign team margins i) i
