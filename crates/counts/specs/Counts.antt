-- How many players a team has on the field. Definitions only.
use Rattle.std.specs.Prelude.{Bool, ◌&&◌, ℕ}
use Rattle.game.specs.declared.Player.{Player}
use Rattle.game.specs.declared.Team.{Team}
use Rattle.game.specs.Game.{is_unpenalized, is_present}
use Rattle.game.specs.Players.{player_at}
use Rattle.lists.specs.Counting.{count_to}

-- unpenalised and present
abbrev pub is_on_field : Player → Bool
is_on_field p = is_unpenalized p.penalty && is_present p.pose

-- how many of the players 1 to 20 are on the field
unfoldable pub players_on_field : Team → ℕ
unfolding count_to
players_on_field team = count_to 20 (λ i. is_on_field (player_at team i))
