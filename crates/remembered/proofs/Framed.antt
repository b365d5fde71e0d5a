-- What a frame makes of what is remembered, player by player. Assumes nothing.
use Rattle.std.proofs.Common.{◌≡◌, Bool, List, refl}
use Rattle.lists.specs.Table.{table}
use Rattle.game.specs.Players.{player_at, margins_at}
use Rattle.game.specs.declared.Ball.{Ball}
use Rattle.game.specs.declared.FieldDimensions.{FieldDimensions}
use Rattle.game.specs.declared.Game.{Game}
use Rattle.game.specs.declared.Side.{Side}
use Rattle.game.specs.declared.Team.{Team}
use Rattle.avoidance.specs.Avoidance.{is_avoidance_region_active}
use Rattle.remembered.specs.declared.Remembered.{Remembered}
use Rattle.remembered.specs.Remembered.{remembered_at, observe_players, detect_movement, returning_players, avoidance_players, framed_player, framed_players}
use Rattle.std.specs.Prelude.{Option}
use Rattle.game.specs.declared.Margins.{Margins}

-- the four walks one after the other are one walk
pub each_framed : (began : Bool) (g : Game) (f : FieldDimensions) (b : Ball) (side : Side) (t : Team) (margins : List (Option Margins)) (l : List Remembered) →
    table 20 (λ i. framed_player began (is_avoidance_region_active g) g f b side (player_at t i) (margins_at margins i) (remembered_at l i)) ≡ framed_players began g f b side t margins l
unfolding observe_players detect_movement returning_players avoidance_players framed_player framed_players
each_framed began g f b side t margins l = refl
