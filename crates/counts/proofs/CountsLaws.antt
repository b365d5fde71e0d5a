-- A half turn and a mirror image keep the number of players on the field. Assumes nothing.
use mathlib.Core.Path.{◌≡◌, refl, ap, ◌∙◌}
use mathlib.Core.Bool.{Bool, ◌&&◌}
use Rattle.game.specs.declared.Team.{Team}
use Rattle.game.specs.Game.{is_unpenalized, is_present}
use Rattle.game.specs.Players.{player_at}
use Rattle.geometry.specs.Turned.{changed_maybe_pose, changed_team}
use Rattle.geometry.proofs.Turned.{player_at_changed}
use Rattle.counts.specs.Counts.{is_on_field, players_on_field}
use Rattle.lists.proofs.Counting.{count_same}
use Rattle.std.specs.Prelude.{Option, None, Some}
use Rattle.game.specs.declared.PlayerPose.{PlayerPose}

-- they keep who is present
present_changed : (a b : Bool) (p : Option PlayerPose) → is_present (changed_maybe_pose a b p) ≡ is_present p
present_changed a b None = refl
present_changed a b (Some p) = refl

-- so they keep the number
pub count_changed : (a b : Bool) (t : Team) → players_on_field (changed_team a b t) ≡ players_on_field t
unfolding players_on_field
count_changed a b t =
    count_same 20 (λ i. is_on_field (player_at (changed_team a b t) i)) (λ i. is_on_field (player_at t i))
    (λ i h. ap is_on_field (player_at_changed a b t i) ∙ ap (λ (c : Bool). is_unpenalized (player_at t i).penalty && c) (present_changed a b (player_at t i).pose))
