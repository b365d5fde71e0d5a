-- Who has moved is the same, and the reference poses after the check are those of before, changed. Assumes nothing.
use mathlib.Core.Path.{◌≡◌, refl, ap, ap₂, ◌∙◌}
use mathlib.Core.Bool.{Bool, true, false, ◌&&◌}
use mathlib.Core.List.{map}
use Prim.Native.Nat.{ℕ}
use Rattle.lists.proofs.Maps.{table_map}
use Rattle.lists.proofs.Table.{table_same}
use Rattle.game.specs.Game.{is_unpenalized}
use Rattle.game.specs.Players.{player_at}
use Rattle.game.proofs.Listing.{numbers_same}
use Rattle.game.specs.declared.Player.{Player}
use Rattle.game.specs.declared.PlayerPose.{PlayerPose}
use Rattle.game.specs.declared.Team.{Team}
use Rattle.geometry.specs.Turned.{changed_pose, changed_maybe_pose, changed_player, changed_team}
use Rattle.geometry.proofs.Turned.{distance_changed, player_at_changed}
use Rattle.motion.specs.Motion.{is_away, is_seen_away, has_moved, moved_players, unless_moved, reference_after, references_after}
use Rattle.std.specs.Prelude.{Option, None, Some}

away_changed : (a b : Bool) (p q : PlayerPose) → is_away (changed_pose a b p) (changed_pose a b q) ≡ is_away p q
away_changed a b p q = cc (distance_changed a b p.x p.y q.x q.y)

seen_away_changed : (a b : Bool) (p : Option PlayerPose) (r : Option PlayerPose) → is_seen_away (changed_maybe_pose a b p) (changed_maybe_pose a b r) ≡ is_seen_away p r
seen_away_changed a b None r = refl
seen_away_changed a b (Some p) None = refl
seen_away_changed a b (Some p) (Some q) = away_changed a b p q

pub moved_changed : (a b : Bool) (q : Player) → has_moved (changed_player a b q) ≡ has_moved q
moved_changed a b q = ap (λ (z : Bool). is_unpenalized q.penalty && z) (seen_away_changed a b q.pose q.reference)

-- the same of the player at a place
moved_at : (a b : Bool) (t : Team) (i : ℕ) → has_moved (player_at (changed_team a b t) i) ≡ has_moved (player_at t i)
moved_at a b t i = ap has_moved (player_at_changed a b t i) ∙ moved_changed a b (player_at t i)

pub moved_players_changed : (a b : Bool) (t : Team) → moved_players (changed_team a b t) ≡ moved_players t
unfolding moved_players
moved_players_changed a b t =
    numbers_same (λ i. has_moved (player_at (changed_team a b t) i)) (λ i. has_moved (player_at t i)) (λ i h. moved_at a b t i)

unless_changed : (a b m : Bool) (r : Option PlayerPose) → unless_moved m (changed_maybe_pose a b r) ≡ changed_maybe_pose a b (unless_moved m r)
unless_changed a b true r = refl
unless_changed a b false r = refl

reference_changed : (a b : Bool) (t : Team) (i : ℕ) → reference_after (player_at (changed_team a b t) i) ≡ changed_maybe_pose a b (reference_after (player_at t i))
reference_changed a b t i =
    (ap₂ (λ (m : Bool) (q : Player). unless_moved m q.reference) (moved_at a b t i) (player_at_changed a b t i) ∙ unless_changed a b (has_moved (player_at t i)) (player_at t i).reference)

pub references_changed : (a b : Bool) (t : Team) → references_after (changed_team a b t) ≡ map (changed_maybe_pose a b) (references_after t)
unfolding references_after
references_changed a b t =
    table_same 20 (λ k. reference_after (player_at (changed_team a b t) k)) (λ k. changed_maybe_pose a b (reference_after (player_at t k))) (λ i h. reference_changed a b t i)
    ∙ table_map (changed_maybe_pose a b) 20 (λ k. reference_after (player_at t k))
