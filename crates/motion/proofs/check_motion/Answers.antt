-- The flags are the table of who has moved, so that both parts are those of the definitions.
use Rattle.std.proofs.Common.{◌≡◌, Bool, false, List, get_or, ap, ap₂, ◌∙◌}
use Rattle.lists.proofs.Table.{table_at, table_same}
use Rattle.game.specs.Players.{player_at, numbers_where}
use Rattle.game.specs.declared.PlayerList.{PlayerList}
use Rattle.game.specs.declared.Team.{Team}
use Rattle.game.proofs.Listing.{numbers_flagged}
use Rattle.motion.specs.Motion.{has_moved, moved_players, moved_flags, reference_unless, reference_after, references_after, references_unless}
use Rattle.motion.proofs.check_motion.Goals as goal
use Rattle.std.specs.Prelude.{Option}
use Rattle.game.specs.declared.PlayerPose.{PlayerPose}

moved_told : (t : Team) (flags : List Bool) → flags ≡ moved_flags t → numbers_where (λ i. get_or flags i false) ≡ moved_players t
unfolding moved_players
moved_told t flags e = numbers_flagged flags (λ i. has_moved (player_at t i)) e

references_told : (t : Team) (flags : List Bool) → flags ≡ moved_flags t → references_unless flags t ≡ references_after t
unfolding references_after
references_told t flags e =
    table_same 20 (λ i. reference_unless (get_or flags i false) (player_at t i)) (λ i. reference_after (player_at t i))
    (λ i h. ap (λ (b : Bool). reference_unless b (player_at t i)) (ap (λ (l : List Bool). get_or l i false) e ∙ table_at 20 (λ k. has_moved (player_at t k)) false i h))

pub returns : goal.returns
returns c =
    ap₂ (λ (m : PlayerList) (r : List (Option PlayerPose)). record { moved = m; references = r }) (c.numbers_where-moved.ensures ∙ moved_told c.args.team _ c.moved_flags-flags.ensures)
    (c.references_after-references.ensures ∙ references_told c.args.team _ c.moved_flags-flags.ensures)
