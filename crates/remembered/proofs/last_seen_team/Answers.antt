use Rattle.std.proofs.Common.{rules}
use Rattle.remembered.specs.Remembered.{last_seen_player, last_seen_team}
use Rattle.remembered.proofs.last_seen_team.Goals as goal

pub returns : goal.returns
unfolding last_seen_team
returns c = c.mapped_team.ensures last_seen_player (λ p r q h. search rules)
