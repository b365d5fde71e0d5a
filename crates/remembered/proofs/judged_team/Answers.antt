use Rattle.std.proofs.Common.{rules}
use Rattle.remembered.specs.Remembered.{judged_player, judged_team}
use Rattle.remembered.proofs.judged_team.Goals as goal

pub returns : goal.returns
unfolding judged_team
returns c = c.mapped_team.ensures judged_player (λ p r q h. search rules)
