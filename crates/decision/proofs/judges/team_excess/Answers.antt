-- By the test: where it holds the list of the goal area, and otherwise the empty one.
use Rattle.std.proofs.Common.{sym, ◌∙◌}
use Rattle.decision.proofs.Told.{excess_told, excess_none}
use Rattle.decision.proofs.judges.team_excess.Goals as goal

pub returns-then-asked : goal.returns-then-asked
returns-then-asked c = excess_told c.args.game _ _ _ _ (sym c.is_set_or_playing-asked.ensures ∙ c.if-asked.true) c.is_playing-playing.ensures c.goal_area_excess.ensures

pub returns : goal.returns
returns c = excess_none c.args.game _ _ _ (sym c.is_set_or_playing-asked.ensures ∙ c.if-asked.false) c.empty_list.ensures
