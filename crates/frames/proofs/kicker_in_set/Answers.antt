-- By the number of the decision's kicking player, where there is one.
use Rattle.std.proofs.Common.{None, Some, ap, ◌∙◌}
use Rattle.std.specs.Prelude.{not}
use Rattle.frames.proofs.Chosen.{chosen_told}
use Rattle.frames.proofs.kicker_in_set.Goals as goal

pub returns-in_err-chosen : goal.returns-in_err-chosen
returns-in_err-chosen c = c.from_residual.ensures ∙ chosen_told c.args.frame.s c.args.kicking_player _ _ None c.args.frame.measured (c.is_none.ensures ∙ ap not c.if-is_none.false) c.in_err-chosen.ensures

pub returns : goal.returns
returns c = chosen_told c.args.frame.s c.args.kicking_player _ _ (Some _) c.args.frame.measured (c.is_none.ensures ∙ ap not c.if-is_none.false) c.in_ok-chosen.ensures
