use Rattle.std.proofs.Common.{◌∙◌}
use Rattle.lists.proofs.Fold.{fold_none, fold_turn, fold_done}
use Rattle.clearance.specs.Clearance.{distance_from, spots_at}
use Rattle.clearance.proofs.Nearest.{least_fold}
use Rattle.clearance.proofs.near_team.Goals as goal

pub loop-i-init : goal.loop-i-init
loop-i-init c = fold_none _ _

pub loop-i-preserved : goal.loop-i-preserved
loop-i-preserved c = fold_turn _ _ _ _ _ c.loop-i.invariant c.near_player-acc.ensures

pub returns : goal.returns
returns c =
    fold_done _ _ _ _ 20 c.loop-i.auto.i-end c.loop-i-test.false c.loop-i.invariant ∙ least_fold (distance_from c.args.x c.args.y) (spots_at c.args.team c.args.skip) c.args.least 20
