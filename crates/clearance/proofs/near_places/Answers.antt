use Rattle.std.proofs.Common.{◌∙◌, min, length, get_or, arith}
use lib.Ieee.{nan}
use Rattle.lists.proofs.Fold.{fold_none, fold_turn, fold_done}
use Rattle.clearance.specs.Clearance.{distance_from}
use Rattle.clearance.proofs.Nearest.{least_table}
use Rattle.clearance.proofs.near_places.Goals as goal

pub loop-k-init : goal.loop-k-init
loop-k-init c = fold_none _ _

pub loop-k-preserved : goal.loop-k-preserved
loop-k-preserved c = fold_turn _ _ _ _ _ c.loop-k.invariant c.nearer-acc.ensures

pub returns : goal.returns
returns c =
    let a = c.args in
    let n = min (length a.earlier.xs.now) (length a.earlier.ys.now) in
    fold_done _ _ _ _ n (omega (arith, c.min-n.ensures)) (omega (arith, c.min-n.ensures)) c.loop-k.invariant
    ∙ least_table (distance_from a.x a.y) (λ k. record { x = get_or a.earlier.xs.now k nan; y = get_or a.earlier.ys.now k nan }) a.least n
