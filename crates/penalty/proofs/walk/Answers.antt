use Rattle.std.proofs.Common.{rules, ◌≡◌, true, sym, ap, ◌∙◌}
use Rattle.lists.specs.Fold.{fold_to}
use Rattle.lists.proofs.Fold.{fold_none, fold_turn, fold_done, fold_quiet}
use Rattle.clearance.specs.Clearance.{occupied}
use Rattle.penalty.specs.Walk.{after_try}
use Rattle.penalty.specs.declared.Choice.{Choice}
use Rattle.penalty.proofs.Turns.{reached_stays}
use Rattle.penalty.proofs.walk.Goals as goal

pub loop-j-init : goal.loop-j-init
loop-j-init c = fold_none _ _

pub returns-then-choice : goal.returns-then-choice
returns-then-choice c =
    let at = c.loop-j in
    let a = c.args in
    let spots = occupied a.home a.away a.side a.number a.earlier.xs.now a.earlier.ys.now in
    let f = after_try a.search spots in
    let here : (fold_to at.j f a.start).reached ≡ true = ap (λ (z : Choice). z.reached) (sym at.invariant) ∙ c.if-choice.true in
    at.invariant ∙ sym (fold_quiet f a.start at.j a.tries at.auto.j-end (λ k l h. reached_stays a.search spots k (fold_to at.j f a.start) here))

pub loop-j-preserved : goal.loop-j-preserved
loop-j-preserved c = fold_turn _ _ _ _ _ c.loop-j.invariant c.after_try-choice.ensures

pub returns : goal.returns
returns c = fold_done _ _ _ _ _ c.loop-j.auto.j-end c.loop-j-test.false c.loop-j.invariant
