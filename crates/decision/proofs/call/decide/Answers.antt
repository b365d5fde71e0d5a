-- What is refused is not decided. The decision comes first, whose proof is the one that a wrong test of the refusal breaks.
use Rattle.std.proofs.lemmas.Result.{err_from_is_err_and}
use Rattle.decision.proofs.Told.{answer_accepted, answer_refused}
use Rattle.decision.proofs.call.decide.Goals as goal

pub returns : goal.returns
returns c = answer_accepted _ _ _ _ c.in_ok-refusal.ensures c.decision_of.ensures

pub returns-in_err-refusal : goal.returns-in_err-refusal
returns-in_err-refusal c =
    let p = err_from_is_err_and c.from_residual.result c.from_residual.ensures.1 in
    rw (p.1, p.2) (answer_refused c.args.s c.args.earlier.xs.now c.args.earlier.ys.now _ c.in_err-refusal.ensures)
