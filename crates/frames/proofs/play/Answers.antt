-- What is refused is not played.
use Rattle.std.proofs.lemmas.Result.{err_from_is_err_and}
use Rattle.frames.proofs.Played.{frame_played, step_played, step_refused}
use Rattle.frames.proofs.play.Goals as goal

pub returns-in_err-step_refusal : goal.returns-in_err-step_refusal
returns-in_err-step_refusal c =
    let p = err_from_is_err_and c.from_residual.result c.from_residual.ensures.1 in
    rw (p.1, p.2) (step_refused c.args.memory c.args.s c.args.events c.args.earlier.xs.now c.args.earlier.ys.now _ c.in_err-step_refusal.ensures)

pub returns : goal.returns
returns c =
    let a = c.args in
    step_played a.memory a.s a.events _ _ _ c.in_ok-step_refusal.ensures (frame_played a.memory a.s a.events _ _ c.touch-touched.result _ c.touch-touched.ensures c.frame.ensures)
