use Rattle.tries.specs.Tries.{unfit}
use Rattle.tries.proofs.Span.unfit.Goals as goal

pub returns : goal.returns
unfolding unfit
returns c = simp (c.is_nan-no_step.ensures, c.too_far-far_max.ensures, c.too_far-far_min.ensures, c.is_nan-no_start.ensures, c.crossed-bad_bounds.ensures)
