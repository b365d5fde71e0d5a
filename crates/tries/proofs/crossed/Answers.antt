use Rattle.tries.specs.Tries.{crossed}
use Rattle.tries.proofs.crossed.Goals as goal

pub returns : goal.returns
unfolding crossed
returns c = simp (c.is_nan-no_max.ensures, c.is_nan-no_min.ensures)
