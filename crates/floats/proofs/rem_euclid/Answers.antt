use lib.Ieee.{of_bits}
use Rattle.floats.specs.Leaves.{rem_euclid}
use Rattle.floats.proofs.rem_euclid.Goals as goal

pub returns-then-r : goal.returns-then-r
unfolding rem_euclid of_bits
returns-then-r c = simp (← c.remainder-r.ensures, c.if-r.true, c.abs.ensures)

pub returns-else-r : goal.returns-else-r
unfolding rem_euclid of_bits
returns-else-r c = simp (← c.remainder-r.ensures, c.if-r.false)
