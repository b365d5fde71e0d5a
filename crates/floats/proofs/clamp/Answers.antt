use Rattle.floats.specs.Leaves.{clamp}
use Rattle.floats.proofs.clamp.Goals as goal

pub returns-else-lo-hi : goal.returns-else-lo-hi
unfolding clamp
returns-else-lo-hi c = simp c.if-lo-hi.false

pub returns-then-x-lo : goal.returns-then-x-lo
unfolding clamp
returns-then-x-lo c = simp (c.if-lo-hi.true, c.if-x-lo.true)

pub returns-then-hi-x : goal.returns-then-hi-x
unfolding clamp
returns-then-hi-x c = simp (c.if-lo-hi.true, c.if-x-lo.false, c.if-hi-x.true)

pub returns-else-hi-x : goal.returns-else-hi-x
unfolding clamp
returns-else-hi-x c = simp (c.if-lo-hi.true, c.if-x-lo.false, c.if-hi-x.false)
