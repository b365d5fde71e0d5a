use Rattle.input.proofs.Filled.{placed_more, all_placed}
use Rattle.input.proofs.fill_places.Goals as goal

pub loop-k-preserved : goal.loop-k-preserved
loop-k-preserved c = placed_more c.loop-k.invariant _ c.loop-k-test.true c.from_bits.ensures

pub returns : goal.returns
returns c = all_placed c.loop-k.invariant c.loop-k-test.false
