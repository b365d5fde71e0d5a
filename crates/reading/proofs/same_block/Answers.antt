use Rattle.reading.proofs.Blocks.{one_block}
use Rattle.reading.proofs.same_block.Goals as goal

pub returns : goal.returns
returns c = one_block c.args.last c.args.row
