use borrow.Author.Tests.{le-leb, lt-leb}
use Rattle.floats.specs.Leaves.{total_key}
use Rattle.floats.proofs.total_key.Goals as goal

pub returns-then-b-ge2147483648 : goal.returns-then-b-ge2147483648
unfolding total_key
returns-then-b-ge2147483648 c = simp (le-leb 2147483648 c.args.b c.if-b-ge2147483648.true)

pub returns-else-b-ge2147483648 : goal.returns-else-b-ge2147483648
unfolding total_key
returns-else-b-ge2147483648 c = simp (lt-leb 2147483648 c.args.b c.if-b-ge2147483648.false)
