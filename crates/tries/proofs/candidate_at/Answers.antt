use Rattle.std.proofs.Common.{add-one}
use borrow.Author.Tests.{ne_eqb}
use Rattle.tries.specs.Tries.{candidate_at}
use Rattle.tries.proofs.candidate_at.Goals as goal

pub returns-then-j-eq0 : goal.returns-then-j-eq0
unfolding candidate_at
returns-then-j-eq0 c = simp (c.if-j-eq0.true, c.from_count.ensures, add-one)

pub returns : goal.returns
unfolding candidate_at
returns c = simp (ne_eqb _ 0 c.if-j-eq0.false, c.from_count.ensures, add-one)
