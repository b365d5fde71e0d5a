use borrow.Author.Tests.{ne_eqb}
use Rattle.tries.specs.Tries.{is_candidate}
use Rattle.tries.proofs.is_candidate.Goals as goal

pub returns-then-j-eq0 : goal.returns-then-j-eq0
unfolding is_candidate
returns-then-j-eq0 c = simp c.if-j-eq0.true

pub returns : goal.returns
unfolding is_candidate
returns c = simp (ne_eqb _ 0 c.if-j-eq0.false)
