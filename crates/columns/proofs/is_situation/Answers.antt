use borrow.Author.Tests.{eq-eqb, ne_eqb}
use Rattle.columns.specs.Columns.{is_situation}
use Rattle.columns.proofs.is_situation.Goals as goal

pub returns-then-whole : goal.returns-then-whole
unfolding is_situation
returns-then-whole c = simp (eq-eqb _ _ c.if-whole.true, c.words_within.ensures)

pub returns : goal.returns
unfolding is_situation
returns c = simp (ne_eqb _ _ c.if-whole.false)
