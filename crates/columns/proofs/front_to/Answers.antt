-- Where all are within the front is all of them; otherwise each word before i is within, and the first that is not is where the loop is left.
use Rattle.std.proofs.Common.{sym, ◌∙◌}
use borrow.Author.Tests.{le-leb, lt-leb}
use Rattle.lists.proofs.Every.{every_none, every_turn, every_done}
use Rattle.columns.proofs.Front.{whole_front, front_here}
use Rattle.columns.proofs.front_to.Goals as goal

pub returns-then-all_within : goal.returns-then-all_within
returns-then-all_within c = sym (whole_front _ _ (sym c.all_within.ensures ∙ c.if-all_within.true))

pub loop-i-init : goal.loop-i-init
loop-i-init c = every_none _

pub returns-then-words-i : goal.returns-then-words-i
returns-then-words-i c = front_here _ _ c.loop-i.i c.loop-i-test.true (sym c.loop-i.invariant) (lt-leb _ _ c.if-words-i.true)

pub loop-i-preserved : goal.loop-i-preserved
loop-i-preserved c = every_turn _ _ _ _ c.loop-i.invariant (sym (le-leb _ _ c.if-words-i.false))

pub returns : goal.returns
returns c = sym (whole_front _ _ (sym (every_done _ _ _ _ c.loop-i.auto.i-end c.loop-i-test.false c.loop-i.invariant)))
