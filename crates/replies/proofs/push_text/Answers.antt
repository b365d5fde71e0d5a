-- The text lies between its start and the next; the two tables are those of the texts by evaluation.
use Rattle.std.proofs.Common.{ℕ, suc, ◌<◌, ap, length, ◌∙◌}
use Rattle.lists.specs.Table.{table}
use Rattle.text.specs.Decimal.{decimal_from}
use Rattle.text.specs.Pushed.{pushed}
use Rattle.replies.specs.Names.{names}
use Rattle.replies.specs.Texts.{names_of, texts, start_of, flatten}
use Rattle.replies.proofs.Texts.{Between, between, none_there}
use Rattle.replies.proofs.push_text.Goals as goal

known : (j : ℕ) → j < 98 → Between (table (suc (length texts)) (start_of texts)) (flatten texts) j
unfolding texts names_of names
known j h = between j h

pub returns-then-j-lt-TEXTS : goal.returns-then-j-lt-TEXTS
unfolding texts names_of names decimal_from start_of flatten
returns-then-j-lt-TEXTS c = c.push.ensures ∙ ap (pushed 256 c.args.line.now) (known c.args.j c.if-j-lt-TEXTS.true).text

pub slice_bounds-push-count : goal.slice_bounds-push-count
unfolding texts names_of names decimal_from start_of
slice_bounds-push-count c = (known c.args.j c.if-j-lt-TEXTS.true).ordered

pub slice_bounds-push-start : goal.slice_bounds-push-start
unfolding texts names_of names decimal_from start_of
slice_bounds-push-start c = (known c.args.j c.if-j-lt-TEXTS.true).ordered

pub slice_bounds-push-end : goal.slice_bounds-push-end
unfolding texts names_of names decimal_from start_of flatten
slice_bounds-push-end c = (known c.args.j c.if-j-lt-TEXTS.true).inside

pub returns-else-j-lt-TEXTS : goal.returns-else-j-lt-TEXTS
unfolding texts names_of names
returns-else-j-lt-TEXTS c = c.push-else-j-lt-TEXTS.ensures ∙ ap (pushed 256 c.args.line.now) (none_there c.args.j c.if-j-lt-TEXTS.false)
