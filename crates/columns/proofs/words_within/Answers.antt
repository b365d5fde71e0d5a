-- The table is the list `columns`, by evaluation.
use Rattle.lists.specs.Gather.{flat_to}
use Rattle.columns.specs.Layout.{layout, columns_of, columns}
use Rattle.columns.specs.Columns.{words_within}
use Rattle.columns.proofs.words_within.Goals as goal

pub returns : goal.returns
unfolding words_within columns columns_of layout flat_to
returns c = c.front_within.ensures
