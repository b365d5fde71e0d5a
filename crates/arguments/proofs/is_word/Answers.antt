use Rattle.std.proofs.Common.{◌∙◌}
use Rattle.arguments.proofs.Words.{word_compared}
use Rattle.arguments.proofs.is_word.Goals as goal

pub returns : goal.returns
returns c = c.eq.ensures ∙ word_compared _ _
