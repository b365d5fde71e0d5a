use Rattle.arguments.proofs.Words.{from_file}
use Rattle.arguments.proofs.source_of.Goals as goal

pub returns-then-is_word : goal.returns-then-is_word
returns-then-is_word c = from_file _ _ _ _ c.is_word.ensures c.if-is_word.true

pub returns : goal.returns
returns c = from_file _ _ _ _ c.is_word.ensures c.if-is_word.false
