use Rattle.std.proofs.Common.{None, ap, sym, ◌∙◌, arith}
use Rattle.arguments.specs.declared.Command.TheVariants.{Sheet}
use Rattle.arguments.specs.Arguments.{run}
use Rattle.arguments.proofs.Words.{no_word, one_word, two_words, two_run, more_words}
use Rattle.arguments.proofs.asked_by.Goals as goal

pub returns-then-words-eq0 : goal.returns-then-words-eq0
returns-then-words-eq0 c = no_word _ _ _ c.if-words-eq0.true

pub returns-then-too_many : goal.returns-then-too_many
returns-then-too_many c = more_words _ _ _ (omega (arith, c.if-too_many.true))

pub returns-in-None : goal.returns-in-None
returns-in-None c = ap (run Sheet) c.source_of.ensures ∙ one_word _ _ _ _ c.if-words-eq1.true (sym c.in-None.is ∙ c.command_of.ensures)

pub returns-in-Some : goal.returns-in-Some
returns-in-Some c = one_word _ _ _ _ c.if-words-eq1.true (sym c.in-Some.is ∙ c.command_of.ensures)

pub returns-in_err-command : goal.returns-in_err-command
returns-in_err-command c =
    c.from_residual.ensures ∙ two_words _ _ _ None c.if-words-eq0.false c.if-too_many.false c.if-words-eq1.false c.in_err-command.ensures

pub returns : goal.returns
returns c = two_run _ _ _ _ _ c.if-words-eq0.false c.if-too_many.false c.if-words-eq1.false c.in_ok-command.ensures c.source_of-source.ensures
