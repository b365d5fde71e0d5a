-- Name by name: the word is none of the earlier names.
use Rattle.std.proofs.Common.{sym, ◌∙◌}
use Rattle.arguments.specs.Arguments.{command_of}
use Rattle.arguments.proofs.command_of.Goals as goal

pub returns-then-is_word : goal.returns-then-is_word
unfolding command_of
returns-then-is_word c = simp (sym c.is_word.ensures ∙ c.if-is_word.true)

pub returns-then-is_word-2 : goal.returns-then-is_word-2
unfolding command_of
returns-then-is_word-2 c = simp (sym c.is_word.ensures ∙ c.if-is_word.false, sym c.is_word-2.ensures ∙ c.if-is_word-2.true)

pub returns-then-is_word-3 : goal.returns-then-is_word-3
unfolding command_of
returns-then-is_word-3 c = simp (sym c.is_word.ensures ∙ c.if-is_word.false, sym c.is_word-2.ensures ∙ c.if-is_word-2.false, sym c.is_word-3.ensures ∙ c.if-is_word-3.true)

pub returns-then-is_word-4 : goal.returns-then-is_word-4
unfolding command_of
returns-then-is_word-4 c = simp (sym c.is_word.ensures ∙ c.if-is_word.false, sym c.is_word-2.ensures ∙ c.if-is_word-2.false, sym c.is_word-3.ensures ∙ c.if-is_word-3.false, sym c.is_word-4.ensures ∙ c.if-is_word-4.true)

pub returns-then-is_word-5 : goal.returns-then-is_word-5
unfolding command_of
returns-then-is_word-5 c = simp (sym c.is_word.ensures ∙ c.if-is_word.false, sym c.is_word-2.ensures ∙ c.if-is_word-2.false, sym c.is_word-3.ensures ∙ c.if-is_word-3.false, sym c.is_word-4.ensures ∙ c.if-is_word-4.false, sym c.is_word-5.ensures ∙ c.if-is_word-5.true)

pub returns : goal.returns
unfolding command_of
returns c = simp (sym c.is_word.ensures ∙ c.if-is_word.false, sym c.is_word-2.ensures ∙ c.if-is_word-2.false, sym c.is_word-3.ensures ∙ c.if-is_word-3.false, sym c.is_word-4.ensures ∙ c.if-is_word-4.false, sym c.is_word-5.ensures ∙ c.if-is_word-5.false)
