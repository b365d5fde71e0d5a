-- By what the byte is, and by what is known before it.
use Rattle.std.proofs.Common.{◌≡◌, ℕ, Bool, sym, ◌∙◌}
use Rattle.numbers.specs.Numbers.{is_digit}
use Rattle.numbers.specs.Walk.{kind_of}
use Rattle.numbers.proofs.after_byte.Goals as goal

-- the library's test is that of the definition
digit : (b : ℕ) {r t : Bool} → r ≡ is_digit b → r ≡ t → is_digit b ≡ t
digit b e t = sym e ∙ t

pub returns-then-b-clause-value : goal.returns-then-b-clause-value
unfolding kind_of
returns-then-b-clause-value c = simp (c.if-b.true, c.end_field.ensures.value)

pub returns-then-b-clause-numbers_after : goal.returns-then-b-clause-numbers_after
unfolding kind_of
returns-then-b-clause-numbers_after c = simp c.if-b.true c.end_field.ensures.numbers_after

pub returns-then-is_digit-clause-value : goal.returns-then-is_digit-clause-value
unfolding kind_of
returns-then-is_digit-clause-value c = simp (c.if-b.false, digit c.args.b c.is_ascii_digit-is_digit.ensures.value c.if-is_digit.true, c.in-Closed.is, c.in-Ok.is)

pub returns-then-is_digit-2-clause-value : goal.returns-then-is_digit-2-clause-value
unfolding kind_of
returns-then-is_digit-2-clause-value c = simp (c.if-b.false, digit c.args.b c.is_ascii_digit-is_digit.ensures.value c.if-is_digit-2.true, c.in-Open.is, c.with_digit.ensures)

pub returns-then-is_digit-2-clause-numbers_after : goal.returns-then-is_digit-2-clause-numbers_after
unfolding kind_of
returns-then-is_digit-2-clause-numbers_after c = simp (c.if-b.false, digit c.args.b c.is_ascii_digit-is_digit.ensures.value c.if-is_digit-2.true)

pub returns-else-is_digit-clause-value : goal.returns-else-is_digit-clause-value
unfolding kind_of
returns-else-is_digit-clause-value c = simp (c.if-b.false, digit c.args.b c.is_ascii_digit-is_digit.ensures.value c.if-is_digit.false, c.in-Closed.is, c.in-Ok.is)

pub returns-else-is_digit-2-clause-value : goal.returns-else-is_digit-2-clause-value
unfolding kind_of
returns-else-is_digit-2-clause-value c = simp (c.if-b.false, digit c.args.b c.is_ascii_digit-is_digit.ensures.value c.if-is_digit-2.false, c.in-Open.is)

pub returns-else-is_digit-2-clause-numbers_after : goal.returns-else-is_digit-2-clause-numbers_after
unfolding kind_of
returns-else-is_digit-2-clause-numbers_after c = simp (c.if-b.false, digit c.args.b c.is_ascii_digit-is_digit.ensures.value c.if-is_digit-2.false)
