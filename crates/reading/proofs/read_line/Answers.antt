-- By the refusal, and by the line.
use Rattle.std.proofs.Common.{ap, Ok, ◌∙◌}
use Rattle.std.proofs.lemmas.Result.{err_from_is_err_and}
use Rattle.reading.proofs.Answers.{not_refused, numbers_refused, numbers_zero, numbers_line}
use Rattle.reading.proofs.read_line.Goals as goal

pub returns-in_err-refusal : goal.returns-in_err-refusal
returns-in_err-refusal c = let p = err_from_is_err_and c.from_residual.result c.from_residual.ensures.1 in rw (p.1, p.2) (numbers_refused c.args.text.now c.args.line tt _ c.in_err-refusal.ensures)

pub returns-then-is_header : goal.returns-then-is_header
returns-then-is_header c = numbers_zero c.args.text.now _ (not_refused _ tt _ c.in_ok-refusal.ensures).0 c.if-is_header.true

pub returns : goal.returns
returns c = ap Ok c.line_at.ensures ∙ numbers_line c.args.text.now _ (not_refused _ tt _ c.in_ok-refusal.ensures).0 c.if-is_header.false
