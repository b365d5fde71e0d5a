-- By the refusal.
use Rattle.std.proofs.lemmas.Result.{err_from_is_err_and}
use Rattle.reading.proofs.Answers.{not_refused, sheet_refused, sheet_counted, some_line}
use Rattle.reading.proofs.read_sheet.Goals as goal

pub returns-in_err-refusal : goal.returns-in_err-refusal
returns-in_err-refusal c = let p = err_from_is_err_and c.from_residual.result c.from_residual.ensures.1 in rw (p.1, p.2) (sheet_refused c.args.text.now tt _ c.in_err-refusal.ensures)

pub overflow_sub-result : goal.overflow_sub-result
overflow_sub-result c = some_line c.args.text.now (not_refused _ tt _ c.in_ok-refusal.ensures).0

pub returns : goal.returns
returns c = sheet_counted c.args.text.now (not_refused _ tt _ c.in_ok-refusal.ensures).0
