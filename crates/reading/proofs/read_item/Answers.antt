-- From the numbers.
use Rattle.std.proofs.Common.{ap, Ok, ◌∙◌}
use Rattle.std.proofs.lemmas.Result.{err_from_is_err_and}
use Rattle.reading.proofs.Answers.{item_back, mapped, item_back_holds}
use Rattle.reading.proofs.read_item.Goals as goal

pub returns-in_err-found : goal.returns-in_err-found
returns-in_err-found c = let p = err_from_is_err_and c.from_residual.result c.from_residual.ensures.1 in rw (p.1, p.2) (ap item_back c.in_err-found.ensures ∙ item_back_holds c.args.text.now c.args.line)

pub returns : goal.returns
returns c = ap Ok (mapped _ _ c.map.ensures.cases) ∙ ap item_back c.in_ok-found.ensures ∙ item_back_holds c.args.text.now c.args.line
