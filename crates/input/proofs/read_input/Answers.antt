-- Where the text is read, the answer for the stored numbers is that for the numbers themselves; where it is not, what is wrong is the fault of the reading.
use Rattle.std.proofs.Common.{rules, sym}
use Rattle.std.proofs.lemmas.Result.{err_from_is_err_and}
use Rattle.input.proofs.Stored.{input_of_read, input_of_unread}
use Rattle.input.proofs.read_input.Goals as goal

pub returns-clause-value : goal.returns-clause-value
returns-clause-value c =
    input_of_read c.args.text.now c.args.numbers.now _ _ _ (search rules) (sym c.in_ok-n.ensures.value) c.read_numbers.ensures.numbers_after c.laid_out.ensures

pub returns-in_err-n-clause-value : goal.returns-in_err-n-clause-value
returns-in_err-n-clause-value c =
    let p = err_from_is_err_and c.from_residual.result c.from_residual.ensures.1 in
    rw (p.1, p.2) (input_of_unread c.args.text.now _ (sym c.in_err-n.ensures.value))
