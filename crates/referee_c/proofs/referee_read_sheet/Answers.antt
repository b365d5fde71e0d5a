-- By what was read: a sheet has few lines, and so their number is an i64.
use Rattle.std.proofs.Common.{sym, ap, ◌∙◌, arith}
use Rattle.reading.proofs.Answers.{few_lines}
use Rattle.referee_c.specs.Entries.{lines_number, read_number}
use Rattle.referee_c.proofs.Signed.{count_fits, count_read}
use Rattle.referee_c.proofs.referee_read_sheet.Goals as goal

pub overflow_cast-result : goal.overflow_cast-result
overflow_cast-result c = count_fits _ (omega (arith, few_lines c.args.text.now _ (sym c.in-Ok.is ∙ c.read_sheet-read.ensures)))

pub returns-in-Ok : goal.returns-in-Ok
unfolding read_number
returns-in-Ok c =
    let read = sym c.in-Ok.is ∙ c.read_sheet-read.ensures in
    count_read _ (omega (arith, few_lines c.args.text.now _ read)) ∙ ap lines_number read
