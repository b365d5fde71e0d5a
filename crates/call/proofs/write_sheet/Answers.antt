-- What is not refused is written as its decision is; the three together are the one list of refusals.
use Rattle.std.proofs.Common.{sym}
use Rattle.std.proofs.lemmas.Result.{err_from_is_err_and}
use Rattle.call.proofs.Answers.{sheet_refused, sheet_not_shown, sheet_decided}
use Rattle.call.proofs.write_sheet.Goals as goal

pub returns : goal.returns
returns c =
    let r = sheet_decided c.args.to c.args.s c.args.earlier.xs.now c.args.earlier.ys.now _ c.decision_of-d.ensures c.in_ok-refusal.ensures c.args.sheet.now _ c.write_decision.result (sym c.if-not-all_shown.ensures) c.write_decision.ensures.value
    c.write_decision.ensures.sheet_after in
    record { value = r.0; sheet_after = r.1 }

pub returns-then-not-all_shown : goal.returns-then-not-all_shown
returns-then-not-all_shown c =
    let r = sheet_not_shown c.args.to c.args.s c.args.earlier.xs.now c.args.earlier.ys.now _ c.decision_of-d.ensures c.in_ok-refusal.ensures c.args.sheet.now (sym c.if-not-all_shown.ensures) in
    record { value = r.0; sheet_after = r.1 }

pub returns-in_err-refusal : goal.returns-in_err-refusal
returns-in_err-refusal c =
    let p = err_from_is_err_and c.from_residual.result c.from_residual.ensures.1 in
    let r = sheet_refused c.args.to c.args.s c.args.earlier.xs.now c.args.earlier.ys.now _ c.args.sheet.now c.in_err-refusal.ensures in
    record { value = rw (p.1, p.2) r.0; sheet_after = r.1 }
