use Rattle.std.proofs.Common.{sym, arith, length}
use Rattle.input.proofs.Places.{parts}
use Rattle.desk.proofs.Judged.{prints_as, told_printed, stored_long, judged_wrong, judged_read}
use Rattle.desk.proofs.judge_text.Goals as goal

pub judge_numbers-requires : goal.judge_numbers-requires
judge_numbers-requires c =
    let p = parts _ _ (sym c.in-Ok.ensures.value) in
    (p.few_x, p.few_y, omega (arith, p.few_x, p.few_y, stored_long _ _ c.in-Ok.ensures.numbers_after))

pub returns-in-Ok : goal.returns-in-Ok
returns-in-Ok c =
    let p = prints_as _ _ c.args.out.now _ c.judge_numbers.result (judged_read c.args.wanted c.args.text.now _ _ (length c.args.out.now) (sym c.in-Ok.ensures.value) c.in-Ok.ensures.numbers_after)
    (c.judge_numbers.ensures.value, c.judge_numbers.ensures.out_after) in
    record { value = p.0; out_after = p.1 }

pub returns-in-Err : goal.returns-in-Err
returns-in-Err c =
    let p = prints_as _ _ c.args.out.now _ _ (judged_wrong c.args.wanted c.args.text.now _ _ (length c.args.out.now) (sym c.in-Err.ensures.value) c.in-Err.ensures.numbers_after)
    (told_printed _ c.args.out.now _ _ c.fault_line.ensures.value c.fault_line.ensures.out_after) in
    record { value = p.0; out_after = p.1 }
