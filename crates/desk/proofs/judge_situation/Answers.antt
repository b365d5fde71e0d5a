-- The refusal's line stands where the sheet would; a sheet stays as it was written.
use Rattle.std.proofs.Common.{Ok, Err, refl, ap, List, ℕ, ◌∙◌}
use Rattle.replies.specs.Replies.{refused_line, line_in, written_in}
use Rattle.desk.specs.declared.Reply.TheVariants.{Told}
use Rattle.desk.proofs.Judged.{reply_printed}
use Rattle.desk.proofs.judge_situation.Goals as goal

pub returns-in-Err : goal.returns-in-Err
returns-in-Err c =
    let told = ap refused_line c.number_of.ensures in
    let mid = c.write_wanted-answer.new.out in
    let p = reply_printed c.args.wanted c.args.s c.args.earlier.xs.now c.args.earlier.ys.now c.args.out.now (Err _) mid _ _ c.in-Err.ensures.value c.in-Err.ensures.out_after
    (ap Told (c.refused_line.ensures.value ∙ ap (λ (l : List ℕ). written_in l mid) told)) (c.refused_line.ensures.out_after ∙ ap (λ (l : List ℕ). line_in l mid) told) in
    record { value = p.0; out_after = p.1 }

pub returns-in-Ok : goal.returns-in-Ok
returns-in-Ok c =
    let p = reply_printed c.args.wanted c.args.s c.args.earlier.xs.now c.args.earlier.ys.now c.args.out.now (Ok _) c.write_wanted-answer.new.out _ _ c.in-Ok.ensures.value c.in-Ok.ensures.out_after refl refl in
    record { value = p.0; out_after = p.1 }
