-- By what is read.
use Rattle.std.proofs.Common.{ap, List, ℕ, ◌∙◌}
use Rattle.replies.specs.Replies.{refused_line, line_in, written_in}
use Rattle.desk.specs.Desk.{told}
use Rattle.desk.proofs.Judged.{prints_as, told_printed, answer_said}
use Rattle.desk.proofs.Items.{read_refused, read_lines}
use Rattle.desk.proofs.read.Goals as goal

pub returns-in-Err : goal.returns-in-Err
returns-in-Err c =
    let p = prints_as _ _ c.args.out.now _ _ (ap (λ (n : ℕ). told (refused_line n)) c.number_of.ensures ∙ read_refused c.args.text.now _ c.in-Err.ensures)
    (told_printed _ c.args.out.now _ _ c.refused_line.ensures.value c.refused_line.ensures.out_after) in
    record { value = p.0; out_after = p.1 }

pub returns-in-Ok : goal.returns-in-Ok
returns-in-Ok c =
    let lines = c.as_bytes.ensures ∙ c.push_items.ensures in
    let p = prints_as _ _ c.args.out.now _ _ (read_lines c.args.text.now _ c.in-Ok.ensures).printed
    (answer_said _ c.args.out.now _ _ (c.told.ensures.value ∙ ap (λ (t : List ℕ). written_in t c.args.out.now) lines) (c.told.ensures.out_after ∙ ap (λ (t : List ℕ). line_in t c.args.out.now) lines)) in
    record { value = p.0; out_after = p.1 }
