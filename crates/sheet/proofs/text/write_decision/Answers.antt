-- The header, the blocks and the place are written one after the other; together they are the text.
use Rattle.std.proofs.Common.{◌∙◌, ap, List, ◌++◌, length, arith}
use Rattle.lines.specs.declared.Row.{Row}
use Rattle.sheet.specs.Blocks.{all_rows}
use Rattle.sheet.proofs.Answers.{lines_counted, lines_few, decision_refused, decision_written}
use Rattle.sheet.proofs.text.write_decision.Goals as goal

pub overflow_add-n : goal.overflow_add-n
overflow_add-n c = omega (arith, lines_few c.args.d _ _ c.line_count.ensures.1 (c.place_count.ensures ∙ ap length c.lines_of_place-placed.ensures))

pub overflow_mul-bytes : goal.overflow_mul-bytes
overflow_mul-bytes c = omega (arith, lines_few c.args.d _ _ c.line_count.ensures.1 (c.place_count.ensures ∙ ap length c.lines_of_place-placed.ensures))

pub overflow_add-bytes : goal.overflow_add-bytes
overflow_add-bytes c = omega (arith, lines_few c.args.d _ _ c.line_count.ensures.1 (c.place_count.ensures ∙ ap length c.lines_of_place-placed.ensures))

pub overflow_cast-header : goal.overflow_cast-header
overflow_cast-header c = omega (arith, lines_few c.args.d _ _ c.line_count.ensures.1 (c.place_count.ensures ∙ ap length c.lines_of_place-placed.ensures))

pub returns-then-sheet-bytes : goal.returns-then-sheet-bytes
returns-then-sheet-bytes c =
    let counted = lines_counted _ _ _ _ c.line_count.ensures.0 (c.place_count.ensures ∙ ap length c.lines_of_place-placed.ensures) c.blocks_of-blocks.ensures.place_value in
    let told = decision_refused c.args.d _ c.args.sheet.now counted (omega (arith, c.if-sheet-bytes.true)) in
    record { value = told.0; sheet_after = told.1 }

pub returns : goal.returns
returns c =
    let counted = lines_counted _ _ _ _ c.line_count.ensures.0 (c.place_count.ensures ∙ ap length c.lines_of_place-placed.ensures) c.blocks_of-blocks.ensures.place_value in
    let all = ap (λ (r : List Row). all_rows c.blocks_of-blocks.result ++ r) c.lines_of_place-placed.ensures ∙ c.blocks_of-blocks.ensures.place_value in
    let told =
    decision_written c.args.d _ c.all_lines-next.result c.args.sheet.now _ _ _ _ _ counted all c.if-sheet-bytes.false c.all_lines-next.ensures.value
    c.line_at.ensures c.line_at.auto.sheet c.all_lines-next.ensures.sheet_after c.all_lines-next.auto.sheet c.place_lines.ensures c.place_lines.auto.sheet in
    record { value = told.0; sheet_after = told.1 }
