-- By the number of words lent.
use Rattle.std.proofs.Common.{rules, ◌∙◌, arith}
use mir.Syntax.{w64}
use mir.ValLaws.{to_z-of_z}
use Rattle.referee_c.proofs.ReadLaws.{item_short, item_told}
use Rattle.referee_c.proofs.referee_read_item.Goals as goal

pub returns-then-short : goal.returns-then-short
returns-then-short c =
    let told = item_short c.args.text.now c.args.line c.args.item.now (omega (arith, c.if-short.true)) in
    record { value = to_z-of_z w64 c.minus.result (search rules) ∙ c.minus.ensures ∙ told.0; item_after = told.1 }

pub returns : goal.returns
returns c =
    let told = item_told c.args.text.now c.args.line c.args.item.now _ _ _ c.if-short.false c.read_line-found.ensures c.write_item.ensures.value c.write_item.ensures.item_after in
    record { value = to_z-of_z w64 c.write_item.result (search rules) ∙ told.0; item_after = told.1 }
