use Rattle.std.proofs.Common.{◌≡◌, sym, ◌∙◌, arith}
use Rattle.fields.specs.Fields.{columns_from}
use Rattle.fields.proofs.Walks.{length_columns_from, column_byte, blank_turn, blank_stop, blank_end}
use Rattle.fields.proofs.blanks.Goals as goal

pub returns-then-not-is_blank : goal.returns-then-not-is_blank
returns-then-not-is_blank c =
    let long = length_columns_from c.args.text.now c.args.at c.requires in
    blank_stop (columns_from c.args.at c.args.text.now) c.loop-n.n (omega (arith, c.loop-n-test.true, long))
    (λ e. c.if-not-is_blank.true (sym (column_byte c.args.text.now c.args.at c.loop-n.n c.loop-n-test.true) ∙ e)) c.loop-n.invariant

pub loop-n-preserved : goal.loop-n-preserved
loop-n-preserved c =
    let long = length_columns_from c.args.text.now c.args.at c.requires in
    blank_turn (columns_from c.args.at c.args.text.now) c.loop-n.n (omega (arith, c.loop-n-test.true, long))
    (column_byte c.args.text.now c.args.at c.loop-n.n c.loop-n-test.true ∙ c.if-not-is_blank.false) c.loop-n.invariant

pub returns : goal.returns
returns c =
    let long = length_columns_from c.args.text.now c.args.at c.requires in
    let done : c.loop-n.n ≡ 11 = omega arith in
    sym done ∙ blank_end (columns_from c.args.at c.args.text.now) c.loop-n.n (omega (arith, long, done)) c.loop-n.invariant
