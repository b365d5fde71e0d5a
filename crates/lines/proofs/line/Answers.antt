-- Four numbers and a line feed, one after the other, are the line.
use Rattle.std.proofs.Common.{◌∙◌, sym, arith}
use Rattle.lines.proofs.Lines.{line_short, line_told}
use Rattle.lines.proofs.line.Goals as goal

pub returns-then-short : goal.returns-then-short
returns-then-short c = sym (line_short _ _ (omega (arith, c.if-short.true)))

pub returns : goal.returns
returns c =
    line_told _ _ _ _ _ _ c.if-short.false c.columns_at.ensures c.columns_at-2.ensures c.columns_at-3.ensures c.columns_at-4.ensures
    (c.columns_at-4.auto.part ∙ c.columns_at-3.auto.part ∙ c.columns_at-2.auto.part ∙ c.columns_at.auto.part)
