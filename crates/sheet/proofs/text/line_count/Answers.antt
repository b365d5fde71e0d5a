use Rattle.std.proofs.Common.{rules, ◌∙◌, ap, length, arith}
use Rattle.sheet.proofs.Written.{blocks_count, few_at, rows_all}
use Rattle.sheet.proofs.text.line_count.Goals as goal

pub overflow_add-n : goal.overflow_add-n
overflow_add-n c = omega (arith, few_at c.args.blocks c.loop-i.i c.requires (search rules), c.loop-i.invariant.0, c.loop-i.auto.i-end)

pub loop-i-preserved : goal.loop-i-preserved
loop-i-preserved c = (
  omega (arith, few_at c.args.blocks c.loop-i.i c.requires (search rules), c.loop-i.invariant.0),
  omega (arith, blocks_count c.args.blocks c.loop-i.i (search rules), c.loop-i.invariant.1),
)

pub returns : goal.returns
returns c = (
  c.loop-i.invariant.1 ∙ ap length (rows_all c.args.blocks c.loop-i.i c.loop-i.auto.i-end c.loop-i-test.false),
  omega (arith, c.loop-i.auto.i-end, c.loop-i.invariant.0),
)
