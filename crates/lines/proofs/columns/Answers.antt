use Rattle.std.proofs.Common.{◌∙◌}
use Rattle.lists.specs.Put.{fronted}
use Rattle.lines.specs.Line.{column_byte, columns_of}
use Rattle.lines.proofs.Back.{back_turn, back_done}
use Rattle.lines.proofs.Digits.{column_told, rest_turn}
use Rattle.lines.proofs.columns.Goals as goal

pub loop-c-preserved : goal.loop-c-preserved
loop-c-preserved c = (
  rest_turn c.args.v c.loop-c.c c.loop-c.rest c.loop-c-test.true c.loop-c.auto.c c.loop-c.invariant.0,
  back_turn (column_byte c.args.v) 11 _ c.loop-c.part c.loop-c.c _ c.loop-c-test.true c.loop-c.auto.c c.requires c.loop-c.invariant.1
      (c.column.ensures ∙ column_told c.args.v c.loop-c.c c.loop-c.rest c.loop-c-test.true c.loop-c.invariant.0),
)

pub returns : goal.returns
unfolding columns_of fronted
returns c = back_done (column_byte c.args.v) 11 _ c.loop-c.part c.loop-c.c c.loop-c-test.false c.loop-c.invariant.1
