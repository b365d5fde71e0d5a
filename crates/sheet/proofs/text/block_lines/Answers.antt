use Rattle.std.proofs.Common.{refl, ◌∙◌, arith}
use Rattle.sheet.proofs.Written.{lines_none, lines_turn, lines_done}
use Rattle.sheet.proofs.text.block_lines.Goals as goal

pub loop-i-init : goal.loop-i-init
loop-i-init c = (refl, lines_none c.args.b c.args.at _)

pub loop-i-preserved : goal.loop-i-preserved
loop-i-preserved c = let at = c.loop-i in (
  c.line_at.auto.sheet ∙ at.invariant.0,
  lines_turn c.args.b c.args.at _ at.i at.sheet _ (omega (arith, c.requires.1, c.loop-i-test.true)) at.invariant.1 c.line_at.ensures,
)

pub returns : goal.returns
returns c = record {
  value = refl;
  sheet_after = lines_done c.args.b c.args.at _ c.loop-i.i c.loop-i.sheet c.loop-i.auto.i-end c.loop-i-test.false c.loop-i.invariant.1;
}
