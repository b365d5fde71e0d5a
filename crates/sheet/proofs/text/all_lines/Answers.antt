use Rattle.std.proofs.Common.{rules, ◌∙◌, ap, List, length, arith}
use Rattle.lists.specs.Gather.{flat_to}
use Rattle.lines.specs.declared.Row.{Row}
use Rattle.lines.specs.Line.{lines_of}
use Rattle.lines.specs.Over.{over}
use Rattle.lines.proofs.Lines.{length_lines}
use Rattle.sheet.specs.Blocks.{rows_to}
use Rattle.sheet.proofs.Written.{rows_none, few_at, block_fits, block_next, rows_all}
use Rattle.sheet.proofs.text.all_lines.Goals as goal

pub loop-i-init : goal.loop-i-init
unfolding flat_to
loop-i-init c = rows_none c.args.at c.args.sheet.now

pub block_lines-next-requires : goal.block_lines-next-requires
block_lines-next-requires c = let at = c.loop-i in
    (few_at c.args.blocks at.i c.requires.0 (search rules), block_fits c.args.blocks at.i (search rules) c.args.at at.next c.args.sheet.now at.sheet at.invariant c.requires.1)

pub loop-i-preserved : goal.loop-i-preserved
loop-i-preserved c = let at = c.loop-i in
    let call = c.block_lines-next in
    block_next c.args.blocks at.i (search rules) c.args.at at.next call.result c.args.sheet.now at.sheet _ at.invariant c.requires.1 call.ensures.sheet_after call.ensures.value call.auto.sheet

pub returns : goal.returns
returns c = let at = c.loop-i in
    let all = rows_all c.args.blocks at.i at.auto.i-end c.loop-i-test.false in
    record {
      value = omega (arith, at.invariant.end, length_lines (rows_to c.args.blocks at.i), ap length all);
      sheet_after = at.invariant.written ∙ ap (λ (r : List Row). over c.args.at (lines_of r) c.args.sheet.now) all;
    }
