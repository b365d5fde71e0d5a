use Rattle.std.proofs.Common.{ap, ◌∙◌}
use Rattle.reading.specs.Walk.{next}
use Rattle.reading.proofs.Walked.{walk_turn, walk_done}
use Rattle.reading.proofs.walk_lines.Goals as goal

pub loop-i-preserved : goal.loop-i-preserved
loop-i-preserved c = walk_turn c.args.text.now c.loop-i.walk _ c.loop-i.i c.loop-i-test.true (c.next-walk.ensures ∙ ap (next c.loop-i.walk) c.line_at.ensures) c.loop-i.invariant

pub returns : goal.returns
returns c = walk_done c.args.text.now c.loop-i.walk c.loop-i.i c.loop-i-test.false c.loop-i.invariant
