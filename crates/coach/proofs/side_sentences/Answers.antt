use Rattle.std.proofs.Common.{arith}
use Rattle.coach.proofs.Lines.{lines_few, lines_none, lines_next}
use Rattle.coach.proofs.side_sentences.Goals as goal

pub loop-i-init : goal.loop-i-init
loop-i-init c = lines_none c.args.side c.args.conditions c.args.at c.args.lines.now

pub ended_sentence-next-requires : goal.ended_sentence-next-requires
ended_sentence-next-requires c = omega (arith, c.loop-i.invariant.end, c.loop-i.invariant.long, lines_few c.args.side c.args.conditions c.loop-i.i, c.requires)

pub loop-i-preserved : goal.loop-i-preserved
loop-i-preserved c =
    let few = lines_few c.args.side c.args.conditions c.loop-i.i in
    lines_next c.args.side c.args.conditions c.loop-i.i c.ended_sentence-next.result _ c.loop-i.invariant (omega (arith, c.loop-i.invariant.end, few, c.requires)) c.ended_sentence-next.ensures.value c.ended_sentence-next.ensures.lines_after c.ended_sentence-next.auto.lines
