-- The line stands at its place; a line feed is stored after one that is not empty.
use Rattle.std.proofs.Common.{refl}
use Rattle.coach.proofs.Lines.{part_room, ended_empty, ended_line}
use Rattle.coach.proofs.ended_sentence.Goals as goal

pub returns-then-size-eq0-clause-value : goal.returns-then-size-eq0-clause-value
returns-then-size-eq0-clause-value c =
    (ended_empty c.args.side c.args.number c.args.condition c.args.lines.now c.args.at c.requires c.sentence.result _ c.sentence.ensures.value c.sentence.ensures.text_after c.unwrap_or-size.result c.unwrap_or-size.ensures c.if-size-eq0.true).0

pub returns-then-size-eq0-clause-lines_after : goal.returns-then-size-eq0-clause-lines_after
returns-then-size-eq0-clause-lines_after c =
    (ended_empty c.args.side c.args.number c.args.condition c.args.lines.now c.args.at c.requires c.sentence.result _ c.sentence.ensures.value c.sentence.ensures.text_after c.unwrap_or-size.result c.unwrap_or-size.ensures c.if-size-eq0.true).1

pub bounds-lines-end : goal.bounds-lines-end
bounds-lines-end c =
    part_room c.args.side c.args.number c.args.condition c.args.lines.now c.args.at c.requires c.sentence.result _ c.sentence.ensures.value c.sentence.ensures.text_after c.unwrap_or-size.result c.unwrap_or-size.ensures

pub returns-clause-lines_after : goal.returns-clause-lines_after
returns-clause-lines_after c =
    (ended_line c.args.side c.args.number c.args.condition c.args.lines.now c.args.at c.requires c.sentence.result _ c.sentence.ensures.value c.sentence.ensures.text_after c.unwrap_or-size.result c.unwrap_or-size.ensures c.if-size-eq0.false _ refl).1
