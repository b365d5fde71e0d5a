-- Of a condition the line is written; where none was, the text was too short for it.
use Rattle.std.proofs.Common.{sym, ◌∙◌}
use Rattle.coach.proofs.Lines.{legal_told, line_told}
use Rattle.coach.proofs.sentence.Goals as goal

pub returns-then-not-is_some-clause-text_after : goal.returns-then-not-is_some-clause-text_after
returns-then-not-is_some-clause-text_after c = (legal_told c.args.side c.args.number c.args.condition c.args.text.now (sym c.if-not-is_some.ensures)).1

pub returns : goal.returns
returns c =
    let made = c.coach_line in
    let line = line_told c.args.side c.args.number c.args.condition c.args.text.now (sym c.if-not-is_some.ensures) made.result made.new.text (cc) (cc) in
    record { value = c.ok_or.ensures.value ∙ line.0; text_after = line.1 }
