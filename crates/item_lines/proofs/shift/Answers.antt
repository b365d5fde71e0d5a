use Rattle.item_lines.proofs.Values.{shift_low, shift_high}
use Rattle.item_lines.proofs.shift.Goals as goal

pub returns-then-e-eq0 : goal.returns-then-e-eq0
returns-then-e-eq0 c = shift_low _ c.if-e-eq0.true

pub returns : goal.returns
returns c = shift_high _ c.if-e-eq0.false
