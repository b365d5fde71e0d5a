use Rattle.replies.proofs.Pieces.{text_short, text_fits}
use Rattle.replies.proofs.told.Goals as goal

pub returns-then-too_few : goal.returns-then-too_few
returns-then-too_few c = let t = text_short c.args.text.now c.args.out.now c.if-too_few.true in record { value = t.0; out_after = t.1 }

pub returns : goal.returns
returns c = let t = text_fits c.args.text.now c.args.out.now _ c.if-too_few.false c.copy_from_slice.ensures.after in record { value = t.0; out_after = t.1 }
