use Rattle.std.proofs.Common.{refl}
use Rattle.records.proofs.Lying.{framed_short, framed_whole}
use Rattle.records.proofs.framed.Goals as goal

pub returns-then-size-input : goal.returns-then-size-input
returns-then-size-input c = framed_short _ _ _ _ _ refl refl c.if-size-input.true

pub returns : goal.returns
returns c = framed_whole _ _ _ _ _ _ refl refl refl c.if-size-input.false
