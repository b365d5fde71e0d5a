-- The squares are small enough for `root`, and half its answer, rounded up, is the nearest whole number.
use Rattle.std.proofs.Common.{refl}
use Rattle.hypot.proofs.Root.Far.{both_zero}
use Rattle.hypot.proofs.Root.Tiny.{nearest_whole}
use Rattle.hypot.proofs.exact.nearest_whole.Goals as goal

pub returns-then-p-q-eq0 : goal.returns-then-p-q-eq0
returns-then-p-q-eq0 c = both_zero c.args.p c.args.q c.if-p-q-eq0.true

pub returns : goal.returns
returns c = nearest_whole c.args.p c.args.q c.root-t.result _ c.requires c.root-t.ensures.0 c.root-t.ensures.1 refl
