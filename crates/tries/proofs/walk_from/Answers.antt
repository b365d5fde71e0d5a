use Rattle.std.proofs.Common.{refl, arith}
use Rattle.lists.specs.Gather.{flat_to}
use Rattle.lists.specs.Counting.{count_to}
use Rattle.tries.proofs.CandidatesWalk.{walk_stops, walk_goes_on, two_more, count_grows}
use Rattle.tries.proofs.walk_from.Goals as goal

pub loop-k-init : goal.loop-k-init
unfolding flat_to count_to
loop-k-init c = (omega arith, refl, refl)

pub returns-then-lower-min : goal.returns-then-lower-min
returns-then-lower-min c =
    let a = c.args in
    let s = a.span in
    let known = c.requires in
    let i = c.loop-k.invariant in
    walk_stops a.first s.min s.max s.step known.0 known.1 known.2 known.3 c.from_count.result c.loop-k.k c.loop-k.n (omega arith) c.from_count.ensures c.if-lower-min.true i.1 i.2

pub loop-k-preserved : goal.loop-k-preserved
loop-k-preserved c =
    let a = c.args in
    let s = a.span in
    let known = c.requires in
    let i = c.loop-k.invariant in
    let v = c.from_count.result in (
      omega (arith, two_more a.first s.min s.max s.step v),
      count_grows a.first s.min s.max s.step v c.loop-k.k c.loop-k.n c.from_count.ensures i.1,
      walk_goes_on a.first s.min s.max s.step known.0 known.1 known.2 known.3 v c.loop-k.k (omega arith) c.from_count.ensures c.if-lower-min.false i.2,
    )
