use Rattle.desk.proofs.Written.{done_none, done_long, done_next, done_all}
use Rattle.desk.proofs.push_items.Goals as goal

pub loop-i-init : goal.loop-i-init
loop-i-init c = done_none c.args.text.now _ c.requires.empty

pub push_found-requires : goal.push_found-requires
push_found-requires c = done_long c.args.text.now c.loop-i.i _ c.loop-i.invariant

pub loop-i-preserved : goal.loop-i-preserved
loop-i-preserved c = done_next c.args.text.now _ c.args.count c.loop-i.i _ c.requires.counted c.loop-i-test.true c.read_item-found.ensures c.loop-i.invariant _ c.push_found.ensures

pub returns : goal.returns
returns c = done_all c.args.text.now _ c.args.count c.loop-i.i c.requires.counted c.loop-i-test.false c.loop-i.invariant
