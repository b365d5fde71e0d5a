use Rattle.std.proofs.Common.{◌-◌, length, arith}
use borrow.Author.Tests.{lt-ltb}
use Rattle.records.specs.Records.{record_at}
use Rattle.records.proofs.Lying.{at_head, at_no_head, at_unread}
use Rattle.records.proofs.record_at.Goals as goal

pub returns-then-list-at : goal.returns-then-list-at
unfolding record_at
returns-then-list-at c = simp (lt-ltb (length c.args.list.now - c.args.at) 45 (omega arith))

pub returns-then-list-at-lt45 : goal.returns-then-list-at-lt45
unfolding record_at
returns-then-list-at-lt45 c = simp (lt-ltb _ _ c.if-list-at-lt45.true)

pub returns-in_default : goal.returns-in_default
returns-in_default c = at_unread _ _ c.read_numbers.result c.if-list-at-lt45.false c.read_numbers.ensures.value c.in_default.not-Ok

pub returns-then-n-list : goal.returns-then-n-list
returns-then-n-list c =
    at_head _ _ _ c.if-list-at-lt45.false c.read_numbers.ensures.value _ c.in-Ok.is _ _ c.if-n-list.true c.read_numbers.ensures.numbers_after c.framed.ensures

pub returns : goal.returns
returns c = at_no_head _ _ _ c.if-list-at-lt45.false c.read_numbers.ensures.value _ c.in-Ok.is c.if-n-list.false
