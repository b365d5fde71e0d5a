-- The number and one piece.
use Rattle.text.proofs.Pushed.{next_piece}
use Rattle.replies.proofs.push_fault.Goals as goal

pub returns-in-Outside : goal.returns-in-Outside
returns-in-Outside c = simp c.in-Outside.is (next_piece 256 _ _ _ c.push_number.ensures c.push-in-Outside.ensures)

pub returns-in-LongList : goal.returns-in-LongList
returns-in-LongList c = simp c.in-LongList.is (next_piece 256 _ _ _ c.push_number-in-LongList.ensures c.push-in-LongList.ensures)
