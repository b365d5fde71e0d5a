-- A whole record lies in the buffer.
use Rattle.std.proofs.Common.{sym, ◌∙◌}
use Rattle.records.proofs.Lying.{whole_within}
use Rattle.replay.proofs.one_record.next.Goals as goal

pub rest-requires : goal.rest-requires
rest-requires g c = whole_within _ _ _ (sym c.record_at.ensures ∙ c.in-Some.is)
