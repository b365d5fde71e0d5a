-- A whole record lies in the list.
use Rattle.std.proofs.Common.{sym, ◌∙◌}
use Rattle.records.proofs.Lying.{whole_within}
use Rattle.case_checks.proofs.compared.Goals as goal

pub agrees-requires : goal.agrees-requires
agrees-requires g c = whole_within _ _ _ (sym c.record_at.ensures ∙ c.in-Some.is)
