-- The loop fills the table of verdicts from that of the conditions, where positions are judged.
use Rattle.std.proofs.Common.{◌≡◌, ◌-◌}
use Rattle.lists.specs.Table.{filled}
use Rattle.decision.proofs.Told.{verdict_by}
use Rattle.decision.proofs.judges.team_verdicts.Given as goal

abbrev pub invariant-loop-i : goal.invariant-loop-i
invariant-loop-i l = l.out ≡ filled (verdict_by l.conditions) l.initial.out l.i
