use Rattle.std.proofs.Common.{rules, refl, sym, ◌∙◌}
use Rattle.lists.proofs.Table.{turn, done}
use Rattle.decision.proofs.Told.{verdicts_told, verdicts_none}
use Rattle.decision.proofs.judges.team_verdicts.Goals as goal

pub returns-then-unjudged : goal.returns-then-unjudged
returns-then-unjudged c = verdicts_none _ _ _ _ _ _ (sym c.is_judging-unjudged.ensures ∙ c.if-unjudged.true)

pub loop-i-preserved : goal.loop-i-preserved
loop-i-preserved c = turn _ _ _ _ _ (search rules) c.loop-i.invariant c.verdict_of.ensures

pub returns : goal.returns
returns c = verdicts_told _ _ _ _ _ _ _ _ c.team_conditions-conditions.ensures (done _ _ _ _ 20 refl c.loop-i.auto.i-end c.loop-i-test.false c.loop-i.invariant)
