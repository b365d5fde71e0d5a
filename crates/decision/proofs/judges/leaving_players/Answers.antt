use Rattle.std.proofs.Common.{rules, refl, ◌∙◌}
use Rattle.lists.proofs.Table.{turn, done}
use Rattle.game.specs.Players.{player_at}
use Rattle.game.proofs.Listing.{numbers_flagged}
use Rattle.decision.specs.Decision.{is_leaving, leaving_players}
use Rattle.decision.proofs.judges.leaving_players.Goals as goal

pub loop-i-preserved : goal.loop-i-preserved
loop-i-preserved c = turn _ _ _ _ _ (search rules) c.loop-i.invariant c.is_leaving_the_field.ensures

pub returns : goal.returns
unfolding leaving_players
returns c =
    c.numbers_where.ensures
    ∙ numbers_flagged _ (λ i. is_leaving (player_at c.args.team i) c.args.field) (done _ _ _ _ 20 refl c.loop-i.auto.i-end c.loop-i-test.false c.loop-i.invariant)
