use Rattle.std.proofs.Common.{rules, ap, Bool, ◌∙◌}
use Rattle.lists.specs.Table.{table}
use Rattle.lists.proofs.Table.{turn, done}
use Rattle.game.specs.Players.{player_at, margins_at}
use Rattle.remembered.specs.Remembered.{remembered_at, framed_player}
use Rattle.remembered.proofs.Framed.{each_framed}
use Rattle.remembered.proofs.framed_players.Goals as goal

pub loop-i-preserved : goal.loop-i-preserved
loop-i-preserved c = turn _ _ _ _ _ (search rules) c.loop-i.invariant c.framed_player.ensures

pub returns : goal.returns
returns c =
    done _ _ _ _ 20 (search rules) c.loop-i.auto.i-end c.loop-i-test.false c.loop-i.invariant
    ∙ ap
    (λ (active : Bool). table 20 (λ i. framed_player c.args.begun active c.args.game c.args.field c.args.ball c.args.side (player_at c.args.team i) (margins_at c.args.margins i) (remembered_at c.args.remembered i)))
    c.is_avoidance_region_active-active.ensures
    ∙ each_framed c.args.begun c.args.game c.args.field c.args.ball c.args.side c.args.team c.args.margins c.args.remembered
