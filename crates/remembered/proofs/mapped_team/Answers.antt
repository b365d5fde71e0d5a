use Rattle.std.proofs.Common.{rules, ap, List}
use Rattle.lists.proofs.Table.{done}
use Rattle.game.specs.Players.{nobody}
use Rattle.game.specs.declared.Player.{Player}
use Rattle.game.specs.declared.Team.{Team}
use Rattle.remembered.specs.Remembered.{remembered_at}
use Rattle.remembered.proofs.Walk.{turn_in_place}
use Rattle.remembered.proofs.mapped_team.Goals as goal

pub loop-i-preserved : goal.loop-i-preserved
loop-i-preserved g c = λ by gives.
    turn_in_place (λ p k. by p (remembered_at c.args.remembered k)) nobody _ _ _ _ (search rules) (c.loop-i.invariant by gives) (gives _ _ _ c.change.ensures)

pub returns : goal.returns
returns g c = λ by gives.
    let made : List Player → Team = λ players. record { players = players; goalkeeper = c.args.team.goalkeeper } in
    ap made (done _ _ _ _ 20 (search rules) c.loop-i.auto.i-end c.loop-i-test.false (c.loop-i.invariant by gives))
