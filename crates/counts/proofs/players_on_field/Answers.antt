use Rattle.std.proofs.Common.{true, false, sym, ◌∙◌, get_or, arith}
use Rattle.lists.proofs.Counting.{count_none, count_turn, count_done, count_le}
use Rattle.game.specs.Players.{nobody}
use Rattle.counts.specs.Counts.{is_on_field, players_on_field}
use Rattle.counts.proofs.players_on_field.Goals as goal
use Rattle.counts.proofs.players_on_field.Goals.{then-is_on_field, else-is_on_field}

pub loop-i-init : goal.loop-i-init
loop-i-init c = count_none _

pub overflow_add-n : goal.overflow_add-n
overflow_add-n c = omega (arith, c.loop-i.invariant, count_le c.loop-i.i (λ k. is_on_field (get_or c.args.team.players k nobody)))

pub loop-i-preserved : goal.loop-i-preserved
loop-i-preserved c =
    elim c.if-is_on_field.branch [
      | then-is_on_field w ↦ count_turn _ true _ _ _ c.loop-i.invariant (sym w.if-is_on_field.true ∙ c.is_on_field.ensures) w.n-is
      | else-is_on_field w ↦ count_turn _ false _ _ _ c.loop-i.invariant (sym w.if-is_on_field.false ∙ c.is_on_field.ensures) w.n-is
    ]

pub returns : goal.returns
unfolding players_on_field
returns c = count_done _ _ _ 20 c.loop-i.auto.i-end c.loop-i-test.false c.loop-i.invariant
