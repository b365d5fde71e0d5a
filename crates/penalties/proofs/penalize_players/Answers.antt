use Rattle.std.proofs.Common.{rules, refl, ap, ap₂, Bool, List, ℕ, ◌∙◌, ◌≡◌, get_or, false}
use Rattle.lists.proofs.Table.{turn, done, table_at}
use Rattle.game.specs.Players.{number_at}
use Rattle.penalties.specs.declared.PlayerCall.{PlayerCall}
use Rattle.penalties.specs.declared.Asked.{Asked}
use Rattle.penalties.specs.declared.Penalized.{Penalized}
use Rattle.penalties.specs.Penalties.{is_listed, penalize_players}
use Rattle.penalties.proofs.Turns.{none_asked, next_asked, next_kicking, last_kicking}
use Rattle.penalties.proofs.penalize_players.Goals as goal
use Rattle.std.specs.Prelude.{Option}

pub loop-i-init : goal.loop-i-init
loop-i-init c =
    let a = c.args in
    (refl, none_asked a.game a.field a.team a.verdicts a.excess a.remembered a.grace_over a.kicking_player)

pub loop-i-preserved : goal.loop-i-preserved
loop-i-preserved c =
    let a = c.args in
    let i = c.loop-i.i in
    let in_excess : get_or c.listed_flags-in_excess.result i false ≡ is_listed a.excess (number_at i) =
    ap (λ (l : List Bool). get_or l i false) c.listed_flags-in_excess.ensures ∙ table_at 20 (λ k. is_listed a.excess (number_at k)) false i c.loop-i-test.true
    in
    let asked =
    next_asked a.game a.field a.team a.verdicts a.excess a.remembered a.grace_over a.kicking_player i c.asked_player-asked.result _ c.loop-i.kicker c.asked_player-asked.ensures in_excess c.loop-i.invariant.1
    in (
      turn _ _ _ _ _ (search rules) c.loop-i.invariant.0 (ap (λ (x : Asked). x.call) asked),
      next_kicking a.game a.field a.team a.verdicts a.excess a.remembered a.grace_over a.kicking_player i c.asked_player-asked.result asked,
    )

pub returns : goal.returns
unfolding penalize_players
returns c =
    let a = c.args in
    let made : List (Option PlayerCall) → Option ℕ → Penalized = λ calls kicker. record { calls = calls; kicking_player = kicker } in
    ap₂ made
    (done _ _ _ _ 20 refl c.loop-i.auto.i-end c.loop-i-test.false c.loop-i.invariant.0)
    (last_kicking a.game a.field a.team a.verdicts a.excess a.remembered a.grace_over a.kicking_player c.loop-i.i 20 c.loop-i.kicker c.loop-i.auto.i-end c.loop-i-test.false c.loop-i.invariant.1)
