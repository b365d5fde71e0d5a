-- The player is looked up in the team of its side, and the heading is chosen by the sign of y: each is known by the way that was taken.
use Rattle.std.proofs.Common.{◌≡◌, true, false, refl, ◌∙◌}
use Rattle.game.specs.Players.{team_of_side, player_numbered}
use Rattle.game.specs.declared.Side.TheVariants.{Home, Away}
use Rattle.penalty.specs.Penalty.{inward}
use Rattle.penalty.proofs.Told.{player_told, heading_told, place_none, place_absent, place_given}
use Rattle.penalty.proofs.place_for_penalty.Goals as goal
use Rattle.penalty.proofs.place_for_penalty.Goals.{in-Home, in-Away, then-y, else-y}

pub returns-then-xs-ys : goal.returns-then-xs-ys
returns-then-xs-ys c =
    let a = c.args in
    place_none a.game.sides a.field a.distance a.home a.away a.earlier.xs.now a.earlier.ys.now a.side a.number c.if-xs-ys.true

pub returns-in-None : goal.returns-in-None
returns-in-None c =
    let a = c.args in
    let q = c.match-side.player in
    let found : q ≡ player_numbered (team_of_side a.home a.away a.side) a.number =
    elim c.match-side.branch [
      | in-Home w ↦ player_told a.home a.away a.home a.side Home a.number q w.in-Home.is refl (w.player-is ∙ w.player_numbered-player.ensures)
      | in-Away w ↦ player_told a.home a.away a.away a.side Away a.number q w.in-Away.is refl (w.player-is ∙ w.player_numbered-player-in-Away.ensures)
    ] in
    place_absent a.game.sides a.field a.distance a.home a.away a.earlier.xs.now a.earlier.ys.now a.side a.number q c.if-xs-ys.false found c.in-None.is

pub returns-after-y : goal.returns-after-y
returns-after-y c =
    let a = c.args in
    let q = c.match-side.player in
    let found : q ≡ player_numbered (team_of_side a.home a.away a.side) a.number =
    elim c.match-side.branch [
      | in-Home w ↦ player_told a.home a.away a.home a.side Home a.number q w.in-Home.is refl (w.player-is ∙ w.player_numbered-player.ensures)
      | in-Away w ↦ player_told a.home a.away a.away a.side Away a.number q w.in-Away.is refl (w.player-is ∙ w.player_numbered-player-in-Away.ensures)
    ] in
    let y = c.copysign-y.result in
    let headed : c.if-y.theta ≡ inward y =
    elim c.if-y.branch [ then-y w ↦ heading_told y c.if-y.theta true w.if-y.true w.theta-is | else-y w ↦ heading_told y c.if-y.theta false w.if-y.false w.theta-is ] in
    place_given a.game.sides a.field a.distance a.home a.away a.earlier.xs.now a.earlier.ys.now a.side a.number q c.if-xs-ys.false found
    _ c.side_to_sign-sign.result y c.if-y.theta c.team_place-team_x.result
    c.in-Some.is c.side_to_sign-sign.ensures c.copysign-y.ensures headed c.team_place-team_x.ensures
