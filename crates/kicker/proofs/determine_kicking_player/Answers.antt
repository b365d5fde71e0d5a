-- The least of all keys tells the kicker.
use Rattle.std.proofs.Common.{◌≡◌, ℕ, ◌<◌, ◌≤◌, List, get_or, ap, ◌∙◌, arith, below_more}
use lib.Ieee.{Float}
use Rattle.game.specs.Players.{nobody, margins_at}
use Rattle.game.specs.declared.FieldDimensions.{FieldDimensions}
use Rattle.game.specs.declared.Game.{Game}
use Rattle.game.specs.declared.SetPlay.{SetPlay}
use Rattle.game.specs.declared.Side.{Side}
use Rattle.game.specs.declared.Team.{Team}
use Rattle.geometry.specs.Geometry.{side_to_sign}
use Rattle.keys.specs.Keys.{Least}
use Rattle.keys.proofs.LeastKey.{least_turn, least_done}
use Rattle.kicker.specs.Kicker.{player_distance, distance_at, nearest, kicker_number, determine_kicking_player}
use Rattle.kicker.specs.KickerKeys.{Small, distance_key, kicker_key}
use Rattle.kicker.proofs.KickerKeys.{key_found, key_none}
use Rattle.kicker.proofs.determine_kicking_player.Goals as goal
use Rattle.std.specs.Prelude.{Option}
use Rattle.game.specs.declared.Margins.{Margins}

pub loop-i-preserved : goal.loop-i-preserved
loop-i-preserved c =
    (least_turn _ _ _ _ _ _ c.loop-i.invariant.0 c.kicker_key-key.ensures.value c.lower_from-best.ensures, below_more _ _ c.loop-i.invariant.1 c.kicker_key-key.ensures.small)

-- ---- after the loop
least : (s : SetPlay) (field : FieldDimensions) (sign : Float) (team : Team) (margins : List (Option Margins)) (i best : ℕ) → i ≤ 20 → 20 ≤ i
    → Least i (λ k. distance_key (player_distance s field sign (get_or team.players k nobody) (margins_at margins k)) k) 0 best
    → Least 20 (kicker_key s field sign team margins) 0 best
unfolding kicker_key distance_at
least s field sign team margins i best a b w = least_done _ _ _ _ 20 a b w

small : (s : SetPlay) (field : FieldDimensions) (sign : Float) (team : Team) (margins : List (Option Margins)) (i : ℕ) → 20 ≤ i
    → ((k : ℕ) → k < i → Small (player_distance s field sign (get_or team.players k nobody) (margins_at margins k)))
    → (k : ℕ) → k < 20 → Small (distance_at s field sign team margins k)
unfolding distance_at
small s field sign team margins i a h k l = h k (omega arith)

of_the_side : (game : Game) (team : Team) (field : FieldDimensions) (margins : List (Option Margins)) (side : Side) (sign : Float) → sign ≡ side_to_sign side game.sides
    → kicker_number (nearest game.set_play field sign team margins) ≡ determine_kicking_player game team field margins side
unfolding determine_kicking_player
of_the_side game team field margins side sign e = ap (λ (x : Float). kicker_number (nearest game.set_play field x team margins)) e

pub returns-then-best-lt-NO_KEY : goal.returns-then-best-lt-NO_KEY
returns-then-best-lt-NO_KEY c =
    let a = c.args in
    let sign = c.side_to_sign-sign.result in
    key_found a.game.set_play a.field sign a.team a.margins (small _ _ _ _ _ _ c.loop-i-test.false c.loop-i.invariant.1) c.loop-i.best
    (least _ _ _ _ _ _ _ c.loop-i.auto.i-end c.loop-i-test.false c.loop-i.invariant.0) c.if-best-lt-NO_KEY.true
    ∙ of_the_side a.game a.team a.field a.margins a.side sign c.side_to_sign-sign.ensures

pub returns : goal.returns
returns c =
    let a = c.args in
    let sign = c.side_to_sign-sign.result in
    key_none a.game.set_play a.field sign a.team a.margins (small _ _ _ _ _ _ c.loop-i-test.false c.loop-i.invariant.1) c.loop-i.best
    (least _ _ _ _ _ _ _ c.loop-i.auto.i-end c.loop-i-test.false c.loop-i.invariant.0) c.if-best-lt-NO_KEY.false
    ∙ of_the_side a.game a.team a.field a.margins a.side sign c.side_to_sign-sign.ensures
