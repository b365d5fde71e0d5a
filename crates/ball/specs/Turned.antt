-- The one judgment that the half turn changes. Definitions only.
use Rattle.std.specs.Prelude.{Bool, true, false, not, ◌&&◌, Float, Option, None, Some}
use Rattle.std.specs.Float.Ieee.{eq}
use Rattle.floats.specs.Arithmetic.{zero32}
use Rattle.game.specs.Game.{is_shootout}
use Rattle.game.specs.declared.Ball.{Ball}
use Rattle.game.specs.declared.FieldDimensions.{FieldDimensions}
use Rattle.game.specs.declared.Game.{Game}
use Rattle.ball.specs.Ball.{is_running, past_touchline}
use Rattle.game.specs.declared.Side.{Side}

-- +0 or -0
abbrev pub is_zero : Float → Bool
is_zero x = eq x zero32

-- no side
abbrev pub is_none : Option Side → Bool
is_none None = true
is_none (Some side) = false

-- play runs unstopped outside a shoot-out
abbrev pub is_in_play : Game → Bool
is_in_play g = is_running g && not (is_shootout g.phase)

-- the ball is past a touchline at x zero, and nobody has touched it
abbrev pub is_between_halves : FieldDimensions → Ball → Option Side → Bool
is_between_halves f b contact = is_zero b.x && past_touchline f b && is_none contact

-- The side that throws in is then the one in whose half the ball is, and x zero is in the right half before and after the turn.
abbrev pub is_excepted : Game → FieldDimensions → Ball → Option Side → Bool
is_excepted g f b contact = is_in_play g && is_between_halves f b contact
