-- What the theorem of the change of signs asks of a situation's floats: those that its proof looks at fit binary32, as every f32 of the language does. Definitions only.
use Rattle.std.specs.Prelude.{ℕ, T, Option, None, Some}
use Rattle.std.specs.Float.{binary32}
use Rattle.std.specs.Float.Ieee.{fits}
use Rattle.game.specs.Players.{player_at}
use Rattle.game.specs.declared.Ball.{Ball}
use Rattle.game.specs.declared.FieldDimensions.{FieldDimensions}
use Rattle.game.specs.declared.PlayerPose.{PlayerPose}
use Rattle.game.specs.declared.Situation.{Situation}

-- y and radius of a pose
pub record PoseFit (p : PlayerPose) : Type 0 where
  pub y : T (fits binary32 p.y)
  pub radius : T (fits binary32 p.radius)

-- of a pose, where there is one
abbrev pub SeenFit : Option PlayerPose → Type 0
SeenFit None = Unit {0}
SeenFit (Some p) = PoseFit p

-- four of the field's sizes
pub record SizesFit (f : FieldDimensions) : Type 0 where
  pub length : T (fits binary32 f.length)
  pub width : T (fits binary32 f.width)
  pub border_strip_width : T (fits binary32 f.border_strip_width)
  pub ball_radius : T (fits binary32 f.ball_radius)

-- x and y of the ball
pub record BallFit (b : Ball) : Type 0 where
  pub x : T (fits binary32 b.x)
  pub y : T (fits binary32 b.y)

-- all of these of a situation, for each player of both teams
pub record Fit (s : Situation) : Type 0 where
  pub field : SizesFit s.field
  pub home : (i : ℕ) → SeenFit (player_at s.home i).pose
  pub away : (i : ℕ) → SeenFit (player_at s.away i).pose
  pub ball : BallFit s.ball
