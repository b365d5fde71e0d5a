-- What several items of a decision, and the coach's lines, use of a side. Definitions only.
use Rattle.game.specs.declared.FieldDimensions.{FieldDimensions}
use Rattle.game.specs.declared.Game.{Game}
use Rattle.game.specs.declared.Side.{Side}
use Rattle.game.specs.declared.Team.{Team}
use Rattle.geometry.specs.Geometry.{side_to_sign, compute_margins}
use Rattle.counts.specs.Counts.{players_on_field}
use Rattle.seen.specs.declared.Seen.{Seen}

-- its players' margins, and how many of them are on the field
unfoldable pub side_seen : Game → FieldDimensions → Side → Team → Seen
side_seen g f side t = record { margins = compute_margins t f (side_to_sign side g.sides); on_field = players_on_field t }
