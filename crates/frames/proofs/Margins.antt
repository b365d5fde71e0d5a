-- The margins that the frame was seen with are those of the frame as it is judged, whose poses are the same. Assumes nothing.
use Rattle.std.proofs.Common.{◌≡◌, refl, ap, sym, ◌∙◌}
use Rattle.std.specs.Prelude.{Option}
use Rattle.game.specs.Players.{team_of}
use Rattle.game.specs.declared.Side.{Side}
use Rattle.game.specs.declared.Side.TheVariants.{Home, Away}
use Rattle.game.specs.declared.Situation.{Situation}
use Rattle.geometry.specs.Geometry.{compute_margins}
use Rattle.seen.specs.Seen.{side_seen}
use Rattle.seen.specs.declared.Seen.{Seen}
use Rattle.decision.specs.Decision.{team_margins, side_margins}
use Rattle.remembered.specs.Remembered.{judged_team}
use Rattle.frames.specs.declared.Memory.{Memory}
use Rattle.frames.specs.declared.Touch.{Touch}
use Rattle.frames.specs.Frames.{judged_frame}

pub seen_margins : (s : Situation) (side : Side) (seen : Seen) → seen ≡ side_seen s.game s.field side (team_of s side) → seen.margins ≡ side_margins s side
unfolding side_seen team_margins side_margins
seen_margins s side seen e = ap (λ (x : Seen). x.margins) e

judged_margins : (s : Situation) (t : Option Touch) (m : Memory) (side : Side) → side_margins s side ≡ side_margins (judged_frame s t m) side
unfolding compute_margins team_margins side_margins judged_team judged_frame
judged_margins s t m Home = refl
judged_margins s t m Away = refl

pub judged_seen_margins : (s : Situation) (t : Option Touch) (m : Memory) (side : Side) (seen : Seen) (judged : Situation) → seen ≡ side_seen s.game s.field side (team_of s side) → judged ≡ judged_frame s t m → seen.margins ≡ side_margins judged side
judged_seen_margins s t m side seen judged e j = seen_margins s side seen e ∙ judged_margins s t m side ∙ ap (λ (x : Situation). side_margins x side) (sym j)
