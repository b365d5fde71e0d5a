-- The place by what the calls tell of the line, of the posts and of y.
use Rattle.std.proofs.Common.{◌≡◌, sym, ap, ◌∙◌, Bool, true, not, cond, ◌&&◌, ℕ}
use lib.Ieee.{Float, neg}
use Rattle.floats.specs.Arithmetic.{◌*₃₂◌}
use Rattle.floats.specs.Leaves.{clamp}
use Rattle.game.specs.declared.FieldDimensions.{FieldDimensions}
use Rattle.game.specs.declared.Placement.TheVariants.{NoPlace, PlayerAt}
use Rattle.game.specs.declared.PlayerPose.{PlayerPose}
use Rattle.game.specs.declared.Side.{Side}
use Rattle.geometry.specs.Geometry.{team_x, is_on_own_goal_line}
use Rattle.places.specs.Places.{goal_line_x, post_y, keeper_place, checked_keeper_place}
use Rattle.places.proofs.keeper_place.Goals as goal

placed : (f : FieldDimensions) (side : Side) (number : ℕ) (sign : Float) (unpenalized : Bool) (p : PlayerPose) (on : Bool) (reach y : Float) → on ≡ is_on_own_goal_line (team_x sign p) p f
    → unpenalized && not on ≡ true → reach ≡ post_y f p → y ≡ clamp p.y (neg reach) reach
    → PlayerAt side number (sign *₃₂ neg (goal_line_x f)) y p.theta ≡ checked_keeper_place f side number sign unpenalized p
unfolding keeper_place
placed f side number sign unpenalized p on reach y o t r e =
    ap (λ (z : Float). PlayerAt side number (sign *₃₂ neg (goal_line_x f)) z p.theta) (e ∙ ap (λ (z : Float). clamp p.y (neg z) z) r)
    ∙ sym (ap (λ (b : Bool). cond b (keeper_place f side number sign p) NoPlace) (sym (ap (λ (b : Bool). unpenalized && not b) o) ∙ t))

pub returns-then-unpenalized-on_line : goal.returns-then-unpenalized-on_line
returns-then-unpenalized-on_line c =
    let a = c.args in
    placed a.field a.side a.number a.sign a.unpenalized a.pose c.is_on_own_goal_line-on_line.result c.max-max_y.result c.clamp-y.result c.is_on_own_goal_line-on_line.ensures c.if-unpenalized-on_line.true c.max-max_y.ensures c.clamp-y.ensures
