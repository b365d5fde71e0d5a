-- What a half-turn of the field or a mirror image in y leaves as it is: by which test a player is in the avoidance region, and whether it is. Each law is over both signs, so that it serves
-- the two. No law asks anything of the values. Assumes nothing.
use mathlib.Core.Path.{◌≡◌, refl, ap, ◌∙◌}
use mathlib.Core.Bool.{Bool}
use lib.Ieee.{Float}
use Rattle.game.specs.declared.Ball.{Ball}
use Rattle.game.specs.declared.FieldDimensions.{FieldDimensions}
use Rattle.game.specs.declared.Game.{Game}
use Rattle.game.specs.declared.Margins.{Margins}
use Rattle.game.specs.declared.Player.{Player}
use Rattle.game.specs.declared.PlayerPose.{PlayerPose}
use Rattle.game.specs.declared.SetPlay.{SetPlay}
use Rattle.game.specs.declared.Side.{Side}
use Rattle.geometry.specs.Geometry.{side_to_sign}
use Rattle.geometry.specs.Turned.{signed, changed_pose, changed_maybe_pose, changed_player, changed_ball, changed_game}
use Rattle.geometry.proofs.Turned.{team_changed, abs_changed, distance_changed, sign_changed}
use Rattle.conditions.specs.declared.Condition.{Condition}
use Rattle.conditions.specs.declared.Condition.TheVariants.{NoCondition}
use Rattle.conditions.specs.Conditions.{first_of, is_avoidance}
use Rattle.avoidance.specs.Avoidance.{is_avoidance_region_active, must_avoid, region_condition, seen_region_condition, avoidance_condition, is_in_avoidance_region}
use Rattle.std.specs.Prelude.{Option, None, Some}

region_changed : (a b : Bool) (play : SetPlay) (f : FieldDimensions) (ball : Ball) (s : Float) (p : PlayerPose) (m : Margins) → region_condition play f (changed_ball a b ball) (signed a s) (changed_pose a b p) m ≡ region_condition play f ball s p m
unfolding region_condition
region_changed a b play f ball s p m =
    cc (team_changed a s p.x, team_changed a s ball.x, abs_changed b p.y, abs_changed b ball.y, distance_changed a b p.x p.y ball.x ball.y)

seen_region_changed : (a b : Bool) (p : Option PlayerPose) (m : Option Margins) (g : Game) (f : FieldDimensions) (ball : Ball) (side : Side) → seen_region_condition (changed_maybe_pose a b p) m (changed_game a g) f (changed_ball a b ball) side ≡ seen_region_condition p m g f ball side
seen_region_changed a b None m g f ball side = refl
seen_region_changed a b (Some p) None g f ball side = refl
seen_region_changed a b (Some p) (Some m) g f ball side =
    ap (λ (s : Float). region_condition g.set_play f (changed_ball a b ball) s (changed_pose a b p) m) (sign_changed a side g.sides)
    ∙ region_changed a b g.set_play f ball (side_to_sign side g.sides) p m

pub avoidance_condition_changed : (a b : Bool) (g : Game) (f : FieldDimensions) (ball : Ball) (side : Side) (q : Player) (m : Option Margins) → avoidance_condition (changed_game a g) f (changed_ball a b ball) side (changed_player a b q) m ≡ avoidance_condition g f ball side q m
unfolding avoidance_condition is_avoidance_region_active
avoidance_condition_changed a b g f ball side q m = ap (λ (c : Condition). first_of (must_avoid g side q.penalty) c NoCondition) (seen_region_changed a b q.pose m g f ball side)

pub avoidance_changed : (a b : Bool) (g : Game) (f : FieldDimensions) (ball : Ball) (side : Side) (q : Player) (m : Option Margins) → is_in_avoidance_region (changed_game a g) f (changed_ball a b ball) side (changed_player a b q) m ≡ is_in_avoidance_region g f ball side q m
unfolding is_in_avoidance_region
avoidance_changed a b g f ball side q m = ap is_avoidance (avoidance_condition_changed a b g f ball side q m)
