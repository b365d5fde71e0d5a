-- What a half-turn of the field or a mirror image in y leaves as it is: the condition that settles a verdict, and with it every verdict on a player. Each law is over both signs, so
-- that it serves the two. No law asks anything of the values. Assumes nothing.
use mathlib.Core.Path.{◌≡◌, refl, ap, ◌∙◌}
use mathlib.Core.Bool.{Bool, false}
use Prim.Native.Nat.{ℕ}
use lib.Ieee.{Float, neg}
use Rattle.floats.specs.Arithmetic.{◌-₃₂◌, ◌*₃₂◌}
use Rattle.game.specs.Game.{is_number}
use Rattle.game.specs.declared.Ball.{Ball}
use Rattle.game.specs.declared.FieldDimensions.{FieldDimensions}
use Rattle.game.specs.declared.Game.{Game}
use Rattle.game.specs.declared.Margins.{Margins}
use Rattle.game.specs.declared.Player.{Player}
use Rattle.game.specs.declared.PlayerPose.{PlayerPose}
use Rattle.game.specs.declared.SetPlay.{SetPlay}
use Rattle.game.specs.declared.SetPlay.TheVariants.{NoSetPlay, KickOff, DirectFreeKick, IndirectFreeKick, PenaltyKick, ThrowIn, GoalKick, CornerKick}
use Rattle.game.specs.declared.Side.{Side}
use Rattle.game.specs.declared.State.{State}
use Rattle.geometry.specs.Geometry.{side_to_sign, mark_x}
use Rattle.geometry.specs.Turned.{changed_pose, changed_maybe_pose, changed_player, changed_ball, changed_game}
use Rattle.geometry.proofs.Turned.{team_changed, hypot_changed, sign_changed}
use Rattle.conditions.specs.declared.Condition.{Condition}
use Rattle.conditions.specs.declared.Condition.TheVariants.{NoCondition}
use Rattle.conditions.specs.Conditions.{first_of, verdict_of}
use Rattle.avoidance.specs.Avoidance.{avoidance_condition}
use Rattle.avoidance.proofs.Turned.{avoidance_condition_changed}
use Rattle.positioning.specs.Positioning.{kick_off_condition, attack_condition, defence_condition, penalty_kick_condition, set_play_condition, seen_condition, is_judged, condition_of, is_illegally_positioned}
use Rattle.std.specs.Prelude.{Option, None, Some}

kick_off_changed : (a b : Bool) (g : Game) (f : FieldDimensions) (side : Side) (p : PlayerPose) → kick_off_condition (changed_game a g) f side (changed_pose a b p) ≡ kick_off_condition g f side p
unfolding kick_off_condition
kick_off_changed a b g f side p = cc (sign_changed a side g.sides, team_changed a (side_to_sign side g.sides) p.x, hypot_changed a b p.x p.y)

attack_changed : (a b : Bool) (state : State) (f : FieldDimensions) (x : Float) (p : PlayerPose) (m : Margins) → attack_condition state f x (changed_pose a b p) m ≡ attack_condition state f x p m
unfolding attack_condition
attack_changed a b state f x p m = cc (hypot_changed false b (x -₃₂ mark_x f) p.y)

defence_changed : (a b : Bool) (f : FieldDimensions) (x : Float) (p : PlayerPose) (m : Margins) → defence_condition f x (changed_pose a b p) m ≡ defence_condition f x p m
unfolding defence_condition
defence_changed a b f x p m = cc (hypot_changed false b (x -₃₂ neg (mark_x f)) p.y)

penalty_kick_changed : (a b : Bool) (g : Game) (f : FieldDimensions) (side : Side) (keeper : Bool) (p : PlayerPose) (m : Margins) → penalty_kick_condition (changed_game a g) f side keeper (changed_pose a b p) m ≡ penalty_kick_condition g f side keeper p m
unfolding penalty_kick_condition
penalty_kick_changed a b g f side keeper p m =
    let s = side_to_sign side g.sides in
    cc (sign_changed a side g.sides, team_changed a s p.x, attack_changed a b g.state f (s *₃₂ p.x) p m, defence_changed a b f (s *₃₂ p.x) p m)

set_play_changed : (a b : Bool) (play : SetPlay) (g : Game) (f : FieldDimensions) (side : Side) (keeper : Bool) (c : Condition) (p : PlayerPose) (m : Margins) → set_play_condition play (changed_game a g) f side keeper c (changed_pose a b p) m ≡ set_play_condition play g f side keeper c p m
set_play_changed a b NoSetPlay g f side keeper c p m = refl
set_play_changed a b KickOff g f side keeper c p m = kick_off_changed a b g f side p
set_play_changed a b DirectFreeKick g f side keeper c p m = refl
set_play_changed a b IndirectFreeKick g f side keeper c p m = refl
set_play_changed a b PenaltyKick g f side keeper c p m = penalty_kick_changed a b g f side keeper p m
set_play_changed a b ThrowIn g f side keeper c p m = refl
set_play_changed a b GoalKick g f side keeper c p m = refl
set_play_changed a b CornerKick g f side keeper c p m = refl

seen_changed : (a b : Bool) (p : Option PlayerPose) (m : Option Margins) (g : Game) (f : FieldDimensions) (side : Side) (keeper : Bool) (c : Condition) → seen_condition (changed_maybe_pose a b p) m (changed_game a g) f side keeper c ≡ seen_condition p m g f side keeper c
seen_changed a b None m g f side keeper c = refl
seen_changed a b (Some p) None g f side keeper c = refl
seen_changed a b (Some p) (Some m) g f side keeper c = set_play_changed a b g.set_play g f side keeper c p m

pub condition_changed : (a b : Bool) (g : Game) (f : FieldDimensions) (ball : Ball) (side : Side) (goalkeeper : Option ℕ) (number : ℕ) (q : Player) (m : Option Margins) → condition_of (changed_game a g) f (changed_ball a b ball) side goalkeeper number (changed_player a b q) m ≡ condition_of g f ball side goalkeeper number q m
unfolding condition_of
condition_changed a b g f ball side goalkeeper number q m =
    let avoidance = avoidance_condition (changed_game a g) f (changed_ball a b ball) side (changed_player a b q) m in
    ap (λ (c : Condition). first_of (is_judged g q.penalty) c NoCondition)
    (seen_changed a b q.pose m g f side (is_number goalkeeper number) avoidance ∙ ap (seen_condition q.pose m g f side (is_number goalkeeper number)) (avoidance_condition_changed a b g f ball side q m))

pub verdict_changed : (a b : Bool) (g : Game) (f : FieldDimensions) (ball : Ball) (side : Side) (goalkeeper : Option ℕ) (number : ℕ) (q : Player) (m : Option Margins) → is_illegally_positioned (changed_game a g) f (changed_ball a b ball) side goalkeeper number (changed_player a b q) m ≡ is_illegally_positioned g f ball side goalkeeper number q m
unfolding is_illegally_positioned
verdict_changed a b g f ball side goalkeeper number q m = ap verdict_of (condition_changed a b g f ball side goalkeeper number q m)
