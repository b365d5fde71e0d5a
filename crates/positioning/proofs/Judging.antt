-- Where positions are not judged, or no set play is on, nobody has a condition. Assumes nothing.
use mathlib.Core.Path.{◌≡◌, refl, sym, ap, ◌∙◌}
use mathlib.Core.Bool.{Bool, true, false, ◌&&◌, true≢false}
use mathlib.Core.List.{List, [], ◌∷◌}
use denote.Enum.Declared.{tag_of}
use types.Run.{OneOf, miss}
use Prim.Native.Nat.{ℕ}
use lib.ListN.{replicate}
use Rattle.lists.proofs.Table.{table_same}
use Rattle.game.specs.contracts.SetPlay.{the_type}
use Rattle.game.specs.Game.{is_number, is_unpenalized}
use Rattle.game.specs.Players.{player_at, margins_at, number_at}
use Rattle.game.specs.declared.Ball.{Ball}
use Rattle.game.specs.declared.FieldDimensions.{FieldDimensions}
use Rattle.game.specs.declared.Game.{Game}
use Rattle.game.specs.declared.Player.{Player}
use Rattle.game.specs.declared.PlayerPose.{PlayerPose}
use Rattle.game.specs.declared.Margins.{Margins}
use Rattle.game.specs.declared.SetPlay.{SetPlay}
use Rattle.game.specs.declared.SetPlay.TheVariants.{NoSetPlay, KickOff, DirectFreeKick, IndirectFreeKick, PenaltyKick, ThrowIn, GoalKick, CornerKick}
use Rattle.game.specs.declared.Side.{Side}
use Rattle.game.specs.declared.Team.{Team}
use Rattle.conditions.specs.Conditions.{first_of}
use Rattle.conditions.specs.declared.Condition.{Condition}
use Rattle.conditions.specs.declared.Condition.TheVariants.{NoCondition}
use Rattle.avoidance.specs.Avoidance.{avoidance_condition}
use Rattle.positioning.specs.Positioning.{set_play_condition, seen_condition, is_set_or_playing, is_judged, condition_of, condition_at, team_conditions, is_set_play, is_judging}
use Rattle.std.specs.Prelude.{Option, None, Some}

-- one of the others
pub any_play : (play : SetPlay) → OneOf (1 ∷ 2 ∷ 3 ∷ 4 ∷ 5 ∷ 6 ∷ 7 ∷ []) (tag_of the_type play) → is_set_play play ≡ true
any_play NoSetPlay h = absurd (miss (1 ∷ 2 ∷ 3 ∷ 4 ∷ 5 ∷ 6 ∷ 7 ∷ []) 0 tt h)
any_play KickOff h = refl
any_play DirectFreeKick h = refl
any_play IndirectFreeKick h = refl
any_play PenaltyKick h = refl
any_play ThrowIn h = refl
any_play GoalKick h = refl
any_play CornerKick h = refl

-- no set play
no_play : (play : SetPlay) (g : Game) (f : FieldDimensions) (side : Side) (keeper : Bool) (c : Condition) (p : PlayerPose) (m : Margins) → is_set_play play ≡ false → set_play_condition play g f side keeper c p m ≡ NoCondition
no_play NoSetPlay g f side keeper c p m e = refl
no_play KickOff g f side keeper c p m e = absurd (true≢false e)
no_play DirectFreeKick g f side keeper c p m e = absurd (true≢false e)
no_play IndirectFreeKick g f side keeper c p m e = absurd (true≢false e)
no_play PenaltyKick g f side keeper c p m e = absurd (true≢false e)
no_play ThrowIn g f side keeper c p m e = absurd (true≢false e)
no_play GoalKick g f side keeper c p m e = absurd (true≢false e)
no_play CornerKick g f side keeper c p m e = absurd (true≢false e)

no_seen : (pose : Option PlayerPose) (margins : Option Margins) (g : Game) (f : FieldDimensions) (side : Side) (keeper : Bool) (c : Condition) → is_set_play g.set_play ≡ false → seen_condition pose margins g f side keeper c ≡ NoCondition
no_seen None margins g f side keeper c e = refl
no_seen (Some p) None g f side keeper c e = refl
no_seen (Some p) (Some m) g f side keeper c e = no_play g.set_play g f side keeper c p m e

-- whatever the tests are
none_first : (b : Bool) (c : Condition) → c ≡ NoCondition → first_of b c NoCondition ≡ NoCondition
none_first true c e = e
none_first false c e = refl

not_judged : (g : Game) (f : FieldDimensions) (b : Ball) (side : Side) (goalkeeper : Option ℕ) (n : ℕ) (q : Player) (m : Option Margins) → is_judging g ≡ false → condition_of g f b side goalkeeper n q m ≡ NoCondition
unfolding condition_of
not_judged g f b side goalkeeper n q m e = go (is_set_play g.set_play) refl
  where
    rest : Condition
    rest = seen_condition q.pose m g f side (is_number goalkeeper n) (avoidance_condition g f b side q m)

    asked : Bool
    asked = is_set_or_playing g

    never : asked ≡ false → first_of (asked && is_unpenalized q.penalty) rest NoCondition ≡ NoCondition
    never x = ap (λ (z : Bool). first_of (z && is_unpenalized q.penalty) rest NoCondition) x

    go : (z : Bool) → is_set_play g.set_play ≡ z → first_of (is_judged g q.penalty) rest NoCondition ≡ NoCondition
    go true x = never (ap (λ (z : Bool). z && asked) (sym x) ∙ e)
    go false x = none_first (is_judged g q.penalty) rest (no_seen q.pose m g f side (is_number goalkeeper n) (avoidance_condition g f b side q m) x)

pub none_judged : (g : Game) (f : FieldDimensions) (b : Ball) (side : Side) (t : Team) (margins : List (Option Margins)) → is_judging g ≡ false → replicate 20 NoCondition ≡ team_conditions g f b side t margins
unfolding team_conditions
none_judged g f b side t margins e =
    table_same 20 (λ k. NoCondition) (condition_at g f b side t margins) (λ k h. sym (not_judged g f b side t.goalkeeper (number_at k) (player_at t k) (margins_at margins k) e))
