-- What holds of the kicking player: a half turn and a mirror image do not change it, and it is the first of those who qualify. Assumes nothing.
use mathlib.Core.Path.{◌≡◌, refl, sym, ap, ap₂, ◌∙◌}
use mathlib.Core.Bool.{Bool, true, false, true≢false, cond}
use mathlib.Core.List.{List}
use mathlib.Core.Logic.{⊎_elim}
use Prim.Native.Nat.{ℕ, ◌<◌}
use native.Mathlib.Omega.{arith}
use lib.Ieee.{Float}
use Rattle.floats.specs.Arithmetic.{◌-₃₂◌, ◌*₃₂◌}
use Rattle.game.specs.declared.FieldDimensions.{FieldDimensions}
use Rattle.game.specs.declared.Game.{Game}
use Rattle.game.specs.declared.Margins.{Margins}
use Rattle.game.specs.declared.Player.{Player}
use Rattle.game.specs.declared.PlayerPose.{PlayerPose}
use Rattle.game.specs.declared.SetPlay.{SetPlay}
use Rattle.game.specs.declared.SetPlay.TheVariants.{NoSetPlay, KickOff, DirectFreeKick, IndirectFreeKick, PenaltyKick, ThrowIn, GoalKick, CornerKick}
use Rattle.game.specs.declared.Side.{Side}
use Rattle.game.specs.declared.Team.{Team}
use Rattle.game.specs.Game.{is_unpenalized}
use Rattle.game.specs.Players.{player_at, margins_at}
use Rattle.lists.specs.Counting.{count_to}
use Rattle.lists.specs.Ranking.{rank}
use Rattle.geometry.specs.Geometry.{side_to_sign, mark_x}
use Rattle.kicker.specs.Kicker.{kick_off_distance, penalty_kick_distance, kicker_distance, seen_distance, player_distance, qualifies, distance_at, comes_before, nearest, kicker_number, determine_kicking_player}
use Rattle.kicker.specs.KickerKeys.{order_of}
use Rattle.geometry.specs.Turned.{signed, changed_pose, changed_maybe_pose, changed_team, changed_game}
use Rattle.geometry.proofs.Turned.{team_changed, hypot_changed, sign_changed, player_at_changed}
use Rattle.lists.proofs.Counting.{count_more}
use Rattle.lists.proofs.Ranking as R
use Rattle.lists.proofs.Ranking.{ranked_same}
use Rattle.lists.proofs.Bools.{by_test}
use Rattle.lists.proofs.Lexical.{Sooner, sooner, is_sooner, not_itself, through, one_of_two}
use Rattle.std.specs.Prelude.{Option, None, Some}

-- ---- a half turn and a mirror image: x changes its sign with the ends where a is true, and y where b is
kick_off_changed : (a b : Bool) (field : FieldDimensions) (sign : Float) (p : PlayerPose) → kick_off_distance field (signed a sign) (changed_pose a b p) ≡ kick_off_distance field sign p
unfolding kick_off_distance
kick_off_changed a b field sign p = cc (team_changed a sign p.x, hypot_changed a b p.x p.y)

penalty_kick_changed : (a b : Bool) (field : FieldDimensions) (sign : Float) (p : PlayerPose) (m : Margins) → penalty_kick_distance field (signed a sign) (changed_pose a b p) m ≡ penalty_kick_distance field sign p m
unfolding penalty_kick_distance
penalty_kick_changed a b field sign p m = cc (team_changed a sign p.x, hypot_changed false b (sign *₃₂ p.x -₃₂ mark_x field) p.y)

-- a player's distance
pub distance_changed : (a b : Bool) (s : SetPlay) (field : FieldDimensions) (sign : Float) (p : PlayerPose) (m : Margins) → kicker_distance s field (signed a sign) (changed_pose a b p) m ≡ kicker_distance s field sign p m
distance_changed a b NoSetPlay field sign p m = refl
distance_changed a b KickOff field sign p m = kick_off_changed a b field sign p
distance_changed a b DirectFreeKick field sign p m = refl
distance_changed a b IndirectFreeKick field sign p m = refl
distance_changed a b PenaltyKick field sign p m = penalty_kick_changed a b field sign p m
distance_changed a b ThrowIn field sign p m = refl
distance_changed a b GoalKick field sign p m = refl
distance_changed a b CornerKick field sign p m = refl

seen_changed : (a b : Bool) (s : SetPlay) (field : FieldDimensions) (sign : Float) (p : Option PlayerPose) (m : Option Margins) → seen_distance s field (signed a sign) (changed_maybe_pose a b p) m ≡ seen_distance s field sign p m
seen_changed a b s field sign None m = refl
seen_changed a b s field sign (Some p) None = refl
seen_changed a b s field sign (Some p) (Some m) = distance_changed a b s field sign p m

module _ (a b : Bool) (s : SetPlay) (field : FieldDimensions) (sign : Float) (team : Team) (margins : List (Option Margins)) where
  at_changed : (i : ℕ) → distance_at s field (signed a sign) (changed_team a b team) margins i ≡ distance_at s field sign team margins i
  unfolding distance_at
  at_changed i =
      ap (λ (q : Player). player_distance s field (signed a sign) q (margins_at margins i)) (player_at_changed a b team i)
      ∙ ap (λ (d : Option Float). cond (is_unpenalized (player_at team i).penalty) d None) (seen_changed a b s field sign (player_at team i).pose (margins_at margins i))

  nearest_changed : nearest s field (signed a sign) (changed_team a b team) margins ≡ nearest s field sign team margins
  unfolding nearest
  nearest_changed =
      ranked_same 20 (λ i. qualifies (distance_at s field (signed a sign) (changed_team a b team) margins i)) (λ i. qualifies (distance_at s field sign team margins i))
      (λ i j. comes_before (distance_at s field (signed a sign) (changed_team a b team) margins i) (distance_at s field (signed a sign) (changed_team a b team) margins j) i j)
      (λ i j. comes_before (distance_at s field sign team margins i) (distance_at s field sign team margins j) i j) 0
      (λ i l. ap qualifies (at_changed i))
      (λ i j l m c d. ap₂ (λ (x y : Option Float). comes_before x y i j) (at_changed i) (at_changed j))

-- the same player kicks
pub kicker_changed : (a b : Bool) (g : Game) (t : Team) (f : FieldDimensions) (m : List (Option Margins)) (side : Side)
    → determine_kicking_player (changed_game a g) (changed_team a b t) f m side ≡ determine_kicking_player g t f m side
unfolding determine_kicking_player
kicker_changed a b g t f m side =
    ap (λ (x : Float). kicker_number (nearest g.set_play f x (changed_team a b t) m)) (sign_changed a side g.sides)
    ∙ ap kicker_number (nearest_changed a b g.set_play f (side_to_sign side g.sides) t m)

-- ---- the kicker comes first
module _ (s : SetPlay) (field : FieldDimensions) (sign : Float) (team : Team) (margins : List (Option Margins)) where
  may : ℕ → Bool
  may i = qualifies (distance_at s field sign team margins i)

  before : ℕ → ℕ → Bool
  before i j = comes_before (distance_at s field sign team margins i) (distance_at s field sign team margins j) i j

  order : ℕ → ℕ
  order i = order_of (distance_at s field sign team margins i)

  nearer : (i j : ℕ) → before i j ≡ true → Sooner 0 0 (order i) (order j) (i < j)
  unfolding before order
  nearer i j t = sooner 0 0 (order i) (order j) i j t

  is_nearer : (i j : ℕ) → Sooner 0 0 (order i) (order j) (i < j) → before i j ≡ true
  unfolding before order
  is_nearer i j e = is_sooner 0 0 (order i) (order j) i j e

  irreflexive : (i : ℕ) → before i i ≡ false
  irreflexive i = by_test (before i i) (λ t. absurd (not_itself 0 (order i) (λ (h : i < i). omega arith) (nearer i i t))) (λ f. f)

  transitive : (i j k : ℕ) → before i j ≡ true → before j k ≡ true → before i k ≡ true
  transitive i j k a b = is_nearer i k (through 0 0 0 (order i) (order j) (order k) (λ (h : i < j) (m : j < k). omega arith) (nearer i j a) (nearer j k b))

  total : (i j : ℕ) → i < 20 → j < 20 → may i ≡ true → may j ≡ true → (i ≡ j → ⊥) → before i j ≡ false → before j i ≡ true
  total i j l m a b n f =
      ⊎_elim (λ (e : Sooner 0 0 (order i) (order j) (i < j)). absurd (true≢false (sym (is_nearer i j e) ∙ f))) (λ (e : Sooner 0 0 (order j) (order i) (j < i)). is_nearer j i e)
      (one_of_two 0 0 (order i) (order j) i j n)

  -- where somebody qualifies, the nearest does, and comes before everybody else who does
  pub nearest_first : (i : ℕ) → i < 20 → qualifies (distance_at s field sign team margins i) ≡ true
      → (nearest s field sign team margins < 20)
      × (qualifies (distance_at s field sign team margins (nearest s field sign team margins)) ≡ true)
      × ((i ≡ nearest s field sign team margins → ⊥) → comes_before (distance_at s field sign team margins (nearest s field sign team margins)) (distance_at s field sign team margins i) (nearest s field sign team margins) i ≡ true)
  unfolding nearest may before
  nearest_first i l t =
      let some : count_to 20 (λ k. false) < count_to 20 may = count_more 20 (λ k. false) may (λ k m u. absurd (true≢false (sym u))) i l refl t in
      let there = R.ranked_there 20 may before irreflexive transitive total 0 (omega arith) in (
        there.0,
        there.1,
        λ n.
            let later : rank 20 may before i ≡ 0 → ⊥ = λ e. n (R.rank_once 20 may before irreflexive transitive total i (nearest s field sign team margins) l there.0 t there.1 (e ∙ sym there.2)) in
            R.order_follows 20 may before irreflexive transitive total (nearest s field sign team margins) i there.0 l there.1 t (omega (arith, there.2)),
      )
