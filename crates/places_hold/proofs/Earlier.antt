-- The sign of a zero of an earlier place changes no distance, and so no decision. Assumes nothing.
use mathlib.Core.Path.{◌≡◌, refl, sym, ap, ap₂, ◌∙◌}
use mathlib.Core.Logic.{inl, inr}
use mathlib.Core.Bool.{Bool, true, false, not, cond, ◌&&◌, true≢false}
use mathlib.Core.List.{List, ◌++◌, map, map-append}
use Prim.Native.Nat.{ℕ, zero, suc, ◌+◌, ◌-◌, ◌*◌, ◌<◌, min}
use native.Mathlib.Nat.{zero-mul}
use native.Mathlib.Omega.{arith}
use borrow.Author.Tests.{lt-ltb}
use lib.Dec.{T, eqb, ltb}
use lib.IntN.{pos}
use lib.Ieee.{Float, nan, inf, fin, binary32, up, down, neg, sum, add, sub, round, eq, fits, is_nan}
use lib.ListN.{length, get_or, get_or-map}
use Rattle.lists.specs.Table.{table}
use Rattle.lists.proofs.Lengths.{length_map}
use Rattle.lists.proofs.Maps.{table_map}
use Rattle.lists.proofs.Table.{table_same}
use Rattle.floats.specs.Arithmetic.{◌-₃₂◌, ◌*₃₂◌, zero32}
use Rattle.floats.specs.Leaves.{negative, abs}
use Rattle.floats.specs.Values.{pos_zero, Alike}
use Rattle.floats.proofs.Laws.Order.{number}
use Rattle.floats.proofs.Laws.Signs.{alike_sym, abs_neg, round_neg}
use Rattle.floats.proofs.Laws.Zeros.{zero_is, zero_plain, zero_alike}
use Rattle.hypot.proofs.Laws.Signs.{hypot_by_abs}
use Rattle.game.specs.Players.{player_numbered, team_of_side}
use Rattle.game.specs.declared.FieldDimensions.{FieldDimensions}
use Rattle.game.specs.declared.Placement.{Placement}
use Rattle.game.specs.declared.Placement.TheVariants.{NoPlace, PlayerAt}
use Rattle.game.specs.declared.PlayerPose.{PlayerPose}
use Rattle.game.specs.declared.Side.{Side}
use Rattle.game.specs.declared.Side.TheVariants.{Home, Away}
use Rattle.game.specs.declared.Situation.{Situation}
use Rattle.game.specs.declared.Team.{Team}
use Rattle.game.specs.declared.Wish.{Wish}
use Rattle.game.specs.declared.Wish.TheVariants.{Nothing, BallAtRestart, BallInSet, ForPenalty, ForPenaltyShot, Goalkeeper}
use Rattle.geometry.specs.Geometry.{side_to_sign}
use Rattle.clearance.specs.Clearance.{Spot, team_spots, earlier_spots, left_out, occupied, distance_from, least_of, clearance}
use Rattle.penalty.specs.Penalty.{edge_of, inward, clear_from, pose_place, seen_place, place_for_penalty}
use Rattle.penalty.proofs.Turned.{team_place_changed}
use Rattle.decision.specs.Decision.{side_decision, kicking_player, side_margins, ball_called, place_for, wished_place, decision_of}
use Rattle.game.specs.declared.Decision.{Decision}
use Rattle.places_hold.specs.Claims.{unsigned_zero, EarlierZerosClaim}
use Rattle.std.specs.Prelude.{Option, None, Some}

-- ---- a value, and the same without the sign of a zero
no_nan : (x : Float) → eq x zero32 ≡ true → is_nan x ≡ false
unfolding eq is_nan
no_nan nan e = absurd (true≢false (sym e))
no_nan (inf s) e = refl
no_nan (fin s m e) h = refl

alike : (x : Float) → T (fits binary32 x) → Alike (unsigned_zero x) x
alike x q = go (eq x zero32) refl
  where
    go : (b : Bool) → eq x zero32 ≡ b → Alike (cond b zero32 x) x
    go true e = rw zero_plain (alike_sym x pos_zero (zero_alike x (number binary32 x q (no_nan x e)) e))
    go false e = inl refl

-- ---- a difference from a zero has one magnitude
abs_round : (s : Bool) (n c : ℕ) → abs (round binary32 s n c) ≡ abs (round binary32 false n c)
abs_round true n c = ap abs (round_neg binary32 false n c) ∙ abs_neg (round binary32 false n c)
abs_round false n c = refl

plain : (b : ℕ) → 0 + b ≡ b
plain b = omega arith

less : (b : ℕ) → suc b - 0 ≡ suc b
less b = omega arith

-- a summand above the zero
above : (t : Bool) (b c : ℕ) (other : Float) → abs (cond (ltb 0 (suc b)) (round binary32 t (suc b - 0) c) other) ≡ abs (round binary32 false (suc b) c)
above t b c other =
    ap (λ (z : Bool). abs (cond z (round binary32 t (suc b - 0) c) other)) (lt-ltb 0 (suc b) (omega arith)) ∙ ap (λ (n : ℕ). abs (round binary32 t n c)) (less b) ∙ abs_round t (suc b) c

sum_zero : (s t : Bool) (b c : ℕ) → abs (sum binary32 s 0 t b c) ≡ abs (round binary32 false b c)
unfolding sum
sum_zero true true b c = ap (λ (n : ℕ). abs (round binary32 true n c)) (plain b) ∙ abs_round true b c
sum_zero false false b c = ap (λ (n : ℕ). abs (round binary32 false n c)) (plain b)
sum_zero true false zero c = refl
sum_zero true false (suc b) c = above false b c (round binary32 (true && ltb (suc b) 0) (0 - suc b) c)
sum_zero false true zero c = refl
sum_zero false true (suc b) c = above true b c (round binary32 (false && ltb (suc b) 0) (0 - suc b) c)

zero_sub : (s t : Bool) (u : Float) → abs (fin s 0 (pos 0) -₃₂ u) ≡ abs (fin t 0 (pos 0) -₃₂ u)
unfolding sub add neg
zero_sub s t nan = refl
zero_sub s t (inf r) = refl
zero_sub s t (fin r n d) = told s ∙ sym (told t)
  where
    told : (s : Bool) → abs (sum binary32 s (0 * 1 * down d) (not r) (n * up d * 1) (1 * down d)) ≡ abs (round binary32 false (n * up d * 1) (1 * down d))
    told s = ap (λ (z : ℕ). abs (sum binary32 s z (not r) (n * up d * 1) (1 * down d))) (zero-mul (down d)) ∙ sum_zero s (not r) (n * up d * 1) (1 * down d)

difference : (x' x u : Float) → Alike x' x → abs (x' -₃₂ u) ≡ abs (x -₃₂ u)
difference x' x u (inl e) = ap (λ (v : Float). abs (v -₃₂ u)) e
difference x' x u (inr h) =
    ap (λ (v : Float). abs (v -₃₂ u)) (zero_is x' h.0) ∙ zero_sub (negative x') (negative x) u ∙ ap (λ (v : Float). abs (v -₃₂ u)) (sym (zero_is x h.1))

-- ---- the clearance
module _ (xs ys : List Float) (fx : (i : ℕ) → T (fits binary32 (get_or xs i nan))) (fy : (i : ℕ) → T (fits binary32 (get_or ys i nan))) where
  abbrev xs' : List Float
  xs' = map unsigned_zero xs

  abbrev ys' : List Float
  ys' = map unsigned_zero ys

  at : (l : List Float) (k : ℕ) → get_or (map unsigned_zero l) k nan ≡ unsigned_zero (get_or l k nan)
  at l k = ap (get_or (map unsigned_zero l) k) still ∙ get_or-map unsigned_zero l k nan
    where
      still : nan ≡ unsigned_zero nan
      still = unfold eq in refl

  abbrev before : ℕ → Spot
  before k = record { x = get_or xs k nan; y = get_or ys k nan }

  abbrev after : ℕ → Spot
  after k = record { x = get_or xs' k nan; y = get_or ys' k nan }

  earlier_same : (x y : Float) → map (distance_from x y) (earlier_spots xs' ys') ≡ map (distance_from x y) (earlier_spots xs ys)
  earlier_same x y =
      ap₂ (λ (m n : ℕ). map (distance_from x y) (table (min m n) after)) (length_map unsigned_zero xs) (length_map unsigned_zero ys)
      ∙ sym (table_map (distance_from x y) (min (length xs) (length ys)) after)
      ∙ table_same (min (length xs) (length ys)) (λ k. distance_from x y (after k)) (λ k. distance_from x y (before k)) (λ k h. one k)
      ∙ table_map (distance_from x y) (min (length xs) (length ys)) before
    where
      one : (k : ℕ) → distance_from x y (after k) ≡ distance_from x y (before k)
      one k =
          hypot_by_abs (get_or xs' k nan -₃₂ x) (get_or xs k nan -₃₂ x) (get_or ys' k nan -₃₂ y) (get_or ys k nan -₃₂ y)
          (ap (λ (v : Float). abs (v -₃₂ x)) (at xs k) ∙ difference (unsigned_zero (get_or xs k nan)) (get_or xs k nan) x (alike (get_or xs k nan) (fx k)))
          (ap (λ (v : Float). abs (v -₃₂ y)) (at ys k) ∙ difference (unsigned_zero (get_or ys k nan)) (get_or ys k nan) y (alike (get_or ys k nan) (fy k)))

  module _ (home away : Team) (side : Side) (number : ℕ) where
    clearance_same : (x y : Float) → clearance (occupied home away side number xs' ys') x y ≡ clearance (occupied home away side number xs ys) x y
    unfolding clearance occupied
    clearance_same x y = ap (least_of (inf false)) (parted xs' ys' ∙ ap (λ (t : List Float). map g h ++ (map g w ++ t)) (earlier_same x y) ∙ sym (parted xs ys))
      where
        g : Spot → Float
        g = distance_from x y

        h : List Spot
        h = team_spots home (left_out side number Home)

        w : List Spot
        w = team_spots away (left_out side number Away)

        parted : (us vs : List Float) → map g (h ++ (w ++ earlier_spots us vs)) ≡ map g h ++ (map g w ++ map g (earlier_spots us vs))
        parted us vs = map-append g h (w ++ earlier_spots us vs) ∙ ap (λ (t : List Float). map g h ++ t) (map-append g w (earlier_spots us vs))

    -- ---- the place of a penalised player
    seen_same : (f : FieldDimensions) (d sign : Float) (pose : Option PlayerPose) → seen_place f d sign pose (occupied home away side number xs' ys') side number ≡ seen_place f d sign pose (occupied home away side number xs ys) side number
    unfolding pose_place
    seen_same f d sign None = refl
    seen_same f d sign (Some p) =
        ap (λ (z : Float). PlayerAt side number (sign *₃₂ z) (edge_of f p) (inward (edge_of f p)))
        (team_place_changed (clear_from sign (edge_of f p) (occupied home away side number xs' ys')) (clear_from sign (edge_of f p) (occupied home away side number xs ys)) (λ x. clearance_same (sign *₃₂ x) (edge_of f p)) f p.radius d)

  -- ---- the decision
  for_same : (s : Situation) (w : Wish) → place_for w s xs' ys' ≡ place_for w s xs ys
  unfolding place_for_penalty
  for_same s Nothing = refl
  for_same s BallAtRestart = refl
  for_same s BallInSet = refl
  for_same s (ForPenalty side number) =
      let pose = (player_numbered (team_of_side s.home s.away side) number).pose in
      ap₂ (λ (m n : ℕ). cond (eqb m n) (seen_place s.field s.penalty_placement_distance (side_to_sign side s.game.sides) pose (occupied s.home s.away side number xs' ys') side number) NoPlace) (length_map unsigned_zero xs) (length_map unsigned_zero ys)
      ∙ ap (λ (p : Placement). cond (eqb (length xs) (length ys)) p NoPlace) (seen_same s.home s.away side number s.field s.penalty_placement_distance (side_to_sign side s.game.sides) pose)
  for_same s (ForPenaltyShot side number) = refl
  for_same s (Goalkeeper side) = refl

  decision_same : (s : Situation) → decision_of s xs' ys' ≡ decision_of s xs ys
  unfolding decision_of wished_place
  decision_same s =
      ap (λ (p : Placement). record { home = side_decision s Home; away = side_decision s Away; kicker = kicking_player s.game s.home s.away s.field (side_margins s Home) (side_margins s Away); ball = ball_called s; place = p }) (for_same s s.wish)

pub earlier_zeros : EarlierZerosClaim
earlier_zeros s xs ys fx fy = decision_same xs ys fx fy s
