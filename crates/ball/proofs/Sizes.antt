-- On a field of a size the middle of the field is not past a goal line. Assumes nothing.
use mathlib.Core.Path.{◌≡◌, refl, ap, ◌∙◌, subst}
use mathlib.Core.Bool.{Bool, true, false, not}
use Prim.Native.Nat.{ℕ, ◌+◌}
use native.Mathlib.Omega.{arith}
use lib.Dec.{T}
use lib.Ieee.{Float, binary32, mul, lt, le, is_nan, of_bits}
use lib.Ieee.Fits.{mul-fits, add-fits}
use Rattle.floats.specs.Arithmetic.{◌+₃₂◌, ◌*₃₂◌, half}
use Rattle.floats.specs.Height.{height}
use Rattle.floats.specs.Values.{pos_zero, Alike, Number, Finite}
use Rattle.floats.proofs.Laws.Signs.{alike_refl}
use Rattle.floats.proofs.Laws.Zeros.{alike_le}
use Rattle.floats.proofs.Laws.Constants.{pos_zero_finite, half_finite, half_not_below}
use Rattle.floats.proofs.Laws.Order.{lt→<, le→≤, le_trans_f, pos_zero_number, pos_zero_height, lt_numbers, le_numbers, no_nan, number}
use Rattle.floats.proofs.Laws.Rounding.{finite_number, add_number, add_mono, add_exact}
use Rattle.floats.proofs.Laws.Products.{mul_mono}
use Rattle.game.specs.declared.FieldDimensions.{FieldDimensions}

-- the field's length and the ball's radius are not below zero, nor infinite
pub record Sized (f : FieldDimensions) : Type 0 where
  pub length_finite : Finite binary32 f.length
  pub radius_finite : Finite binary32 f.ball_radius
  pub length_least : le pos_zero f.length ≡ true
  pub radius_least : le pos_zero f.ball_radius ≡ true

-- where the middle of a ball is past the goal line
abbrev pub goal_line_edge : FieldDimensions → Float
goal_line_edge f = f.length *₃₂ half +₃₂ f.ball_radius

-- half of a length that is not below zero is not below zero
half_size_not_below : (l : Float) → Finite binary32 l → le pos_zero l ≡ true → le pos_zero (l *₃₂ half) ≡ true
half_size_not_below l p h = subst (λ (z : Float). le z (l *₃₂ half) ≡ true) none (mul_mono binary32 pos_zero l half pos_zero_finite p half_finite half_not_below h)
  where
    none : pos_zero *₃₂ half ≡ pos_zero
    none = unfold mul of_bits in refl

-- and the sum with a radius that is not below zero is not either
sum_not_below : (x r : Float) → Number binary32 x → Finite binary32 r → T (not (is_nan (x +₃₂ r))) → le pos_zero x ≡ true → le pos_zero r ≡ true → le pos_zero (x +₃₂ r) ≡ true
sum_not_below x r p q n h k =
    let zero_sum : Number binary32 (pos_zero +₃₂ r) = add_number binary32 pos_zero r pos_zero_finite q in
    let alone : Alike (pos_zero +₃₂ r) r = add_exact binary32 pos_zero r r pos_zero_finite q q (ap (λ (z : ℕ). z + height binary32 r) (pos_zero_height binary32)) in
    le_trans_f binary32 pos_zero (pos_zero +₃₂ r) (x +₃₂ r) (pos_zero_number binary32) zero_sum (record { fit = add-fits binary32 x r; no_nan = n })
    (alike_le pos_zero pos_zero (pos_zero +₃₂ r) r (alike_refl pos_zero) alone ∙ k)
    (add_mono binary32 pos_zero x r (pos_zero_number binary32) p (finite_number binary32 r q) zero_sum.no_nan n h)

pub middle_inside : (f : FieldDimensions) → Sized f → lt (goal_line_edge f) pos_zero ≡ false
middle_inside f s = go (lt (goal_line_edge f) pos_zero) refl
  where
    go : (b : Bool) → lt (goal_line_edge f) pos_zero ≡ b → b ≡ false
    go false e = refl
    go true e =
        let sum : T (not (is_nan (goal_line_edge f))) = no_nan (goal_line_edge f) (lt_numbers (goal_line_edge f) pos_zero e).0 in
        let side : le pos_zero (f.length *₃₂ half) ≡ true = half_size_not_below f.length s.length_finite s.length_least in
        let sized : Number binary32 (f.length *₃₂ half) = number binary32 (f.length *₃₂ half) (mul-fits binary32 f.length half) (le_numbers pos_zero (f.length *₃₂ half) side).1 in
        let edge : Number binary32 (goal_line_edge f) = record { fit = add-fits binary32 (f.length *₃₂ half) f.ball_radius; no_nan = sum } in
        let above = sum_not_below (f.length *₃₂ half) f.ball_radius sized s.radius_finite sum side s.radius_least in
        absurd (omega (arith, lt→< binary32 (goal_line_edge f) pos_zero edge (pos_zero_number binary32) e, le→≤ binary32 pos_zero (goal_line_edge f) (pos_zero_number binary32) edge above))
