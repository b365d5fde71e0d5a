-- With sizes that are accepted a player is placed 1 at least from y zero, so y is above or below zero, and the heading, which goes by that, turns with the field.
-- Assumes nothing.
use mathlib.Core.Path.{◌≡◌, refl, sym, ap, subst, ◌∙◌}
use mathlib.Core.Bool.{Bool, true, false, not, cond}
use native.Mathlib.Omega.{arith}
use lib.Dec.{T}
use lib.Ieee.{Float, nan, inf, fin, binary32, neg, add, lt, le, fits, is_nan, of_bits}
use lib.Ieee.Fits.{add-fits}
use Rattle.floats.specs.Arithmetic.{◌+₃₂◌, ◌-₃₂◌, ◌*₃₂◌, zero32, half, one, two, four, pi, sixty_four}
use Rattle.floats.specs.Leaves.{with_sign, negative}
use Rattle.floats.specs.Values.{Number, Finite}
use Rattle.floats.proofs.Laws.Constants.{bits_finite, zero_finite, one_finite, two_finite, sixty_four_finite, zero_number, one_number, zero_below_one, two_and_zero, two_less_one}
use Rattle.floats.proofs.Laws.Order.{lt→<, <→lt, le→≤, ≤→le, le_numbers, number}
use Rattle.floats.proofs.Laws.Rounding.{sub_number, add_grows, sub_grows, finite_between}
use Rattle.floats.proofs.Laws.Signs.{mul_neg_left}
use Rattle.game.specs.declared.FieldDimensions.{FieldDimensions}
use Rattle.game.specs.declared.PlayerPose.{PlayerPose}
use Rattle.geometry.specs.Turned.{signed}
use Rattle.places.proofs.Bounds.{thirty_two, thirty_two_finite, half_least, half_most, half_is_finite}
use Rattle.places.specs.Turned.{quarter_turn, GivenHeading, from_quarter, from_negative}
use Rattle.penalty.specs.Penalty.{edge_of, inward}
use Rattle.std.specs.Prelude.{Option, None, Some}

-- The sizes that a place is found by: the field is 4 to 64 wide, its border strip up to 64, the player's radius up to 1 and above 0. Each is a binary32, as every f32 is.
pub record PlaceSizes (f : FieldDimensions) (p : PlayerPose) : Type 0 where
  pub width_fits : T (fits binary32 f.width)
  pub width_least : le four f.width ≡ true
  pub width_most : le f.width sixty_four ≡ true
  pub border_fits : T (fits binary32 f.border_strip_width)
  pub border_least : le zero32 f.border_strip_width ≡ true
  pub border_most : le f.border_strip_width sixty_four ≡ true
  pub radius_fits : T (fits binary32 p.radius)
  pub radius_above : lt zero32 p.radius ≡ true
  pub radius_most : le p.radius one ≡ true
  pub y_no_nan : T (not (is_nan p.y))

-- the same of a pose, where there is one
abbrev pub Fit : FieldDimensions → Option PlayerPose → Type 0
Fit f None = T true
Fit f (Some p) = PlaceSizes f p

-- ---- the constant 96, and what it comes from
ninety_six : Float
ninety_six = of_bits binary32 0x42c0_0000

ninety_six_finite : Finite binary32 ninety_six
unfolding ninety_six
ninety_six_finite = bits_finite 0x42c0_0000 (unfold of_bits in tt)

thirty_two_and_sixty_four : thirty_two +₃₂ sixty_four ≡ ninety_six
unfolding ninety_six add of_bits
thirty_two_and_sixty_four = refl

-- a binary32 above zero and at most 1
pub small_finite : (r : Float) → T (fits binary32 r) → lt zero32 r ≡ true → le r one ≡ true → Finite binary32 r
small_finite r q l h = finite_between binary32 zero32 r one zero_finite q one_finite (≤→le binary32 zero32 r zero_number n (omega (arith, lt→< binary32 zero32 r zero_number n l))) h
  where
    n : Number binary32 r
    n = number binary32 r q (le_numbers r one h).0

-- ---- the edge of the carpet
module _ (f : FieldDimensions) (p : PlayerPose) (s : PlaceSizes f p) where
  -- half the width is from 2 to 32, and with the border strip it is from 2 to 96
  border_finite : Finite binary32 f.border_strip_width
  border_finite = finite_between binary32 zero32 f.border_strip_width sixty_four zero_finite s.border_fits sixty_four_finite s.border_least s.border_most

  radius_finite : Finite binary32 p.radius
  radius_finite = small_finite p.radius s.radius_fits s.radius_above s.radius_most

  touchline_least : le two (f.width *₃₂ half) ≡ true
  touchline_least = half_least f.width s.width_fits s.width_least s.width_most

  touchline_most : le (f.width *₃₂ half) thirty_two ≡ true
  touchline_most = half_most f.width s.width_fits s.width_least s.width_most

  touchline_finite : Finite binary32 (f.width *₃₂ half)
  touchline_finite = half_is_finite f.width s.width_fits s.width_least s.width_most

  carpet : Float
  carpet = f.width *₃₂ half +₃₂ f.border_strip_width

  carpet_least : le two carpet ≡ true
  unfolding carpet
  carpet_least =
      ap (λ (v : Float). le v (f.width *₃₂ half +₃₂ f.border_strip_width)) (sym two_and_zero)
      ∙ add_grows binary32 two (f.width *₃₂ half) zero32 f.border_strip_width two_finite touchline_finite zero_finite border_finite touchline_least s.border_least

  carpet_most : le carpet ninety_six ≡ true
  unfolding carpet
  carpet_most =
      ap (le (f.width *₃₂ half +₃₂ f.border_strip_width)) (sym thirty_two_and_sixty_four)
      ∙ add_grows binary32 (f.width *₃₂ half) thirty_two f.border_strip_width sixty_four touchline_finite thirty_two_finite border_finite sixty_four_finite touchline_most s.border_most

  carpet_finite : Finite binary32 carpet
  carpet_finite = finite_between binary32 two carpet ninety_six two_finite (unfold carpet in add-fits binary32 (f.width *₃₂ half) f.border_strip_width) ninety_six_finite carpet_least carpet_most

  -- the player's middle is 1 at least from y zero
  pub edge_least : le one (f.width *₃₂ half +₃₂ f.border_strip_width -₃₂ p.radius) ≡ true
  unfolding carpet
  edge_least =
      ap (λ (v : Float). le v (carpet -₃₂ p.radius)) (sym two_less_one)
      ∙ sub_grows binary32 two carpet one p.radius two_finite carpet_finite one_finite radius_finite carpet_least s.radius_most

  -- so it is above zero
  pub edge_above : lt zero32 (f.width *₃₂ half +₃₂ f.border_strip_width -₃₂ p.radius) ≡ true
  unfolding carpet
  edge_above =
      <→lt binary32 zero32 (carpet -₃₂ p.radius) zero_number e
      (omega (arith, lt→< binary32 zero32 one zero_number one_number zero_below_one, le→≤ binary32 one (carpet -₃₂ p.radius) one_number e edge_least))
    where
      e : Number binary32 (carpet -₃₂ p.radius)
      e = sub_number binary32 carpet p.radius carpet_finite radius_finite

-- ---- the heading
-- a magnitude with a sign is above zero where the sign is off
above_signed : (t : Bool) (x : Float) → lt zero32 x ≡ true → lt zero32 (with_sign t x) ≡ not t
unfolding lt of_bits with_sign
above_signed t nan h = absurd (subst T (sym h) tt)
above_signed true (inf s) h = refl
above_signed false (inf true) h = absurd (subst T (sym h) tt)
above_signed false (inf false) h = refl
above_signed true (fin s m e) h = refl
above_signed false (fin true m e) h = absurd (subst T (sym h) tt)
above_signed false (fin false m e) h = h

-- a change of its sign
neg_signed : (t : Bool) (x : Float) → neg (with_sign t x) ≡ with_sign (not t) x
unfolding neg with_sign
neg_signed t nan = refl
neg_signed t (inf s) = refl
neg_signed t (fin s m e) = refl

-- of a y that is not zero the heading turns with its sign
signed_changed : (a b t : Bool) (x : Float) → lt zero32 x ≡ true → GivenHeading a b (inward (with_sign t x)) (inward (signed b (with_sign t x)))
signed_changed a true t x h = rw (neg_signed t x, above_signed t x h, above_signed (not t) x h, mul_neg_left binary32 pi half) (go t)
  where
    go : (t : Bool) → GivenHeading a true (cond (not t) (neg quarter_turn) quarter_turn) (cond (not (not t)) (neg quarter_turn) quarter_turn)
    go true = from_quarter
    go false = from_negative
signed_changed a false t x h = rw (above_signed t x h, mul_neg_left binary32 pi half) (go t)
  where
    go : (t : Bool) → GivenHeading a false (cond (not t) (neg quarter_turn) quarter_turn) (cond (not t) (neg quarter_turn) quarter_turn)
    go true = from_quarter
    go false = from_negative

-- the heading of a place
pub heading_changed : (a b : Bool) (f : FieldDimensions) (p : PlayerPose) → PlaceSizes f p → GivenHeading a b (inward (edge_of f p)) (inward (signed b (edge_of f p)))
heading_changed a b f p s = signed_changed a b (negative p.y) (f.width *₃₂ half +₃₂ f.border_strip_width -₃₂ p.radius) (edge_above f p s)
