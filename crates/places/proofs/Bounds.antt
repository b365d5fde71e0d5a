-- With sizes that are accepted the bounds of both clamps are in order: the throw-in is between the middles of the goal lines, the goalkeeper between the posts. Assumes nothing.
use mathlib.Core.Path.{◌≡◌, refl, sym, ap, subst, ◌∙◌}
use mathlib.Core.Bool.{Bool, true, false, cond}
use native.Mathlib.Omega.{arith}
use lib.Dec.{T}
use lib.Ieee.{Float, binary32, neg, sub, mul, lt, le, fits, is_nan, of_bits}
use lib.Ieee.Fits.{mul-fits, sub-fits}
use Rattle.floats.specs.Arithmetic.{◌-₃₂◌, ◌*₃₂◌, zero32, half, one, two, four, sixty_four}
use Rattle.floats.specs.Leaves.{negative, maximum_number}
use Rattle.floats.specs.Values.{Number, Finite}
use Rattle.floats.proofs.Laws.Constants.{bits_finite, zero_finite, half_finite, one_finite, two_finite, four_finite, sixty_four_finite, zero_number, half_not_below, half_of_four}
use Rattle.floats.proofs.Laws.Order.{nlt→≤, ≤→le, lt→<, le_trans_f, neg_number, number}
use Rattle.floats.proofs.Laws.Products.{mul_mono}
use Rattle.floats.proofs.Laws.Rounding.{sub_number, sub_grows, finite_between}
use Rattle.floats.proofs.Laws.Signs.{le_neg}
use Rattle.game.specs.declared.FieldDimensions.{FieldDimensions}
use Rattle.game.specs.declared.PlayerPose.{PlayerPose}
use Rattle.places.specs.Places.{goal_line_x, post_y}

-- ---- half of a size
abbrev pub thirty_two : Float
thirty_two = of_bits binary32 0x4200_0000

pub thirty_two_finite : Finite binary32 thirty_two
thirty_two_finite = bits_finite 0x4200_0000 (unfold of_bits in tt)

half_of_sixty_four : sixty_four *₃₂ half ≡ thirty_two
unfolding mul of_bits
half_of_sixty_four = refl

-- of a length or width from 4 to 64
module _ (x : Float) (q : T (fits binary32 x)) (l : le four x ≡ true) (h : le x sixty_four ≡ true) where
  side_finite : Finite binary32 x
  side_finite = finite_between binary32 four x sixty_four four_finite q sixty_four_finite l h

  pub half_least : le two (x *₃₂ half) ≡ true
  half_least = ap (λ (v : Float). le v (x *₃₂ half)) (sym half_of_four) ∙ mul_mono binary32 four x half four_finite side_finite half_finite half_not_below l

  pub half_most : le (x *₃₂ half) thirty_two ≡ true
  half_most = ap (le (x *₃₂ half)) (sym half_of_sixty_four) ∙ mul_mono binary32 x sixty_four half side_finite sixty_four_finite half_finite half_not_below h

  pub half_is_finite : Finite binary32 (x *₃₂ half)
  half_is_finite = finite_between binary32 two (x *₃₂ half) thirty_two two_finite (mul-fits binary32 x half) thirty_two_finite half_least half_most

-- ---- a bound that is not below zero, and its opposite
pub opposites : (x : Float) → Number binary32 x → le zero32 x ≡ true → le (neg x) x ≡ true
opposites x n l =
    le_trans_f binary32 (neg x) (neg zero32) x (neg_number binary32 x n) z n (le_neg zero32 x ∙ l)
    (le_trans_f binary32 (neg zero32) zero32 x z zero_number n (unfold of_bits le neg in refl) l)
  where
    z : Number binary32 (neg zero32)
    z = neg_number binary32 zero32 zero_number

-- ---- the throw-in: the middle of a goal line
-- The sizes that it is found by: the field is 4 to 64 long, its lines are up to 1 wide. Each is a binary32, as every f32 is.
pub record LineSizes (f : FieldDimensions) : Type 0 where
  pub length_fits : T (fits binary32 f.length)
  pub length_least : le four f.length ≡ true
  pub length_most : le f.length sixty_four ≡ true
  pub line_fits : T (fits binary32 f.line_width)
  pub line_least : le zero32 f.line_width ≡ true
  pub line_most : le f.line_width one ≡ true

half_of_zero : zero32 *₃₂ half ≡ zero32
unfolding mul of_bits
half_of_zero = refl

half_of_one : one *₃₂ half ≡ half
unfolding mul of_bits
half_of_one = refl

two_less_half : le zero32 (two -₃₂ half) ≡ true
unfolding sub of_bits le
two_less_half = refl

module _ (f : FieldDimensions) (s : LineSizes f) where
  line_finite : Finite binary32 f.line_width
  line_finite = finite_between binary32 zero32 f.line_width one zero_finite s.line_fits one_finite s.line_least s.line_most

  half_line_least : le zero32 (f.line_width *₃₂ half) ≡ true
  half_line_least = ap (λ (v : Float). le v (f.line_width *₃₂ half)) (sym half_of_zero) ∙ mul_mono binary32 zero32 f.line_width half zero_finite line_finite half_finite half_not_below s.line_least

  half_line_most : le (f.line_width *₃₂ half) half ≡ true
  half_line_most = ap (le (f.line_width *₃₂ half)) (sym half_of_one) ∙ mul_mono binary32 f.line_width one half line_finite one_finite half_finite half_not_below s.line_most

  half_line_finite : Finite binary32 (f.line_width *₃₂ half)
  half_line_finite = finite_between binary32 zero32 (f.line_width *₃₂ half) half zero_finite (mul-fits binary32 f.line_width half) half_finite half_line_least half_line_most

  half_length_finite : Finite binary32 (f.length *₃₂ half)
  half_length_finite = half_is_finite f.length s.length_fits s.length_least s.length_most

  pub goal_line_number : Number binary32 (goal_line_x f)
  goal_line_number = sub_number binary32 (f.length *₃₂ half) (f.line_width *₃₂ half) half_length_finite half_line_finite

  goal_line_least : le zero32 (goal_line_x f) ≡ true
  goal_line_least =
      le_trans_f binary32 zero32 (two -₃₂ half) (goal_line_x f) zero_number (sub_number binary32 two half two_finite half_finite) goal_line_number two_less_half
      (sub_grows binary32 two (f.length *₃₂ half) half (f.line_width *₃₂ half) two_finite half_length_finite half_finite half_line_finite (half_least f.length s.length_fits s.length_least s.length_most) half_line_most)

  -- the middles of the two goal lines
  pub goal_lines_in_order : le (neg (goal_line_x f)) (goal_line_x f) ≡ true
  goal_lines_in_order = opposites (goal_line_x f) goal_line_number goal_line_least

-- ---- the goalkeeper: how far it may stand from the middle of the goal; for any sizes
-- a number, and at least zero
abbrev NotBelowZero : Float → Type 0
NotBelowZero v = Number binary32 v × (le zero32 v ≡ true)

-- as the greater of a value and zero, for which zero stands where the value is a NaN
max_zero : (x : Float) → T (fits binary32 x) → NotBelowZero (maximum_number x zero32)
unfolding maximum_number
max_zero x q = subst NotBelowZero (sym (ap (λ (b : Bool). cond (is_nan x) zero32 (cond b x (cond (lt zero32 x) x (cond (lt x zero32) zero32 (cond (negative x) zero32 x))))) zero_no_nan)) (go (is_nan x) (lt zero32 x) (lt x zero32) (negative x) refl refl refl)
  where
    zero_no_nan : is_nan zero32 ≡ false
    zero_no_nan = unfold of_bits is_nan in refl

    zero_least : le zero32 zero32 ≡ true
    zero_least = unfold of_bits le in refl

    go : (n a b s : Bool) → is_nan x ≡ n → lt zero32 x ≡ a → lt x zero32 ≡ b → NotBelowZero (cond n zero32 (cond a x (cond b zero32 (cond s zero32 x))))
    go true a b s e g k = (zero_number, zero_least)
    go false true b s e g k = let n = number binary32 x q e in (n, ≤→le binary32 zero32 x zero_number n (omega (arith, lt→< binary32 zero32 x zero_number n g)))
    go false false true s e g k = (zero_number, zero_least)
    go false false false true e g k = (zero_number, zero_least)
    go false false false false e g k = let n = number binary32 x q e in (n, ≤→le binary32 zero32 x zero_number n (nlt→≤ binary32 x zero32 n zero_number k))

pub post_number : (f : FieldDimensions) (p : PlayerPose) → Number binary32 (post_y f p)
post_number f p = (max_zero (f.goal_width *₃₂ half -₃₂ p.radius) (sub-fits binary32 (f.goal_width *₃₂ half) p.radius)).0

pub posts_in_order : (f : FieldDimensions) (p : PlayerPose) → le (neg (post_y f p)) (post_y f p) ≡ true
posts_in_order f p = opposites (post_y f p) (post_number f p) (max_zero (f.goal_width *₃₂ half -₃₂ p.radius) (sub-fits binary32 (f.goal_width *₃₂ half) p.radius)).1
