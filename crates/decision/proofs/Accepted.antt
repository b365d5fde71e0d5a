-- What an accepted situation's floats are: coordinates within 64 either way, sizes of the field in their ranges. Assumes nothing.
use mathlib.Core.Path.{◌≡◌, refl}
use mathlib.Core.Bool.{true, not, ◌&&◌}
use Prim.Native.Nat.{ℕ}
use lib.Dec.{T}
use lib.Ieee.{Float, binary32, neg, le, fits, is_nan, of_bits}
use Rattle.lists.proofs.Bools.{both_true}
use Rattle.floats.specs.Arithmetic.{zero32, four, sixty_four}
use Rattle.floats.specs.Values.{pos_zero, Number, Within}
use Rattle.floats.proofs.Laws.Constants.{bits_number, four_finite, sixty_four_number}
use Rattle.floats.proofs.Laws.Order.{le_trans_f, pos_zero_number, neg_number, le_numbers, number}
use Rattle.floats.proofs.Laws.Rounding.{finite_number}
use Rattle.floats.proofs.Laws.Within.{finite_within}
use Rattle.game.specs.declared.Ball.{Ball}
use Rattle.game.specs.declared.FieldDimensions.{FieldDimensions}
use Rattle.places.proofs.Turned.{Located}
use Rattle.ball.proofs.Sizes.{Sized}
use Rattle.refusals.specs.Refusals.{within, is_size, is_coordinate, field_fits, ball_fits}
use Rattle.refusals.proofs.Accepted.{field_ranges}

-- ---- from a range to a number within 64
pub between : (lo x hi : Float) → T (fits binary32 x) → within lo x hi ≡ true → Number binary32 x
between lo x hi f e = number binary32 x f (le_numbers x hi (both_true (le lo x) (le x hi) e).1).0

pub coordinate_within : (x : Float) → T (fits binary32 x) → is_coordinate x ≡ true → Within x
coordinate_within x f e =
    let p = both_true (le (neg sixty_four) x) (le x sixty_four) e in
    record { number = between (neg sixty_four) x sixty_four f e; lowest = p.0; highest = p.1 }

-- a range from lo, which is not below -64, to 64
pub range_within : (b : ℕ) (x : Float) → T (fits binary32 x) → T (not (is_nan (of_bits binary32 b))) → le (neg sixty_four) (of_bits binary32 b) ≡ true → within (of_bits binary32 b) x sixty_four ≡ true → Within x
range_within b x f n l e =
    let p = both_true (le (of_bits binary32 b) x) (le x sixty_four) e in
    let q = between (of_bits binary32 b) x sixty_four f e in
    record {
      number = q;
      lowest = le_trans_f binary32 (neg sixty_four) (of_bits binary32 b) x (neg_number binary32 sixty_four sixty_four_number) (bits_number b n) q l p.0;
      highest = p.1;
    }

pub size_within : (x : Float) → T (fits binary32 x) → is_size x ≡ true → Within x
unfolding of_bits is_nan le neg
size_within x f e = range_within 0 x f tt refl e

-- ---- the ball
pub ball_located : (o : Ball) → T (fits binary32 o.x) → T (fits binary32 o.y) → ball_fits o ≡ true → Located o
ball_located o f g e =
    let p = (both_true (is_coordinate o.x && is_coordinate o.y) (is_coordinate o.z) e).0 in
    let q = both_true (is_coordinate o.x) (is_coordinate o.y) p in
    record { x_number = (coordinate_within o.x f q.0).number; y_number = (coordinate_within o.y g q.1).number }

-- ---- the field
pub field_sized : (f : FieldDimensions) → T (fits binary32 f.length) → T (fits binary32 f.ball_radius) → field_fits f ≡ true → Sized f
unfolding of_bits is_nan le neg
field_sized f g h e =
    let r = field_ranges f e in
    let w = range_within 0x4080_0000 f.length g tt refl r.length_range in
    let v = size_within f.ball_radius h r.radius_range in
    record {
      length_finite = finite_within f.length w;
      radius_finite = finite_within f.ball_radius v;
      length_least = le_trans_f binary32 pos_zero four f.length (pos_zero_number binary32) (finite_number binary32 four four_finite) w.number refl (both_true (le four f.length) (le f.length sixty_four) r.length_range).0;
      radius_least = (both_true (le zero32 f.ball_radius) (le f.ball_radius sixty_four) r.radius_range).0;
    }
